-- `whole::write_line` meets its contract: what its call puts as a line is written whole or not at all.
use Rattle.std.specs.Prelude.{[], ◌∷◌}
use Rattle.std.proofs.Common.{rules}
use Rattle.fields.specs.Parts.{said}
use Rattle.codec.proofs.Whole.{written_whole}
use Rattle.whole.proofs.write_line.Goals as goal

pub returns : goal.returns
returns c = written_whole 32 c.args.first (said c.args.text.now c.args.at ∷ []) _ _ (λ n d p. rw (← p.shows, ← p.leaves) (search rules)) c.write_whole.ensures
