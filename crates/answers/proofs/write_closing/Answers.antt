-- `answers::write_closing` meets its contract: the line is put into memory of its own, and handed over from there.
use Rattle.std.specs.Prelude.{replicate}
use Rattle.std.proofs.Common.{◌∙◌}
use Rattle.fields.specs.Puts.{staged_line}
use Rattle.answers.specs.Answering.{closing_kind, closing_fields}
use Rattle.answers.proofs.write_closing.Goals as goal

pub returns : goal.returns
returns c = let t = c.args.totals in c.hand_over.ensures ∙ staged_line closing_kind (closing_fields t.mpid t.traded_buys t.traded_sells t.open_buys t.open_sells t.blocked) (replicate 96 0) _ _ _ c.put_closing-count.ensures
