-- `judge::judge_reading` meets its contract: each kind is judged by its own function, and its words say its record.
use mathlib.Core.Path.{ap, ◌∙◌}
use Rattle.rulebook.specs.Names.{Key}
use Rattle.rulebook.specs.Lines.{change, cancel, ask}
use Rattle.rulebook.specs.Judging.{judge}
use Rattle.books.specs.View.{rows_of, view}
use Rattle.packing.specs.Words.{named}
use Rattle.codec.specs.Readings.{record_of}
use Rattle.codec.specs.declared.Reading.{Reading}
use Rattle.checks.specs.declared.Refusal.{Refusal}
use Rattle.judge.specs.Verdicts.{refused}
use Rattle.judge.specs.Doors.{on_record}
use Rattle.judge.specs.Kinds.{change_said, cancel_said}
use Rattle.judge.proofs.judge_reading.Goals as goal

pub returns-in-Broken : goal.returns-in-Broken
unfolding judge
returns-in-Broken c = let m = c.args.table.mem.now in refused (rows_of m) Refusal.NotARecord (ap (λ (r : Reading). judge (view m) (record_of c.args.line.now r)) c.in-Broken.is)

pub returns-in-Change : goal.returns-in-Change
returns-in-Change c = c.judge_request-in-Change.ensures ∙ on_record c.args.table.mem.now _ _ (ap (λ (k : Key). ask (record { key = k; deal = change (named c.pack_identifier-target.result) c.in-Change.size c.in-Change.price })) c.key_of-key-in-Change.ensures
    ∙ change_said c.args.line.now c.args.rec c.requires.in_form c.in-Change.is _ c.pack_identifier-target.ensures)

pub returns-in-Cancel : goal.returns-in-Cancel
returns-in-Cancel c = c.judge_request-in-Cancel.ensures ∙ on_record c.args.table.mem.now _ _ (ap (λ (k : Key). ask (record { key = k; deal = cancel (named c.pack_identifier-target-in-Cancel.result) })) c.key_of-key-in-Cancel.ensures
    ∙ cancel_said c.args.line.now c.args.rec c.requires.in_form c.in-Cancel.is _ c.pack_identifier-target-in-Cancel.ensures)
