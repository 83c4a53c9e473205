-- `judge::open_verdict` meets its contract: an O is refused once the day is open.
use mathlib.Core.Path.{sym, ap, ◌∙◌}
use Rattle.rulebook.specs.Judging.{opened}
use Rattle.books.specs.View.{rows_of}
use Rattle.checks.specs.declared.Refusal.{Refusal}
use Rattle.edits.specs.InRows.{edit_in_rows}
use Rattle.judge.specs.Verdicts.{verdict_in_rows, passed_in_rows, refused}
use Rattle.judge.specs.Doors.{open_late, open_first}
use Rattle.judge.proofs.open_verdict.Goals as goal

pub returns-then-mem-gt0 : goal.returns-then-mem-gt0
returns-then-mem-gt0 c = let m = c.args.mem.now in refused (rows_of m) Refusal.NotNow (open_late m c.if-mem-gt0.true)

pub returns : goal.returns
unfolding edit_in_rows
returns c = let m = c.args.mem.now in c.give.ensures ∙ passed_in_rows (rows_of m) opened ∙ ap (verdict_in_rows (rows_of m)) (sym (open_first m c.if-mem-gt0.false))
