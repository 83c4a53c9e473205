-- `judge::next_verdict` meets its contract: its ruling is the rulebook's, and its number is taken.
use mathlib.Core.Path.{◌∙◌}
use Rattle.books.specs.View.{rows_of}
use Rattle.judge.specs.Doors.{booked_deed, set_aside}
use Rattle.judge.proofs.next_verdict.Goals as goal

pub returns-in-Ok : goal.returns-in-Ok
returns-in-Ok c = c.give.ensures ∙ booked_deed (rows_of c.args.table.mem.now) _ _ c.in-Ok.ensures

pub returns-in-Err : goal.returns-in-Err
returns-in-Err c = rw c.from-number.ensures at c.give-in-Err.ensures ∙ set_aside (rows_of c.args.table.mem.now) _ _ c.in-Err.ensures
