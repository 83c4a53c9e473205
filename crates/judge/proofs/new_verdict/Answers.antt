-- `judge::new_verdict` meets its contract: its ruling is the rulebook's, and what is remembered is the request.
use mathlib.Core.Path.{◌∙◌}
use Rattle.books.specs.View.{rows_of}
use Rattle.judge.specs.Doors.{remembers_deed, remembers_refusal}
use Rattle.judge.proofs.new_verdict.Goals as goal

pub returns-in-Ok : goal.returns-in-Ok
returns-in-Ok c = let m = c.args.table.mem.now in rw (c.sent_for.ensures, c.asking_of-asking.ensures) at c.give.ensures ∙ remembers_deed (rows_of m) _ c.args.request.key c.args.request.deal _ c.in-Ok.ensures

pub returns-in-Err : goal.returns-in-Err
returns-in-Err c = let m = c.args.table.mem.now in rw (c.from-number.ensures, c.asking_of-asking.ensures) at c.give-in-Err.ensures ∙ remembers_refusal (rows_of m) _ c.args.request.key c.args.request.deal _ c.in-Err.ensures
