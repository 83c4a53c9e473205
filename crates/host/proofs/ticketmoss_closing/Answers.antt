-- `host::ticketmoss_closing` meets its contract: it says what `calls::closing` says, and leaves what it leaves.
use mathlib.Core.Path.{◌∙◌}
use native.Mathlib.Omega.{arith}
use mir.Syntax.{w64}
use mir.ValLaws.{to_z_pos}
use Rattle.std.specs.Prelude.{Ok}
use Rattle.host.proofs.Telling.{closing_told, closing_fits}
use Rattle.host.proofs.ticketmoss_closing.Goals as goal

pub overflow_cast-result : goal.overflow_cast-result
overflow_cast-result c = let a = c.args in omega (arith, closing_fits a.mem.now a.place a.to.now (Ok c.in-Ok.written) c.in-Ok.ensures)

pub returns-in-Ok-clause-answer : goal.returns-in-Ok-clause-answer
returns-in-Ok-clause-answer c = let a = c.args in let e = c.in-Ok.ensures in to_z_pos w64 _ (closing_fits a.mem.now a.place a.to.now (Ok c.in-Ok.written) e) ∙ (closing_told a.mem.now a.place a.to.now (Ok c.in-Ok.written) e).0
