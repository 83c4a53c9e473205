-- `host::ticketmoss_record` meets its contract: it says what `calls::record` says, and leaves what it leaves.
use mathlib.Core.Path.{◌∙◌}
use native.Mathlib.Omega.{arith}
use mir.Syntax.{w64}
use mir.ValLaws.{to_z_pos}
use Rattle.std.specs.Prelude.{Ok}
use Rattle.host.proofs.Telling.{record_told, record_fits}
use Rattle.host.proofs.ticketmoss_record.Goals as goal

pub overflow_cast-result : goal.overflow_cast-result
overflow_cast-result c = let a = c.args in omega (arith, record_fits a.mem.now a.line.now a.to.now (Ok c.in-Ok.written) c.in-Ok.ensures)

pub returns-in-Ok-clause-answer : goal.returns-in-Ok-clause-answer
returns-in-Ok-clause-answer c = let a = c.args in let e = c.in-Ok.ensures in to_z_pos w64 _ (record_fits a.mem.now a.line.now a.to.now (Ok c.in-Ok.written) e) ∙ (record_told a.mem.now a.line.now a.to.now (Ok c.in-Ok.written) e).0
