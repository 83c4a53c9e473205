-- `host::ticketmoss_block` meets its contract: it says what `calls::block` says, and leaves what it leaves.
use mathlib.Core.Path.{◌∙◌}
use native.Mathlib.Omega.{arith}
use mir.Syntax.{w64}
use mir.ValLaws.{to_z_pos}
use Rattle.std.specs.Prelude.{Ok}
use Rattle.host.proofs.Telling.{block_told, block_fits}
use Rattle.host.proofs.ticketmoss_block.Goals as goal

pub overflow_cast-result : goal.overflow_cast-result
overflow_cast-result c = let a = c.args in omega (arith, block_fits a.mem.now a.text.now a.to.now (Ok c.in-Ok.lines) c.in-Ok.ensures)

pub returns-in-Ok-clause-answer : goal.returns-in-Ok-clause-answer
returns-in-Ok-clause-answer c = let a = c.args in let e = c.in-Ok.ensures in to_z_pos w64 _ (omega (arith, block_fits a.mem.now a.text.now a.to.now (Ok c.in-Ok.lines) e)) ∙ (block_told a.mem.now a.text.now a.to.now (Ok c.in-Ok.lines) e a.taken.now).0
