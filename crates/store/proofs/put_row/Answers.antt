-- `store::put_row` meets its contract: a part of the words written over is those words stored one after the other.
use Rattle.std.proofs.Common.{arith}
use Rattle.std.proofs.lemmas.Grind.{common_steps}
use Rattle.std.proofs.lemmas.List.Edits.{sets-eq}
use Rattle.store.proofs.put_row.Goals as goal

pub returns : goal.returns
returns c = grind (arith, common_steps, sets-eq)
