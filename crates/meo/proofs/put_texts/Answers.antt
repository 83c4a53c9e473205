-- `meo::put_texts` meets its contract: texts in their forms have room in their rows.
use native.Mathlib.Omega.{arith}
use Rattle.meo.specs.Laying.{formed}
use Rattle.meo.proofs.put_texts.Goals as goal

pub put_filled-requires : goal.put_filled-requires
put_filled-requires c = rw c.part.ensures (omega (arith, (formed _ _ c.requires).mpid_four))

pub put_filled-requires-2 : goal.put_filled-requires-2
put_filled-requires-2 c = rw c.part-2.ensures (formed _ _ c.requires).name_most
