use lib.ListN.{take}
use Rattle.fields.specs.Out.{puts, cursor, Leaves}
use Rattle.fields.proofs.Writer.put_all.Given as goal

abbrev pub invariant-loop-b : goal.invariant-loop-b
invariant-loop-b l = Leaves l.initial.self l.self (puts (cursor l.initial.self) (take l.b-index l.f))
