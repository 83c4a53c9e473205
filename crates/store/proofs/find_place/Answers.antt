-- `store::find_place` meets its contract: where the walk along the slot of the key ends, no place has it.
use Rattle.std.proofs.Common.{arith}
use Rattle.store.specs.Finding.{found_free, found_full}
use Rattle.store.specs.Indexing.{seek_end}
use Rattle.store.proofs.find_place.Goals as goal

pub returns-then-n-room : goal.returns-then-n-room
returns-then-n-room c = found_free _ _ _ (seek_end c.args.table.indexed c.args.key c.loop-link.invariant c.if-link-eq0.true) (omega arith) (omega (arith, c.room.ensures, c.if-n-room.true))

pub returns-else-n-room : goal.returns-else-n-room
returns-else-n-room c = found_full _ _ _ (seek_end c.args.table.indexed c.args.key c.loop-link.invariant c.if-link-eq0.true) (omega arith) (omega (arith, c.room.ensures, c.if-n-room.false))
