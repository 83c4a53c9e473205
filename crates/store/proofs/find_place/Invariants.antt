use Rattle.store.specs.Indexing.{Seeks}
use Rattle.store.proofs.find_place.Given as goal

abbrev pub invariant-loop-link : goal.invariant-loop-link
invariant-loop-link l = Seeks l.table.mem.now l.key l.table.links.now l.link

abbrev pub decreases-loop-link : goal.decreases-loop-link
decreases-loop-link l = l.link
