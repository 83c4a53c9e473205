use Rattle.std.proofs.Common.{◌+◌, ◌*◌}
use Rattle.chains.specs.Chain.{Walked}
use Rattle.chains.specs.Words.{begins, hash_row}
use Rattle.chains.proofs.chaining.is_fresh.Given as goal

abbrev pub invariant-loop-q : goal.invariant-loop-q
invariant-loop-q l = let r = l.rows in Walked (hash_row r.mem.now r.at r.width r.words) (begins r.mem.now r.at r.width r.mem.now (r.at + l.j * r.width) r.words) l.next l.j l.q

abbrev pub decreases-loop-q : goal.decreases-loop-q
decreases-loop-q l = l.q
