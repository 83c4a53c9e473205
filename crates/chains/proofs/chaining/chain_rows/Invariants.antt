use Rattle.std.proofs.Common.{◌≡◌, ℕ, ◌<◌, true, length}
use Rattle.chains.specs.Chain.{fresh, Chained}
use Rattle.chains.specs.Words.{same_row, hash_row}
use Rattle.chains.proofs.chaining.chain_rows.Given as goal

abbrev pub invariant-loop-j : goal.invariant-loop-j
invariant-loop-j l = let r = l.rows in
    Chained (hash_row r.mem.now r.at r.width r.words) l.head l.next l.j × ((k : ℕ) → k < l.j → fresh (same_row r.mem.now r.at r.width r.words) k ≡ true) × (length l.next ≡ length l.initial.next)
