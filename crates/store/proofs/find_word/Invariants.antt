use Rattle.std.proofs.Common.{◌≡◌, ℕ, ◌+◌, ◌*◌, ◌<◌, false, eqb, get_or}
use Rattle.store.proofs.find_word.Given as goal

abbrev pub invariant-loop-i : goal.invariant-loop-i
invariant-loop-i l = (k : ℕ) → k < l.i → eqb l.word (get_or l.mem (l.at + k * l.width + 0) 0) ≡ false
