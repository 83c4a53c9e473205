use Rattle.std.proofs.Common.{◌≡◌, ℕ, ◌<◌, true}
use Rattle.books.specs.View.{rows_of}
use Rattle.state.specs.Summing.{Sums}
use Rattle.state.specs.Whole.{fine}
use Rattle.state.proofs.Lists.tally.Given as goal

abbrev pub invariant-loop-i : goal.invariant-loop-i
invariant-loop-i l = record {
  sums : Sums (rows_of l.self.mem.now) l.sums l.i;
  fine : (j : ℕ) → j < l.i → fine l.self.mem.now j ≡ true;
}
