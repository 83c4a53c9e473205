-- `input::read_full` is safe and ends: what is read lies in the buffer, and each turn fills one byte of it or more.
use Rattle.std.proofs.Common.{◌-◌, ◌≤◌, length}
use Rattle.input.proofs.read_full.Given as goal

abbrev pub invariant-loop-count : goal.invariant-loop-count
invariant-loop-count g l = l.count ≤ length l.to

abbrev pub decreases-loop-count : goal.decreases-loop-count
decreases-loop-count g l = length l.initial.to - l.count
