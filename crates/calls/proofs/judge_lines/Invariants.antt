use mathlib.Core.Path.{◌≡◌}
use mathlib.Core.Bool.{true}
use mathlib.Core.List.{[]}
use Prim.Native.Nat.{◌-◌, ◌≤◌}
use lib.ListN.{length}
use Rattle.store.specs.Indexing.{Indexed}
use Rattle.rules.specs.Testing.{state_ok}
use Rattle.lines.specs.Splitting.{whole}
use Rattle.calls.specs.Blocks.{one_by_one}
use Rattle.calls.specs.Taking.{so_far}
use Rattle.calls.proofs.judge_lines.Given as goal

abbrev pub invariant-loop-to : goal.invariant-loop-to
invariant-loop-to l = record {
  end_within : l.written ≤ length l.to;
  at_within : l.bytes ≤ length l.text;
  fewer : l.count ≤ l.bytes;
  sound : state_ok l.mem ≡ true;
  indexed : Indexed l.mem l.heads l.links;
  taken : one_by_one l.initial.mem (whole [] l.text) l.initial.to ≡ so_far l.text l.count l.bytes l.written l.mem l.to;
}

abbrev pub decreases-loop-to : goal.decreases-loop-to
decreases-loop-to l = length l.text - l.bytes
