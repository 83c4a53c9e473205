use mathlib.Core.Path.{◌≡◌}
use Prim.Native.Nat.{◌-◌, ◌^◌, ◌≤◌, ◌<◌}
use lib.ListN.{length, drop}
use Rattle.rulebook.specs.Names.{word}
use Rattle.packing.proofs.pack_word.Given as goal

-- the bytes that were passed are the last
abbrev pub invariant-loop-b : goal.invariant-loop-b
invariant-loop-b l = let left = length l.text - length l.yielded in (length l.yielded ≤ length l.text) × (l.w ≡ word (drop left l.text)) × (l.w < 256 ^ (8 - left))
