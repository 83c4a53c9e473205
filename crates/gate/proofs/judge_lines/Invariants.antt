use Rattle.std.proofs.Common.{◌≡◌, [], ◌-◌, ◌≤◌, length, drop}
use Rattle.lines.specs.Splitting.{rest}
use Rattle.calls.specs.Calling.{recorded}
use Rattle.promises.specs.Day.{left}
use Rattle.gate.specs.Turns.{calls_for}
use Rattle.gate.proofs.judge_lines.Given as goal

abbrev pub invariant-loop-taken : goal.invariant-loop-taken
invariant-loop-taken g l = (l.at ≤ length l.text) × (rest [] l.text ≡ rest [] (drop l.at l.text)) × (left recorded l.initial.mem (calls_for l.text) ≡ left recorded l.mem (calls_for (drop l.at l.text)))

abbrev pub decreases-loop-taken : goal.decreases-loop-taken
decreases-loop-taken g l = length l.text - l.at
