-- `gate::judge_day` is safe: the text has room for what is held.
use Rattle.std.proofs.Common.{◌≤◌}
use Rattle.gate.proofs.judge_day.Given as goal

abbrev pub invariant-loop : goal.invariant-loop
invariant-loop g l = l.held ≤ 161
