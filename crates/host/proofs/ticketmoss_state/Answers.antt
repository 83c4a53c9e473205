-- `host::ticketmoss_state` meets its contract: 0 where the test passes.
use mathlib.Core.Path.{sym, ◌∙◌}
use mathlib.Core.Bool.{true}
use Rattle.host.proofs.Telling.{state_told}
use Rattle.host.proofs.ticketmoss_state.Goals as goal

pub returns-then-state_ok : goal.returns-then-state_ok
returns-then-state_ok c = state_told _ true (sym c.state_ok.ensures ∙ c.if-state_ok.true)
