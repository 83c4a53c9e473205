-- The public call's statement allows one answer only. The claim is about the contract itself (`Post`).
use mathlib.Core.Path.{sym, ◌∙◌}
use Rattle.state.proofs.parts_ok.Kinds as parts-kinds
use Rattle.state.proofs.parts_ok.Reads as parts-reads
use Rattle.state.proofs.state_ok.Kinds as state-ok-kinds
use Rattle.state.proofs.state_ok.Reads as state-ok-reads
use Rattle.fields.proofs.Single.{Once}

state_ok_once : Once 1 state-ok-kinds.ps state-ok-kinds.r state-ok-reads.Post (λ κs x s. x)
state_ok_once κs a x y s t p q = p ∙ sym q

parts_ok_once : Once 1 parts-kinds.ps parts-kinds.r parts-reads.Post (λ κs x s. x)
parts_ok_once κs a x y s t p q = p ∙ sym q
