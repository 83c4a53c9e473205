-- `rulings::desks::OwnDesk::order` meets its contract: 9 where the search finds no order.
use mathlib.Core.Path.{sym, ap, ◌∙◌, subst}
use Rattle.std.proofs.Common.{◌≡◌, rules, Err}
use Rattle.std.proofs.Math.Logic.{∥∥₁_elim}
use Rattle.std.proofs.Props.{props}
use Rattle.std.specs.Option.{ok_or}
use Rattle.books.specs.View.{rows_of}
use Rattle.store.specs.Finding.{named_by}
use Rattle.checks.specs.declared.Refusal.{Refusal}
use Rattle.rulings.specs.Rulings.{spot_in, own_spot}
use Rattle.rulings.specs.Granting.{SpotHeld, own_spot_held}
use Rattle.rulings.proofs.desks.OwnDesk.order.Goals as goal

pub returns-in_err-order-clause-spot : goal.returns-in_err-order-clause-spot
unfolding own_spot
returns-in_err-order-clause-spot c = let s = c.args.self in
    let e : Err c.in_err-order.field-0.0 ≡ own_spot (rows_of s.table.mem.now) s.group (named_by (record { owner = s.owner; name = c.args.name })) = ap (spot_in s.group) (c.in_err-order.ensures.value ∙ ap (λ p. ok_or p Refusal.NotOpen) c.find_order.ensures) in
    search rules

pub invariant_of-result-clause-held : goal.invariant_of-result-clause-held
unfolding own_spot
invariant_of-result-clause-held c = let s = c.args.self in let k = named_by (record { owner = s.owner; name = c.args.name }) in
    ∥∥₁_elim s.listed (hlevel props) (λ d. subst (SpotHeld s.table.mem.now k) (sym (ap (spot_in s.group) (c.in_ok-order.ensures.value ∙ ap (λ p. ok_or p Refusal.NotOpen) c.find_order.ensures))) (own_spot_held s.table.mem.now k s.group d))

pub returns-clause-spot : goal.returns-clause-spot
unfolding own_spot
returns-clause-spot c = ap (spot_in c.args.self.group) (c.in_ok-order.ensures.value ∙ ap (λ p. ok_or p Refusal.NotOpen) c.find_order.ensures)
