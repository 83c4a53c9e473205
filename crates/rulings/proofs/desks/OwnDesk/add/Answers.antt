-- `rulings::desks::OwnDesk::add` meets its contract: the tally with the new order, and the first check that holds.
use mathlib.Core.Path.{sym, ◌∙◌, subst}
use Prim.Native.Nat.{◌≤◌}
use Rattle.std.proofs.Common.{rules}
use Rattle.std.proofs.Math.Logic.{∥∥₁_elim}
use Rattle.std.proofs.Props.{props}
use Rattle.rulebook.specs.Kept.{Tally, metrics}
use Rattle.rulebook.specs.Lines.{ceiling, is_buy}
use Rattle.fields.specs.Series.{side_of}
use Rattle.store.specs.Finding.{named_by}
use Rattle.rulings.specs.Standing.{Exchangeable, stored_within, new_exchangeable, checkable}
use Rattle.rulings.specs.Counting.{exchanged, value_small, exchanged_small}
use Rattle.rulings.specs.Granting.{new_held, new_granted}
use Rattle.rulings.proofs.desks.OwnDesk.add.Goals as goal

pub exchange-t-requires : goal.exchange-t-requires
exchange-t-requires c = let s = c.args.self in ∥∥₁_elim s.listed (hlevel props) (λ d.
    subst (λ (t : Tally). Exchangeable (is_buy (side_of c.args.side)) 0 c.value_of.result t) (sym c.tally_at.ensures) (new_exchangeable s.table.mem.now d.valid s.group d.listed _ _ (rw c.value_of.ensures (value_small c.args.size 0 c.args.price c.requires.small c.requires.cheap))))

pub try_new-requires : goal.try_new-requires
try_new-requires c = let s = c.args.self in ∥∥₁_elim s.listed (hlevel props) (λ d.
    checkable s.table.mem.now d.valid s.group _ _ _ d.listed (subst (λ (t : Tally). (metrics t).gross_both ≤ 5_000_000_000_000_000_000) (sym c.exchange-t.ensures) (exchanged_small _ _ _ _ (rw c.value_of.ensures (value_small c.args.size 0 c.args.price c.requires.small c.requires.cheap)) (subst (λ (t : Tally). (metrics t).gross_both ≤ ceiling) (sym c.tally_at.ensures) (stored_within s.table.mem.now d.valid s.group d.listed)))) c.requires.cheap)

pub returns-in-Err : goal.returns-in-Err
returns-in-Err c = let s = c.args.self in ∥∥₁_elim s.listed (hlevel props) (λ d.
    let held = new_held s.table.mem.now (named_by (record { owner = s.owner; name = c.args.name })) s.group d _ _ c.args.sym c.args.side c.args.size c.args.price c.find_symbol-symbol.ensures (c.exchange-t.ensures ∙ (λ j. exchanged (is_buy (side_of c.args.side)) 0 (c.value_of.ensures j) (c.tally_at.ensures j))) _ c.in-Err.ensures in
    search rules)

pub returns-in-Ok : goal.returns-in-Ok
returns-in-Ok c = let s = c.args.self in ∥∥₁_elim s.listed (hlevel props) (λ d.
    new_granted s.table.mem.now (named_by (record { owner = s.owner; name = c.args.name })) s.group d _ _ c.args.sym c.args.side c.args.size c.args.price c.find_symbol-symbol.ensures (c.exchange-t.ensures ∙ (λ j. exchanged (is_buy (side_of c.args.side)) 0 (c.value_of.ensures j) (c.tally_at.ensures j))) c.in-Ok.ensures)
