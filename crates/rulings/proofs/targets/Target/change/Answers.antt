-- `rulings::targets::Target::change` meets its contract: the tally with size and price as changed, and the first check that holds.
use mathlib.Core.Path.{refl, sym, ap, ◌∙◌, subst}
use Prim.Native.Nat.{◌≤◌}
use Rattle.std.proofs.Common.{rules, Ok}
use Rattle.rulebook.specs.Kept.{Tally, metrics}
use Rattle.edits.specs.declared.Deed.{Deed}
use Rattle.rulings.specs.Rulings.{ruled}
use Rattle.rulings.specs.Standing.{changed_small, held_checkable}
use Rattle.rulings.specs.Granting.{change_held, change_granted}
use Rattle.rulings.proofs.targets.Target.change.Goals as goal

pub try_change-requires : goal.try_change-requires
try_change-requires c = held_checkable _ _ _ c.args.self.held _ _ _ (subst (λ (t : Tally). (metrics t).gross_both ≤ 5_000_000_000_000_000_000) (sym c.tally_with-t.ensures) (changed_small _ _ _ c.args.self.held _ c.requires)) c.requires.cheap

pub returns-in_err-try_change : goal.returns-in_err-try_change
returns-in_err-try_change c =
    let held = change_held _ _ _ c.args.self.held _ c.figures-old.ensures _ _ c.side.result c.args.size c.args.price c.symbol-symbol.ensures (sym c.side.ensures) _ refl c.tally_with-t.ensures _ c.in_err-try_change.ensures in
    search rules

pub returns : goal.returns
returns c = ap (λ (d : Deed). ruled (Ok d)) c.amend.ensures ∙ change_granted _ _ _ c.args.self.held _ c.figures-old.ensures _ _ c.side.result c.args.size c.args.price c.symbol-symbol.ensures (sym c.side.ensures) _ refl c.tally_with-t.ensures c.in_ok-try_change.ensures
