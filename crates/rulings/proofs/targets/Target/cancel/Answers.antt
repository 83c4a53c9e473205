-- `rulings::targets::Target::cancel` meets its contract: no value is changed, and the checks go by the figures as they stand.
use mathlib.Core.Path.{sym, ap, ◌∙◌, subst}
use mathlib.Core.Bool.{true}
use Rattle.std.proofs.Common.{rules, refl, Ok}
use Rattle.rulebook.specs.Kept.{Figures, asking}
use Rattle.rulings.specs.Standing.{Small, held_small}
use Rattle.edits.specs.declared.Deed.{Deed}
use Rattle.rulings.specs.Rulings.{ruled}
use Rattle.rulings.specs.Granting.{cancel_held, cancel_granted}
use Rattle.rulings.proofs.targets.Target.cancel.Goals as goal

pub returns-in_err-try_cancel : goal.returns-in_err-try_cancel
returns-in_err-try_cancel c = let held = cancel_held _ _ _ c.args.self.held _ c.figures-old.ensures _ c.in_err-try_cancel.ensures in search rules

pub tally_with-requires : goal.tally_with-requires
tally_with-requires c = subst (λ (f : Figures). Small f.size f.price) (sym (ap (asking true) c.figures-old.ensures)) (held_small _ _ _ c.args.self.held)

pub returns : goal.returns
returns c = ap (λ (d : Deed). ruled (Ok d)) c.amend.ensures ∙ cancel_granted _ _ _ c.args.self.held _ c.figures-old.ensures _ _ c.in_ok-try_cancel.ensures refl c.tally_with.ensures
