-- `rulings::targets::Target::keep` meets its contract: no value is changed, and the checks go by the figures as they stand.
use mathlib.Core.Path.{sym, ap, ◌∙◌, subst}
use mathlib.Core.Bool.{false}
use Rattle.std.proofs.Common.{rules, refl, Ok}
use Rattle.rulebook.specs.Kept.{Figures, asking}
use Rattle.rulings.specs.Standing.{Small, held_small}
use Rattle.edits.specs.declared.Deed.{Deed}
use Rattle.rulings.specs.Rulings.{ruled}
use Rattle.rulings.specs.Granting.{refused_held, refused_granted}
use Rattle.rulings.proofs.targets.Target.keep.Goals as goal

pub returns-in_err-try_refused : goal.returns-in_err-try_refused
returns-in_err-try_refused c = let held = refused_held _ _ _ c.args.self.held _ c.figures-old.ensures _ c.in_err-try_refused.ensures in search rules

pub tally_with-requires : goal.tally_with-requires
tally_with-requires c = subst (λ (f : Figures). Small f.size f.price) (sym (ap (asking false) c.figures-old.ensures)) (held_small _ _ _ c.args.self.held)

pub returns : goal.returns
returns c = ap (λ (d : Deed). ruled (Ok d)) c.amend.ensures ∙ refused_granted _ _ _ c.args.self.held _ c.figures-old.ensures _ _ c.in_ok-try_refused.ensures refl c.tally_with.ensures
