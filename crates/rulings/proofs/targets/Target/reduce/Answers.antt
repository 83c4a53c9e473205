-- `rulings::targets::Target::reduce` meets its contract: the tally with the order worked, and the first check that holds.
use mathlib.Core.Path.{refl, ap, ◌∙◌}
use native.Mathlib.Omega.{arith}
use Rattle.std.proofs.Common.{rules, Ok}
use Rattle.edits.specs.declared.Deed.{Deed}
use Rattle.rulings.specs.Rulings.{ruled}
use Rattle.rulings.specs.Standing.{old_small, worked_tally}
use Rattle.rulings.specs.Granting.{reduction_held, reduction_granted}
use Rattle.rulings.proofs.targets.Target.reduce.Goals as goal

pub returns-in_err-try_reduction : goal.returns-in_err-try_reduction
returns-in_err-try_reduction c = let held = reduction_held _ _ _ c.args.self.held _ c.figures-old.ensures c.args.size _ c.in_err-try_reduction.ensures in search rules

pub overflow_add-new : goal.overflow_add-new
overflow_add-new c = omega (arith, old_small _ _ _ c.args.self.held _ c.figures-old.ensures, c.requires)

pub tally_with-requires : goal.tally_with-requires
tally_with-requires c = (old_small _ _ _ c.args.self.held _ c.figures-old.ensures).0

pub work-requires : goal.work-requires
work-requires c = let w = worked_tally _ _ _ c.args.self.held c.args.size _ _ _ c.figures-old.ensures refl c.tally_with.ensures in record { long = c.args.self.counted.long; few = omega (arith, c.args.self.counted, c.args.self.held); within = omega (arith, w) }

pub returns : goal.returns
returns c = ap (λ (d : Deed). ruled (Ok d)) c.work.ensures ∙ reduction_granted _ _ _ c.args.self.held _ c.figures-old.ensures _ _ c.args.size c.in_ok-try_reduction.ensures refl c.tally_with.ensures
