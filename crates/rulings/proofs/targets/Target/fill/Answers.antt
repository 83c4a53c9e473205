-- `rulings::targets::Target::fill` meets its contract: the tally with the fill, and the first check that holds.
use mathlib.Core.Path.{refl, sym, ap, ◌∙◌}
use native.Mathlib.Omega.{arith}
use Prim.Native.Nat.{◌+◌, ◌*◌}
use Rattle.std.proofs.Common.{rules, Ok}
use Rattle.laws.specs.Tables.{put}
use Rattle.rulebook.specs.Kept.{with_figures, by_key}
use Rattle.rulebook.specs.Lines.{is_buy}
use Rattle.books.specs.View.{rows_of, orders_in}
use Rattle.edits.specs.declared.Deed.{Deed}
use Rattle.rulings.specs.Rulings.{ruled}
use Rattle.rulings.specs.Targets.{order_at, desk_at}
use Rattle.rulings.specs.Standing.{old_small, worked_tally, paid_tally}
use Rattle.rulings.specs.Counting.{paid, tally_traded, product_small}
use Rattle.rulings.specs.Granting.{fill_held, fill_granted}
use Rattle.rulings.proofs.targets.Target.fill.Goals as goal

pub overflow_add-new : goal.overflow_add-new
overflow_add-new c = omega (arith, old_small _ _ _ c.args.self.held _ c.figures-old.ensures, c.requires)

pub tally_with-requires : goal.tally_with-requires
tally_with-requires c = (old_small _ _ _ c.args.self.held _ c.figures-old.ensures).0

pub pay-t-requires : goal.pay-t-requires
pay-t-requires c = record { most = product_small c.args.size c.args.price c.requires.small c.requires.cheap; within = worked_tally _ _ _ c.args.self.held c.args.size _ _ _ c.figures-old.ensures refl c.tally_with.ensures }

pub try_fill-requires : goal.try_fill-requires
try_fill-requires c = paid_tally _ c.args.size c.args.price _ _ c.requires c.pay-t.ensures (worked_tally _ _ _ c.args.self.held c.args.size _ _ _ c.figures-old.ensures refl c.tally_with.ensures)

pub returns-in_err-try_fill : goal.returns-in_err-try_fill
returns-in_err-try_fill c =
    let held = fill_held _ _ _ c.args.self.held _ c.figures-old.ensures _ _ c.args.size c.args.price refl (c.pay-t.ensures ∙ (λ j. paid (is_buy (c.side.ensures j)) (c.args.size * c.args.price) (c.tally_with.ensures j)) ∙ sym (tally_traded (desk_at c.args.self) (put by_key (with_figures (order_at c.args.self) (record { price = c.figures-old.result.price; size = c.figures-old.result.size; done = c.figures-old.result.done + c.args.size; cancel_asked = c.figures-old.result.asked })) (orders_in (rows_of c.args.self.mem.now))) (is_buy (order_at c.args.self).ticket.side) (c.args.size * c.args.price))) _ c.in_err-try_fill.ensures in
    search rules

pub work-requires : goal.work-requires
work-requires c = record { long = c.args.self.counted.long; few = omega (arith, c.args.self.counted, c.args.self.held); within = paid_tally _ c.args.size c.args.price _ _ c.requires c.pay-t.ensures (worked_tally _ _ _ c.args.self.held c.args.size _ _ _ c.figures-old.ensures refl c.tally_with.ensures) }

pub returns : goal.returns
returns c = ap (λ (d : Deed). ruled (Ok d)) c.work.ensures ∙ fill_granted _ _ _ c.args.self.held _ c.figures-old.ensures _ _ c.args.size c.args.price refl (c.pay-t.ensures ∙ (λ j. paid (is_buy (c.side.ensures j)) (c.args.size * c.args.price) (c.tally_with.ensures j)) ∙ sym (tally_traded (desk_at c.args.self) (put by_key (with_figures (order_at c.args.self) (record { price = c.figures-old.result.price; size = c.figures-old.result.size; done = c.figures-old.result.done + c.args.size; cancel_asked = c.figures-old.result.asked })) (orders_in (rows_of c.args.self.mem.now))) (is_buy (order_at c.args.self).ticket.side) (c.args.size * c.args.price))) c.in_ok-try_fill.ensures
