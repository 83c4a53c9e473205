-- Every list of checks goes by an order's side and figures alone, so the order that the code's numbers say stands for any with the same;
-- and those of C, F, D and H by its figures.
use Rattle.std.specs.Prelude.{◌≡◌, ℕ}
use Rattle.std.proofs.Math.Option.{Option}
use Rattle.rulebook.specs.Kept.{Figures, Order, Group, Symbol, Tally}
use Rattle.rulebook.specs.Judging.{new_checks, change_checks, cancel_checks, fill_checks, reduction_checks, refused_checks}
use Rattle.fields.specs.Series.{side_of}
use Rattle.checks.specs.Saying.{figures_said, order_said}
use Rattle.checks.specs.declared.Figures.{Figures as FigureWords}

module _ (o : Order) (side : ℕ) (f : FigureWords) (e : o.figures ≡ figures_said f) where
  pub new_alike : (g : Group) (s : Option Symbol) (t : Tally) → o.ticket.side ≡ side_of side → new_checks g s t o ≡ new_checks g s t (order_said side f)
  unfolding new_checks
  new_alike g s t x i = new_checks g s t (record { ticket = record { key = o.ticket.key; sym = o.ticket.sym; side = x i }; figures = e i })

  pub change_alike : (g : Group) (s : Option Symbol) (t : Tally) (h : Figures) → o.ticket.side ≡ side_of side → change_checks g s t o h ≡ change_checks g s t (order_said side f) h
  unfolding change_checks
  change_alike g s t h x i = change_checks g s t (record { ticket = record { key = o.ticket.key; sym = o.ticket.sym; side = x i }; figures = e i }) h

  pub cancel_alike : cancel_checks o ≡ cancel_checks (order_said side f)
  unfolding cancel_checks
  cancel_alike i = cancel_checks (record { ticket = o.ticket; figures = e i })

  pub fill_alike : (t : Tally) (z : ℕ) → fill_checks t z o ≡ fill_checks t z (order_said side f)
  unfolding fill_checks
  fill_alike t z i = fill_checks t z (record { ticket = o.ticket; figures = e i })

  pub reduction_alike : (z : ℕ) → reduction_checks z o ≡ reduction_checks z (order_said side f)
  unfolding reduction_checks
  reduction_alike z i = reduction_checks z (record { ticket = o.ticket; figures = e i })

  pub refused_alike : refused_checks o ≡ refused_checks (order_said side f)
  unfolding refused_checks
  refused_alike i = refused_checks (record { ticket = o.ticket; figures = e i })
