-- `rulings::targets::Target::tally_with` meets its contract: the order's part of the stored totals is exchanged.
use mathlib.Core.Path.{sym, ap, ◌∙◌, subst}
use Rattle.rulebook.specs.Kept.{Figures, Tally}
use Rattle.rulebook.specs.Lines.{is_buy}
use Rattle.fields.specs.Series.{side_of}
use Rattle.checks.specs.Saying.{figures_said}
use Rattle.rulings.specs.Standing.{Small, Exchangeable, held_small, held_exchangeable, held_tally}
use Rattle.rulings.specs.Counting.{value_said, exchanged, value_small}
use Rattle.rulings.proofs.targets.Target.tally_with.Goals as goal

pub value_of-requires : goal.value_of-requires
value_of-requires c = subst (λ (f : Figures). Small f.size f.price) (sym c.figures.ensures) (held_small _ _ _ c.args.self.held)

pub exchange-requires : goal.exchange-requires
exchange-requires c = subst (λ (t : Tally). Exchangeable (is_buy (side_of c.side.result)) c.value_of.result c.value_of-2.result t) (sym c.tally_at-totals.ensures) (rw (c.side.ensures, (c.value_of.ensures ∙ ap value_said c.figures.ensures), c.value_of-2.ensures) (held_exchangeable _ _ _ c.args.self.held _ (value_small c.args.new.size c.args.new.done c.args.new.price c.requires.small c.requires.cheap)))

pub returns : goal.returns
returns c = c.exchange.ensures ∙ (λ j. exchanged (is_buy (c.side.ensures j)) ((c.value_of.ensures ∙ ap value_said c.figures.ensures) j) (c.value_of-2.ensures j) (c.tally_at-totals.ensures j)) ∙ held_tally _ _ _ c.args.self.held (figures_said c.args.new)
