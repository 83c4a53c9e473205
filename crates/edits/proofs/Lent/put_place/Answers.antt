-- `edits::Lent::put_place` meets its contract: what was asked, the figures, and the count, one after the other.
use native.Mathlib.Omega.{arith}
use native.Mathlib.Numerals.{add-one}
use Rattle.edits.specs.Storing.{asked_stored, figures_stored, place_stored}
use Rattle.edits.specs.Parts.{can_first, can_rest, can_head, stores_both}
use Rattle.edits.proofs.Lent.put_place.Goals as goal

pub overflow_add-count : goal.overflow_add-count
unfolding place_stored asked_stored
overflow_add-count c = omega (arith, c.requires.storable.few, c.requires.storable.fit.0.0)

pub put_figures-requires : goal.put_figures-requires
unfolding place_stored
put_figures-requires c = can_first (figures_stored _ _) _ (can_rest (asked_stored _ _ _ _) _ c.put_asked.ensures c.requires)

pub put_head-requires : goal.put_head-requires
unfolding place_stored
put_head-requires c = can_head _ _ _ (can_rest (figures_stored _ _) _ c.put_figures.ensures (can_rest (asked_stored _ _ _ _) _ c.put_asked.ensures c.requires))

pub returns : goal.returns
unfolding place_stored
returns c = stores_both (asked_stored _ _ _ _) _ c.put_asked.ensures (stores_both (figures_stored _ _) _ c.put_figures.ensures (rw add-one at c.put_head.ensures))
