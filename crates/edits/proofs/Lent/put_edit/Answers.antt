-- `edits::Lent::put_edit` meets its contract: a deed, and then a place, or the last number raised.
use native.Mathlib.Numerals.{add-one}
use Rattle.edits.specs.Storing.{deed_stored, edit_stored}
use Rattle.edits.specs.Parts.{can_first, can_rest, can_head, stores_both}
use Rattle.edits.proofs.Lent.put_edit.Goals as goal

pub put_deed-requires-in-Remembered : goal.put_deed-requires-in-Remembered
unfolding edit_stored
put_deed-requires-in-Remembered c = can_first (deed_stored _ _) _ (rw c.in-Remembered.is at c.requires.storable)

pub put_place-requires : goal.put_place-requires
unfolding edit_stored
put_place-requires c = rw c.born_figures.ensures (can_rest (deed_stored _ _) _ c.put_deed-in-Remembered.ensures (rw c.in-Remembered.is at c.requires.storable))

pub put_deed-requires-in-Taken : goal.put_deed-requires-in-Taken
unfolding edit_stored
put_deed-requires-in-Taken c = can_first (deed_stored _ _) _ (rw c.in-Taken.is at c.requires.storable)

pub put_head-requires-in-Taken : goal.put_head-requires-in-Taken
unfolding edit_stored
put_head-requires-in-Taken c = can_head _ _ _ (can_rest (deed_stored _ _) _ c.put_deed-in-Taken.ensures (rw c.in-Taken.is at c.requires.storable))

pub returns-in-Remembered : goal.returns-in-Remembered
unfolding edit_stored
returns-in-Remembered c = rw c.in-Remembered.is (stores_both (deed_stored _ _) _ c.put_deed-in-Remembered.ensures (rw c.born_figures.ensures at c.put_place.ensures))

pub returns-in-Taken : goal.returns-in-Taken
unfolding edit_stored
returns-in-Taken c = rw c.in-Taken.is (stores_both (deed_stored _ _) _ c.put_deed-in-Taken.ensures (rw add-one at c.put_head-in-Taken.ensures))
