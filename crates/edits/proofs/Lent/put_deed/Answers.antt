-- `edits::Lent::put_deed` meets its contract: three calls, one after the other, by the counts read before them.
use Rattle.edits.specs.Storing.{order_stored, group_stored, symbol_stored, deed_stored}
use Rattle.edits.specs.Parts.{can_first, can_rest, stores_both}
use Rattle.edits.proofs.Lent.put_deed.Goals as goal

pub put_group-requires : goal.put_group-requires
unfolding deed_stored
put_group-requires c = can_first (group_stored _ _) (symbol_stored _ _) (can_rest (order_stored _) _ c.put_order.ensures c.requires)

pub put_symbol-requires : goal.put_symbol-requires
unfolding deed_stored
put_symbol-requires c = can_rest (group_stored _ _) (symbol_stored _ _) c.put_group.ensures (can_rest (order_stored _) _ c.put_order.ensures c.requires)

pub returns : goal.returns
unfolding deed_stored
returns c = stores_both (order_stored _) _ c.put_order.ensures (stores_both (group_stored _ _) (symbol_stored _ _) c.put_group.ensures c.put_symbol.ensures)
