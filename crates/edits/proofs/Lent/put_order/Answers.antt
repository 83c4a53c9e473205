-- `edits::Lent::put_order` meets its contract: an order amended is two calls, one after the other.
use Rattle.edits.specs.Storing.{figures_stored, open_stored, order_stored}
use Rattle.edits.specs.Parts.{can_rest, stores_both}
use Rattle.edits.proofs.Lent.put_order.Goals as goal

pub put_open-requires-in-Puts : goal.put_open-requires-in-Puts
unfolding order_stored
put_open-requires-in-Puts c = can_rest (figures_stored _ _) (open_stored _ _ _) c.put_figures.ensures (rw c.in-Puts.is at c.requires)

pub returns-in-Puts : goal.returns-in-Puts
unfolding order_stored
returns-in-Puts c = rw c.in-Puts.is (stores_both (figures_stored _ _) (open_stored _ _ _) c.put_figures.ensures c.put_open-in-Puts.ensures)
