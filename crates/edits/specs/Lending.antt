-- The lent words as the code holds them: what they need for stores, and what they are after.
use Rattle.std.specs.Prelude.{◌≡◌, List, ℕ}
use Rattle.laws.specs.Rows.{Store, run}
use Rattle.books.specs.Layout.{heads, groups, symbols, keys, requests, orders, layout}
use Rattle.edits.specs.Storing.{Storable}
use Rattle.edits.specs.declared.Region.{Region}
use Rattle.edits.specs.declared.Lent.{Lent}

abbrev pub number_in : Region → ℕ
number_in Region.Heads = heads
number_in Region.Groups = groups
number_in Region.Symbols = symbols
number_in Region.Keys = keys
number_in Region.Requests = requests
number_in Region.Orders = orders

pub record CanStore (w : Lent) (ss : List Store) : Type 0 where
  pub storable : Storable w.room w.mem.now ss

-- the same words of the caller's, and the same room
pub record Stores (w v : Lent) (ss : List Store) : Type 0 where
  pub same : v.mem.ghost_name ≡ w.mem.ghost_name
  pub room : v.room ≡ w.room
  pub after : v.mem.now ≡ run (layout w.room) ss w.mem.now
