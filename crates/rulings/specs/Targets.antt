-- Where the code's targets stand, the order and its desk.
use Rattle.std.specs.Prelude.{Result, Ok, Err}
use Rattle.rulebook.specs.Kept.{Order, Group}
use Rattle.books.specs.View.{group_of, order_of, rows_of}
use Rattle.checks.specs.declared.Refusal.{Refusal}
use Rattle.rulings.specs.Rulings.{Spot}
use Rattle.rulings.specs.declared.targets.Target.{Target}

abbrev pub spot_said : Result Target Refusal → Result Spot Refusal
spot_said (Ok t) = Ok (record { group = t.group; order = t.order })
spot_said (Err r) = Err r

abbrev pub order_at : Target → Order
order_at t = order_of (rows_of t.mem.now) t.order

abbrev pub desk_at : Target → Group
desk_at t = group_of (rows_of t.mem.now) t.group
