-- `rulings::find_order` meets its contract: only the place with the key may hold the order, and it does where it is a passed N.
use mathlib.Core.Path.{ap, ◌∙◌}
use native.Mathlib.Omega.{arith}
use Rattle.books.specs.Layout.{room_of}
use Rattle.books.specs.View.{rows_of}
use Rattle.rules.specs.Agreeing.{is_order_is}
use Rattle.rules.specs.Passing.{is_order}
use Rattle.store.specs.Finding.{named_by}
use Rattle.rulings.specs.Looking.{found_here, place_met, place_free, place_full}
use Rattle.rulings.proofs.find_order.Goals as goal

pub request_at-begins-requires-clause-i_bound : goal.request_at-begins-requires-clause-i_bound
request_at-begins-requires-clause-i_bound c = omega (arith, c.args.table.counted, (found_here (rows_of c.args.table.mem.now) (room_of c.args.table.mem.now) (named_by c.args.key) _ c.in-At.ensures).0)

pub opens-requires : goal.opens-requires
opens-requires c = let m = c.args.table.mem.now in let h = (found_here (rows_of m) (room_of m) (named_by c.args.key) _ c.in-At.ensures).0 in rw c.request_at-begins.ensures (record { room = omega (arith, c.args.table.counted, h) })

pub returns-in-At : goal.returns-in-At
returns-in-At c = let m = c.args.table.mem.now in
    c.then_some.ensures ∙ place_met (rows_of m) (room_of m) (named_by c.args.key) c.args.table.indexed.keys_apart _ c.in-At.ensures _ (c.opens.ensures ∙ ap (is_order m) c.request_at-begins.ensures ∙ is_order_is m _)

pub returns-in-Free : goal.returns-in-Free
returns-in-Free c = place_free (rows_of c.args.table.mem.now) (room_of c.args.table.mem.now) (named_by c.args.key) _ c.in-Free.ensures

pub returns-in-Full : goal.returns-in-Full
returns-in-Full c = place_full (rows_of c.args.table.mem.now) (room_of c.args.table.mem.now) (named_by c.args.key) c.in-Full.ensures
