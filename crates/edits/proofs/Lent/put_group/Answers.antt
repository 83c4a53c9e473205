-- `edits::Lent::put_group` meets its contract: a group listed is its row of words, and then the count.
use Rattle.std.specs.Prelude.{◌≡◌, [], ◌∷◌}
use Rattle.std.proofs.Common.{arith}
use native.Mathlib.Numerals.{add-one}
use Rattle.books.specs.Layout.{groups, mpid_at}
use Rattle.books.specs.Writing.{bit, store_at}
use Rattle.edits.specs.Storing.{group_row, group_stored}
use Rattle.edits.specs.Parts.{stores_both}
use Rattle.edits.proofs.Lent.put_group.Goals as goal

pub returns-in-Adds : goal.returns-in-Adds
unfolding group_stored group_row
returns-in-Adds c =
    let short : c.from.result ≡ bit c.in-Adds.terms.short_sales = grind arith in
    let blocked : c.from-in-Adds.result ≡ bit c.in-Adds.blocked = grind arith in
    rw c.in-Adds.is (stores_both (store_at groups c.args.listed mpid_at _ ∷ []) _ (rw (short, blocked) at c.put.ensures) (rw add-one at c.put_head.ensures))
