-- `state::Lists::sums_same` meets its contract: the sums are those over the table, and each group's stored ones are compared with them.
use Rattle.std.proofs.Common.{◌∙◌, sym, ℕ, refl, arith, rules, tests, ◌&&◌, eqb, get_or}
use Rattle.std.proofs.lemmas.Iterator.{YieldsList-from_range}
use Rattle.std.proofs.lemmas.Iterator.Search.{all_from_yields_List}
use Rattle.books.specs.Layout.{groups, groups_at, open_buys_at, open_sells_at}
use Rattle.books.specs.View.{head_in, rows_of}
use Rattle.state.specs.Summing.{sums_compared, no_sides}
use Rattle.state.proofs.Ranges.{every_of_range, every_same}
use Rattle.state.proofs.Lists.sums_same.Goals as goal

pub returns : goal.returns
returns c =
    let S = rows_of c.args.self.mem.now in
    let n = head_in S groups_at in
    let same = λ (g : ℕ). eqb (S groups g open_buys_at) (get_or c.args.sums.now g no_sides).buys && eqb (S groups g open_sells_at) (get_or c.args.sums.now g no_sides).sells in
    all_from_yields_List same _ _ _ c.all.ensures.ran (YieldsList-from_range 0 n n refl (omega arith)) (λ x b q k. search (rules, tests))
    ∙ every_of_range same n
    ∙ every_same _ _ n (λ g lt. sym (sums_compared S c.args.sums.now c.requires g lt))
