-- `rules::totals_ok` meets its contract: totals that are at most the ceiling can be added.
use Rattle.std.proofs.Common.{sym, ◌∙◌, arith}
use Rattle.books.specs.Layout.{traded_buys_at, traded_sells_at, open_buys_at, open_sells_at, total_cells}
use Rattle.rules.specs.Passing.{word_within}
use Rattle.rules.proofs.totals_ok.Goals as goal

pub overflow_add-traded-3 : goal.overflow_add-traded-3
overflow_add-traded-3 c = let within = word_within _ _ traded_buys_at total_cells _ (sym c.within.ensures ∙ c.if-not-within.false) in omega (arith, within traded_buys_at (omega arith) (omega arith), within traded_sells_at (omega arith) (omega arith))

pub overflow_add-open-3 : goal.overflow_add-open-3
overflow_add-open-3 c = let within = word_within _ _ traded_buys_at total_cells _ (sym c.within.ensures ∙ c.if-not-within.false) in omega (arith, within open_buys_at (omega arith) (omega arith), within open_sells_at (omega arith) (omega arith))

pub overflow_add-traded-4 : goal.overflow_add-traded-4
overflow_add-traded-4 c = let within = word_within _ _ traded_buys_at total_cells _ (sym c.within.ensures ∙ c.if-not-within.false) in omega (arith, within traded_buys_at (omega arith) (omega arith), within traded_sells_at (omega arith) (omega arith), within open_buys_at (omega arith) (omega arith), within open_sells_at (omega arith) (omega arith))
