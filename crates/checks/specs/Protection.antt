-- Document 01, "Price protection takes its row by the order's own price": the code's table of six rows. A row takes
-- the prices from the bound before its own up to its own.
use Rattle.std.specs.Prelude.{Bool, true, ◌&&◌, List, [], ◌∷◌, ℕ, zero, suc, ltb, get_or}
use Rattle.std.specs.List.{find}
use Rattle.std.specs.Option.{unwrap_or}
use Rattle.rulebook.specs.Prices.{Row, row}
use Rattle.checks.specs.declared.Row.{Row as RowWords}

-- ── the table ──
abbrev entry : ℕ → ℕ → ℕ → RowWords
entry bound percent dollars = record { bound = bound; percent = percent; dollars = dollars }

-- the last bound is above every price
abbrev pub table : List RowWords
table =
    entry 1_000_000 10 150_000
    ∷ entry 10_000_000 10 150_000
    ∷ entry 50_000_000 10 1_000_000
    ∷ entry 100_000_000 10 5_000_000
    ∷ entry 500_000_000 5 10_000_000
    ∷ entry 1_000_000_000_000 3 25_000_000
    ∷ []

abbrev pub row_at : List RowWords → ℕ → RowWords
row_at l i = get_or l i (entry 0 0 0)

abbrev pub row_said : RowWords → Row
row_said r = row r.bound r.percent r.dollars

-- a row without its bound: percent and dollar part are what a price is held to
abbrev pub terms : Row → Row
terms (row below percent dollars) = row 0 percent dollars

-- the row that the code takes for a price: the first whose bound is above it, and the last where none is
abbrev pub found : List RowWords → ℕ → RowWords
found l p = unwrap_or (find (λ r. ltb p r.bound) l) (row_at l 5)

-- ── whether its bounds ascend ──
abbrev pub ascending : List RowWords → Bool
ascending [] = true
ascending (a ∷ []) = true
ascending (a ∷ b ∷ l) = ltb a.bound b.bound && ascending (b ∷ l)

-- where a row's prices begin: at the bound before its own
abbrev pub start : List RowWords → ℕ → ℕ
start l zero = 0
start l (suc i) = (row_at l i).bound
