-- Document 01, "Per-order checks (004)": the range and the tick of a price, and price protection.
use Rattle.std.specs.Prelude.{Bool, not, ◌&&◌, ◌||◌, cond, List, [], ◌∷◌, ℕ, ◌*◌, ◌-◌, ◌%◌, max, leb, ltb, eqb}
use Rattle.rulebook.specs.Lines.{Side, is_buy}

abbrev pub tick : ℕ → ℕ
tick p = cond (ltb p 1_000_000) 100 10_000

-- 13: "price out of range or off tick"
unfoldable pub bad_price : ℕ → Bool
bad_price p = ltb p 100 || ltb 999_999_990_000 p || not (eqb (p % tick p) 0)

-- a row of the table takes the prices below its bound that the rows above it leave
pub data Row : Type 0 where
  row : (below percent dollars : ℕ) → Row

unfoldable pub rows : List Row
rows =
    row 1_000_000 10 150_000
    ∷ row 10_000_000 10 150_000
    ∷ row 50_000_000 10 1_000_000
    ∷ row 100_000_000 10 5_000_000
    ∷ row 500_000_000 5 10_000_000
    ∷ []

-- "otherwise" is the row that is left
abbrev pub row_in : ℕ → List Row → Row
row_in p [] = row 0 3 25_000_000
row_in p (row below c d ∷ rs) = cond (ltb p below) (row below c d) (row_in p rs)

-- a quote is known, and 100 x (how far the price is beyond it) is at least the greater of the two
abbrev pub too_far : Row → ℕ → ℕ → Bool
too_far (row below percent dollars) quote beyond = not (eqb quote 0) && leb (max (percent * quote) (100 * dollars)) (100 * beyond)

-- 14: price protection. The row is by the order's own price; a price on the near side of the quote is 0 beyond it
unfoldable pub off_market : Side → ℕ → ℕ → ℕ → Bool
off_market x price bid offer = cond (is_buy x) (too_far (row_in price rows) offer (price - offer)) (too_far (row_in price rows) bid (bid - price))
