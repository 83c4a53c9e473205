-- Document 01, "Outcomes", "State rules", of the lent words: the rulebook's rules of the books that they say,
-- and what only words can break.
use Rattle.std.specs.Prelude.{◌≡◌, true, false, List, [], ◌∷◌, ℕ, ◌≤◌, ◌<◌, length}
use Rattle.laws.specs.Tables.{sum}
use Rattle.laws.specs.Rows.{Row}
use Rattle.rulebook.specs.Kept.{Order, worth}
use Rattle.rulebook.specs.Rules.{Sound}
use Rattle.books.specs.Layout.{least_words, groups, keys, requests, orders, opened_at, groups_at, places_at, short_sales_at, blocked_at, open_buys_at, open_sells_at, kind_at, number_at, target_at, target_middle_at, target_tail_at, symbol_at, side_at, size_at, price_at, order_price_at, order_size_at, done_at, cancel_asked_at}
use Rattle.books.specs.View.{mpid_in, asked_in, opens, head_in, orders_in, rows_of, view}
use Rattle.books.specs.Writing.{request_words}

-- every field in range: marks are 0 or 1
pub record TidyGroup (r : Row) : Type 0 where
  pub short_sales_mark : r short_sales_at ≤ 1
  pub blocked_mark : r blocked_at ≤ 1

-- the words of a request, as they stand
abbrev pub words_in : Row → List ℕ
words_in r = r kind_at ∷ r number_at ∷ r target_at ∷ r target_middle_at ∷ r target_tail_at ∷ r symbol_at ∷ r side_at ∷ r size_at ∷ r price_at ∷ []

-- a kind's letter is one of the five, a side's one of the four, and a field that a kind has not is 0: the words are as they would be written.
-- The figures of a place that is no passed N are 0
pub record TidyPlace (k r o : Row) : Type 0 where
  pub as_written : words_in r ≡ request_words (asked_in k r)
  pub cancel_mark : o cancel_asked_at ≤ 1
  pub unused : opens r ≡ false → (o order_price_at ≡ 0) × (o order_size_at ≡ 0) × (o done_at ≡ 0) × (o cancel_asked_at ≡ 0)

-- open values equal to the sums over the table
pub record Summed (os : List Order) (r : Row) : Type 0 where
  pub open_buys : r open_buys_at ≡ sum (worth (mpid_in r) true) os
  pub open_sells : r open_sells_at ≡ sum (worth (mpid_in r) false) os

pub record Valid (m : List ℕ) : Type 0 where
  -- long enough for groups and symbols
  pub long : least_words ≤ length m
  -- every rule of the books
  pub sound : Sound (view m)
  -- every field in range
  pub opened_mark : head_in (rows_of m) opened_at ≤ 1
  pub groups_tidy : (i : ℕ) → i < head_in (rows_of m) groups_at → TidyGroup (rows_of m groups i)
  pub places_tidy : (i : ℕ) → i < head_in (rows_of m) places_at → TidyPlace (rows_of m keys i) (rows_of m requests i) (rows_of m orders i)
  -- open values equal to the sums over the table
  pub summed : (i : ℕ) → i < head_in (rows_of m) groups_at → Summed (orders_in (rows_of m)) (rows_of m groups i)
