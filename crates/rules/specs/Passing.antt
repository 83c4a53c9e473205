-- The rules of a row as the code tries them, one after the other, over the words where they stand.
use Rattle.std.specs.Prelude.{◌≡◌, refl, Bool, true, false, ◌||◌, cond, List, [], ◌∷◌, ℕ, ◌+◌, ◌*◌, ◌-◌, ◌≤◌, ◌<◌, leb, eqb, length, get_or}
use Rattle.std.proofs.Common.{subst, arith, lt-ltb, le-ltb, leb-true, le-leb}
use Prim.Native.Char.{code}
use Rattle.laws.specs.Numbered.{every, every_each, every_yes}
use Rattle.laws.specs.Checks.{all_hold, last_call, stop_call, pass_call, stop_most, pass_most}
use Rattle.laws.specs.Rows.{Row}
use Rattle.rulebook.specs.Names.{bytes, Ident}
use Rattle.rulebook.specs.Lines.{ceiling, from_to, letter, identifier, mpid}
use Rattle.rulebook.specs.Rules.{is_kept}
use Rattle.packing.specs.Fitting.{fits}
use Rattle.books.specs.Layout.{least_words, groups, symbols, keys, requests, base_of, width_of, limit_cells, mark_cells, total_cells, target_cells, not_of_change, not_of_cancel, not_of_block, opened_at, last_at, groups_at, symbols_at, places_at, mpid_at, gross_trade_at, max_size_at, short_sales_at, traded_buys_at, traded_sells_at, open_buys_at, open_sells_at, id_at, bid_at, kind_at, number_at, target_at as target_cell, target_middle_at, target_tail_at, symbol_at, side_at, size_at, price_at, order_price_at, order_size_at, done_at, cancel_asked_at}
use Rattle.books.specs.View.{flag, key_in, rows_of}

-- the words of a row are there
pub record HasGroup (m : List ℕ) (i : ℕ) : Type 0 where
  pub few : i < 64
  pub room : least_words ≤ length m

pub record HasSymbol (m : List ℕ) (i : ℕ) : Type 0 where
  pub few : i < 256
  pub room : least_words ≤ length m

pub record HasRow (m : List ℕ) (b : ℕ) : Type 0 where
  pub room : b + width_of requests ≤ length m

-- each of n words from a place on is at most so much
unfoldable pub words_within : List ℕ → ℕ → ℕ → ℕ → Bool
words_within m at n most = every (λ k. leb (get_or m (at + k) 0) most) n

-- a rule of what is closed before O
unfoldable pub early : ℕ → Bool → Bool
early opened b = cond (flag opened) true b

unfoldable pub head_ok : ℕ → Row → Bool
head_ok room h = all_hold (leb (h opened_at) 1 ∷ leb (h last_at) 4_294_967_295 ∷ leb (h groups_at) 64 ∷ leb (h symbols_at) 256 ∷ leb (h places_at) room ∷ early (h opened_at) (eqb (h places_at) 0) ∷ [])

-- the word of a cell, and where rows begin
abbrev pub word_at : List ℕ → ℕ → ℕ → ℕ
word_at m b k = get_or m (b + k) 0

abbrev pub group_start : ℕ → ℕ
group_start i = base_of groups + i * width_of groups

abbrev pub symbol_start : ℕ → ℕ
symbol_start i = base_of symbols + i * width_of symbols

unfoldable pub totals_ok : List ℕ → ℕ → Bool
totals_ok m i = let b = group_start i in
    all_hold (words_within m (b + traded_buys_at) total_cells ceiling ∷ leb (word_at m b traded_buys_at + word_at m b traded_sells_at + (word_at m b open_buys_at + word_at m b open_sells_at)) ceiling ∷ early (get_or m opened_at 0) (words_within m (b + traded_buys_at) total_cells 0) ∷ [])

unfoldable pub group_ok : List ℕ → ℕ → Bool
group_ok m i = let b = group_start i in
    all_hold (fits (mpid (record { code = word_at m b mpid_at })) ∷ words_within m (b + gross_trade_at) limit_cells ceiling ∷ from_to 1 1_000_000 (word_at m b max_size_at) ∷ words_within m (b + short_sales_at) mark_cells 1 ∷ totals_ok m i ∷ [])

unfoldable pub symbol_ok : List ℕ → ℕ → Bool
symbol_ok m i = let b = symbol_start i in all_hold (from_to 1 4_294_967_295 (word_at m b id_at) ∷ words_within m (b + bid_at) 2 999_999_999_999 ∷ [])

unfoldable pub number_ok : ℕ → Bool
number_ok n = eqb n 0 || is_kept n

unfoldable pub sized_ok : List ℕ → ℕ → Bool
sized_ok m b = all_hold (from_to 1 1_000_000 (word_at m b size_at) ∷ from_to 1 999_999_999_999 (word_at m b price_at) ∷ [])

unfoldable pub new_ok : List ℕ → ℕ → Bool
new_ok m b = all_hold (words_within m (b + target_cell) target_cells 0 ∷ from_to 1 4_294_967_295 (word_at m b symbol_at) ∷ fits (letter (bytes "BSHE") (word_at m b side_at)) ∷ sized_ok m b ∷ [])

abbrev pub target_at : List ℕ → ℕ → Ident
target_at m b = record { head = word_at m b target_cell; middle = word_at m b target_middle_at; tail = word_at m b target_tail_at }

unfoldable pub change_ok : List ℕ → ℕ → Bool
change_ok m b = all_hold (words_within m (b + symbol_at) not_of_change 0 ∷ fits (identifier (target_at m b)) ∷ sized_ok m b ∷ [])

unfoldable pub cancel_ok : List ℕ → ℕ → Bool
cancel_ok m b = all_hold (words_within m (b + symbol_at) not_of_cancel 0 ∷ fits (identifier (target_at m b)) ∷ [])

unfoldable pub deal_ok : List ℕ → ℕ → Bool
deal_ok m b = let kind = word_at m b kind_at in
    cond (eqb kind (code "N")) (new_ok m b)
    (cond (eqb kind (code "M")) (change_ok m b)
    (cond (eqb kind (code "C")) (cancel_ok m b)
    (cond (eqb kind (code "B")) (words_within m (b + target_cell) not_of_block 0)
    (cond (eqb kind (code "R")) (words_within m (b + target_cell) not_of_block 0) false))))

unfoldable pub request_ok : List ℕ → ℕ → ℕ → Bool
request_ok m i b =
    all_hold (fits (identifier (key_in (rows_of m keys i)).name) ∷ number_ok (word_at m b number_at) ∷ deal_ok m b ∷ [])

unfoldable pub is_order : List ℕ → ℕ → Bool
is_order m b = all_hold (eqb (word_at m b kind_at) (code "N") ∷ eqb (word_at m b number_at) 0 ∷ [])

unfoldable pub figures_ok : List ℕ → ℕ → Bool
figures_ok m b = all_hold (from_to 1 999_999_999_999 (word_at m b order_price_at) ∷ from_to 1 1_000_000 (word_at m b order_size_at) ∷ leb (word_at m b cancel_asked_at) 1 ∷ leb (word_at m b done_at) (word_at m b order_size_at) ∷ [])

-- what the code answers where the day is open, and before O
pub early_open : (opened : ℕ) (b : Bool) → 0 < opened → true ≡ all_hold (early opened b ∷ [])
unfolding early
early_open n b h = last_call true (cond (flag n) true b) (rw (lt-ltb 0 n h) refl)

pub early_shut : (opened : ℕ) (x b : Bool) → opened ≤ 0 → x ≡ b → x ≡ all_hold (early opened b ∷ [])
unfolding early
early_shut n x b h e = last_call x (cond (flag n) true b) (rw (le-ltb 0 n h) e)

pub ruleset head_tried = (stop_most, pass_most, early_open, early_shut, arith)

pub ruleset totals_tried = (stop_call, pass_call, stop_most, pass_most, early_open, early_shut, arith)

-- a word that was tried
pub word_within : (m : List ℕ) (b from n most : ℕ) → words_within m (b + from) n most ≡ true → (k : ℕ) → from ≤ k → k < from + n → word_at m b k ≤ most
unfolding words_within
word_within m b from n most e k le lt = let w = every_each (λ k. leb (get_or m (b + from + k) 0) most) n e (k - from) (omega arith) in
    subst (λ (j : ℕ). get_or m j 0 ≤ most) (let q : b + from + (k - from) ≡ b + k = omega arith in q) (leb-true (get_or m (b + from + (k - from)) 0) most w)

-- and words that are all at most so much
pub within_words : (m : List ℕ) (b from n most : ℕ) → ((k : ℕ) → from ≤ k → k < from + n → word_at m b k ≤ most) → words_within m (b + from) n most ≡ true
unfolding words_within
within_words m b from n most h = every_yes (λ k. leb (get_or m (b + from + k) 0) most) n (λ k lt.
    le-leb (get_or m (b + from + k) 0) most (subst (λ (j : ℕ). get_or m j 0 ≤ most) (let q : b + (from + k) ≡ b + from + k = omega arith in q) (h (from + k) (omega arith) (omega arith))))
