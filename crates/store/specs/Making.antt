-- Document 01, "Making a fresh state", and the totals that a closing line shows.
use Prim.{Unit, tt}
use Rattle.std.specs.Prelude.{◌≡◌, refl, Bool, true, cond, List, [], ◌∷◌, ℕ, zero, suc, ◌+◌, ◌≤◌, ◌<◌, ltb, eqb, length, get_or, set, replicate, Option, Some, None, Result, Ok, Err}
use Rattle.std.proofs.Common.{sym, ap, ◌∙◌, subst, arith, get_or-set_same, get_or-set_other, ltb-true, eqb-true}
use Rattle.std.proofs.Math.Option.{Option as OptionOf, none, some, map}
use Rattle.std.proofs.lemmas.List.{length-replicate}
use Rattle.std.proofs.lemmas.Bool.{eqb-false}
use Rattle.laws.specs.Tests.{on}
use Rattle.laws.specs.Rows.{Sheet}
use Rattle.laws.specs.Numbered.{those, numbered, get_elem_numbered, those_none}
use Rattle.rulebook.specs.Lines.{ceiling, number, mpid, yes_no, Line, line}
use Rattle.rulebook.specs.Kept.{Group, tally, fresh_books}
use Rattle.rulebook.specs.Rules.{Sound}
use Rattle.rulebook.proofs.Keeping.{fresh_sound}
use Rattle.rulebook.specs.Outcomes.{closing_line, closing}
use Rattle.books.specs.Layout.{least_words, room_for, groups, opened_at, last_at, groups_at, symbols_at, places_at, mpid_at, blocked_at, traded_buys_at, traded_sells_at, open_buys_at, open_sells_at}
use Rattle.books.specs.View.{flag, head_in, group_of, asked_of, symbol_of, opens_of, order_of, orders_in, books_in, rows_of, view}
use Rattle.books.proofs.Refining.{books_same, room_most}
use Rattle.books.specs.Rules.{Valid}
use Rattle.books.specs.declared.Totals.{Totals}
use Rattle.store.specs.declared.MakeError.{MakeError}
use Rattle.store.specs.declared.MakeError.TheVariants.{TooShort}

-- ── a fresh state ──
-- the number of each answer: 23 where the memory is too short
abbrev pub make_number : MakeError → ℕ
make_number TooShort = 23

abbrev pub made_number : Result (Unit {0}) MakeError → ℕ
made_number (Ok x) = 0
made_number (Err e) = make_number e

-- "23 alone; otherwise every byte of the lent memory is set"
abbrev pub too_short : List ℕ → Bool
too_short m = ltb (length m) least_words

unfoldable pub made : List ℕ → ℕ
made m = cond (too_short m) (made_number (Err TooShort)) (made_number (Ok tt))

unfoldable pub made_words : List ℕ → List ℕ
made_words m = cond (too_short m) m (replicate (length m) 0)

-- words that are all 0
pub all_zero : (m : List ℕ) → ((k : ℕ) → k < length m → get_or m k 0 ≡ 0) → m ≡ replicate (length m) 0
all_zero [] h = refl
all_zero (v ∷ m) h = λ i. h 0 (omega arith) i ∷ all_zero m (λ k lt. h (suc k) (omega arith)) i

-- one word more set to 0
pub zero_more : (m : List ℕ) (i : ℕ) → i < length m → ((k : ℕ) → k < i → get_or m k 0 ≡ 0) → (k : ℕ) → k < i + 1 → get_or (set m i 0) k 0 ≡ 0
zero_more m i lt h k l = on (λ b. eqb k i ≡ b → get_or (set m i 0) k 0 ≡ 0) (eqb k i)
    (λ z e. ap (λ (j : ℕ). get_or (set m i 0) j 0) (eqb-true k i e) ∙ get_or-set_same m i 0 0 lt) (λ z e. let ne = eqb-false k i e in get_or-set_other m i k 0 0 ne ∙ h k (omega (arith, ne))) refl

-- a word of so many zeros
zero_at : (n k : ℕ) → ◌≡◌ {A = ℕ} (get_or (replicate n 0) k 0) 0
zero_at zero k = refl
zero_at (suc n) zero = refl
zero_at (suc n) (suc k) = zero_at n k

-- THEOREM. "the last number is 0 and nothing is listed"
pub fresh_view : (n : ℕ) → view (replicate n 0) ≡ fresh_books (room_for n)
unfolding books_in fresh_books
fresh_view n = let S = rows_of (replicate n 0) in
    books_same (ap flag (zero_at n opened_at)) (zero_at n last_at) (ap (numbered (asked_of S)) (zero_at n places_at) ∙ those_none (λ i. true) (asked_of S)) (ap (numbered (group_of S)) (zero_at n groups_at) ∙ those_none (λ i. true) (group_of S))
    (ap (numbered (symbol_of S)) (zero_at n symbols_at) ∙ those_none (λ i. true) (symbol_of S)) (ap (those (opens_of S) (order_of S)) (zero_at n places_at) ∙ those_none (opens_of S) (order_of S))
    ∙ ap (λ k. fresh_books (room_for k)) (length-replicate n zero)

none_below : {k : ℕ} (i : ℕ) → k ≡ 0 → i < k → ⊥
none_below i e lt = omega arith

-- THEOREM. A fresh state meets every state rule
pub fresh_valid : (n : ℕ) → least_words ≤ n → Valid (replicate n 0)
fresh_valid n h = record {
  long = rw (length-replicate n zero) h;
  sound = subst Sound (sym (fresh_view n)) (fresh_sound (room_for n) (room_most n));
  opened_mark = rw (zero_at n opened_at) (omega arith);
  groups_tidy = λ i lt. absurd (none_below i (zero_at n groups_at) lt);
  places_tidy = λ i lt. absurd (none_below i (zero_at n places_at) lt);
  summed = λ i lt. absurd (none_below i (zero_at n groups_at) lt);
}

-- ── a closing line's totals ──
-- the group at a place in listing order: its row's words
abbrev pub totals_in : Sheet → ℕ → Totals
totals_in S i = let r = S groups i in
    record { mpid = r mpid_at; traded_buys = r traded_buys_at; traded_sells = r traded_sells_at; open_buys = r open_buys_at; open_sells = r open_sells_at; blocked = flag (r blocked_at) }

unfoldable pub totals_of : Sheet → ℕ → Option Totals
totals_of S i = cond (ltb i (head_in S groups_at)) (Some (totals_in S i)) None

-- what they show: none where no group has the place
unfoldable pub shown : Option Totals → OptionOf Line
shown (Some t) = some (line "E" (mpid (record { code = t.mpid }) ∷ number 0 ceiling t.traded_buys ∷ number 0 ceiling t.traded_sells ∷ number 0 ceiling t.open_buys ∷ number 0 ceiling t.open_sells ∷ yes_no t.blocked ∷ []))
shown None = none

-- THEOREM. Over a memory that meets the state rules they are the rulebook's closing line
pub closing_shown : (m : List ℕ) → Valid m → (i : ℕ) → shown (totals_of (rows_of m) i) ≡ closing (view m) i
unfolding shown totals_of books_in
closing_shown m v i = on (λ b. ltb i ng ≡ b → shown (cond b (Some (totals_in S i)) None) ≡ map line_for (cond b (some (group_of S i)) none)) (ltb i ng)
    (λ z e. let s = v.summed i (ltb-true i ng e) in rw (s.open_buys, s.open_sells) refl) (λ z e. refl) refl
    ∙ ap (map line_for) (sym (get_elem_numbered (group_of S) ng i))
  where
    S : Sheet
    S = rows_of m

    ng : ℕ
    ng = head_in (rows_of m) groups_at

    line_for : Group → Line
    line_for g = closing_line g (tally g (orders_in (rows_of m)))
