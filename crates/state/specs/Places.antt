-- The rules of the table's places as the code tries them, and where the desk of a place and the symbol of an order are listed.
use Rattle.std.specs.Prelude.{◌≡◌, Bool, true, false, cond, Option, None, Some, List, [], ◌∷◌, ℕ, ◌+◌, ◌*◌, ◌≤◌, ◌<◌, ltb, eqb, get_or}
use Rattle.std.proofs.Common.{sym, ◌∙◌, subst, arith, eq-eqb}
use Rattle.std.proofs.lemmas.Bool.Decides.{nat_tests}
use Rattle.laws.specs.Tests.{eqb_exact, exact_sym}
use Rattle.laws.specs.Numbered.{every, apart, apart_each, least_at, least_is}
use Rattle.laws.specs.Checks.{all_hold}
use Rattle.rulebook.specs.Names.{same_mpid}
use Rattle.books.specs.Layout.{order_start, request_start, orders, base_of, width_of, groups, symbols, requests, id_at, symbol_at, symbols_at}
use Rattle.books.specs.View.{mpid_in, head_in, rows_of, opens_of, asked_of}
use Rattle.books.specs.Writing.{group_index, symbol_index}
use Rattle.chains.specs.declared.Rows.{Rows}
use Rattle.chains.specs.Words.{same_row}
use Rattle.store.specs.Finding.{first_row}
use Rattle.rules.specs.Passing.{words_within, request_ok, figures_ok}

-- so many rows of a region, told apart by so many words
pub record AreRows (r : Rows) (m : List ℕ) (q words n : ℕ) : Type 0 where
  pub mem : r.mem.now ≡ m
  pub base : r.at ≡ base_of q
  pub width : r.width ≡ width_of q
  pub compared : r.words ≡ words
  pub count : r.count ≡ n

-- a place among so many, or none
abbrev pub listed_at : ℕ → ℕ → Option ℕ
listed_at k n = cond (ltb k n) (Some k) None

pub none_listed : (k n : ℕ) → listed_at k n ≡ None → n ≤ k
none_listed k n e = grind (arith, nat_tests)

pub some_listed : (k n j : ℕ) → listed_at k n ≡ Some j → (j ≡ k) × (j < n)
some_listed k n j e = grind (arith, nat_tests)

-- a search of them is one of the region's rows
pub first_of : (r : Rows) (m : List ℕ) (q n w : ℕ) → AreRows r m q 1 n → first_row r.mem.now r.at r.width r.count w ≡ first_row m (base_of q) (width_of q) n w
first_of r m q n w a = cc

-- and that no two of them begin alike is that no two of the region's rows do
pub apart_of : (r : Rows) (m : List ℕ) (q words n : ℕ) → AreRows r m q words n → apart (same_row r.mem.now r.at r.width r.words) r.count ≡ apart (same_row m (base_of q) (width_of q) words) n
apart_of r m q words n a = cc

-- two groups with one MPID, two symbols with one ID
abbrev pub same_desk : List ℕ → ℕ → ℕ → Bool
same_desk m i j = same_mpid (mpid_in (rows_of m groups i)) (mpid_in (rows_of m groups j))

abbrev pub same_id : List ℕ → ℕ → ℕ → Bool
same_id m i j = eqb (rows_of m symbols i id_at) (rows_of m symbols j id_at)

-- an order's figures are in range and its symbol is listed; a place without one has none
unfoldable pub figures_right : List ℕ → ℕ → Bool
figures_right m i = cond (opens_of (rows_of m) i) (all_hold (figures_ok m (order_start m i) ∷ ltb (symbol_index (rows_of m) (rows_of m requests i symbol_at)) (head_in (rows_of m) symbols_at) ∷ [])) (words_within m (order_start m i) (width_of orders) 0)

unfoldable pub place_ok : List ℕ → ℕ → Bool
place_ok m i = all_hold (request_ok m i (request_start m i) ∷ figures_right m i ∷ [])

-- the group of a place's owner
abbrev pub desk_at : List ℕ → ℕ → ℕ
desk_at m i = group_index (rows_of m) (asked_of (rows_of m) i).request.key.owner.mpid

-- ── a hint that is right is where the search would end ──
pub hint_right : (m : List ℕ) (at width n w i : ℕ) → apart (same_row m at width 1) n ≡ true → i < n → get_or m (at + i * width + 0) 0 ≡ w → i ≡ first_row m at width n w
unfolding first_row same_row every
hint_right m at width n w i a lt e = sym (least_at (λ j. eqb w (get_or m (at + j * width + 0) 0)) n i lt
    (λ j h. exact_sym eqb_exact w (get_or m (at + j * width + 0) 0) ∙ subst (λ (w : ℕ). eqb (get_or m (at + j * width + 0) 0) w ≡ false) e (apart_each (same_row m at width 1) n a j i h lt)) (eq-eqb w (get_or m (at + i * width + 0) 0) (sym e)))

-- a search ends within the rows
pub row_within : (m : List ℕ) (at width n w : ℕ) → first_row m at width n w ≤ n
unfolding first_row
row_within m at width n w = (least_is (λ i. eqb w (get_or m (at + i * width + 0) 0)) n).within
