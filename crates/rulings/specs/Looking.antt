-- What the rulebook looks up, by rows: the first row with the key, if one of those in use has it.
use Rattle.std.specs.Prelude.{◌≡◌, Bool, true, false, ◌&&◌, List, ℕ, ◌<◌, ◌≤◌, eqb, Some, None}
use Rattle.std.specs.Bool.{then_some}
use Rattle.std.proofs.Math.Path.{refl, sym, ap}
use Rattle.std.proofs.Common.{◌∙◌, subst, arith}
use Rattle.std.proofs.Math.Bool.{cond, false≢true}
use Rattle.std.proofs.Math.Option.{Option, none, some}
use Rattle.std.proofs.Math.Decide.{dec_lt}
use Rattle.std.proofs.Math.Dec.{ltb}
use borrow.Author.Tests.{ltb-true, ltb-false, lt-ltb, le-ltb, eqb-true, eqb-false}
use Rattle.laws.specs.Tests.{on, two, first_fails, second_fails}
use Rattle.laws.specs.Tables.{look}
use Rattle.laws.specs.Numbered.{apart, apart_each, Least, least_is, least_at, least_none, find_those}
use Rattle.laws.specs.Rows.{Sheet}
use Rattle.rulebook.specs.Names.{Mpid, Key, same_mpid, same_key, key_exact}
use Rattle.rulebook.specs.Kept.{by_mpid, by_id, by_key}
use Rattle.books.specs.Layout.{groups_at, symbols_at, places_at}
use Rattle.books.specs.View.{head_in, group_of, symbol_of, same_place, opens_of, order_of, view, rows_of, books_in}
use Rattle.books.specs.Writing.{group_index, symbol_index, order_index}
use Rattle.store.specs.Finding.{key_at, place_index, found_place}
use Rattle.store.specs.declared.Found.{Found}
use Rattle.store.specs.declared.Found.TheVariants.{At, Free, Full}
use Rattle.rulings.specs.Rulings.{order_place}

-- row i of n
abbrev pub at_row : {A : Type 0} → (ℕ → A) → ℕ → ℕ → Option A
at_row f i n = cond (ltb i n) (some (f i)) none

module _ (m : List ℕ) where
  abbrev S : Sheet
  S = rows_of m

  pub group_looked : (p : Mpid) → look by_mpid p (view m).ledger.groups ≡ at_row (group_of S) (group_index S p) (head_in S groups_at)
  unfolding look group_index books_in
  group_looked p = find_those (λ g. same_mpid p g.mpid) (λ i. true) (group_of S) (head_in S groups_at)

  pub symbol_looked : (s : ℕ) → look by_id s (view m).ledger.symbols ≡ at_row (symbol_of S) (symbol_index S s) (head_in S symbols_at)
  unfolding look symbol_index books_in
  symbol_looked s = find_those _ (λ i. true) (symbol_of S) (head_in S symbols_at)

  pub order_looked : (k : Key) → look by_key k (view m).ledger.orders ≡ at_row (order_of S) (order_index S k) (head_in S places_at)
  unfolding look order_index books_in
  order_looked k = find_those (λ o. same_key k o.ticket.key) (opens_of S) (order_of S) (head_in S places_at)

pub row_there : {A : Type 0} (f : ℕ → A) (i n : ℕ) → i < n → at_row f i n ≡ some (f i)
row_there f i n h = rw (lt-ltb i n h) refl

pub row_missing : {A : Type 0} (f : ℕ → A) (i n : ℕ) → n ≤ i → at_row f i n ≡ none
row_missing f i n h = rw (le-ltb i n h) refl

-- ── an order, from the search of the table: no other place has its key ──
abbrev is_at : Found → Bool
is_at (At i) = true
is_at (Free i) = false
is_at Full = false

module _ (S : Sheet) (room : ℕ) (k : Key) where
  abbrev np : ℕ
  np = head_in S places_at

  abbrev has_key : ℕ → Bool
  has_key j = same_key k (key_at S j)

  abbrev holds : ℕ → Bool
  holds j = opens_of S j && has_key j

  first_place : Least has_key np (place_index S k)
  unfolding place_index
  first_place = least_is has_key np

  pub found_here : (i : ℕ) → At i ≡ found_place S room k → (i < np) × (i ≡ place_index S k)
  unfolding found_place
  found_here i e = on (λ b. ltb (place_index S k) np ≡ b → At i ≡ cond b (At (place_index S k)) (cond (ltb np room) (Free np) Full) → (i < np) × (i ≡ place_index S k)) (ltb (place_index S k) np)
      (λ z q h. let p : i ≡ place_index S k = cc in (omega (arith, p, ltb-true (place_index S k) np q), p))
      (λ z q h. absurd (on (λ b. At i ≡ cond b (Free np) Full → ⊥) (ltb np room) (λ y h. false≢true (sym (ap is_at h))) (λ y h. false≢true (sym (ap is_at h))) h)) refl e

  found_none : (ltb (place_index S k) np ≡ true → ⊥) → (j : ℕ) → j < np → holds j ≡ false
  found_none never j lt = second_fails (opens_of S j) (first_place.before j (omega (arith, ltb-false (place_index S k) np (on (λ b. (b ≡ true → ⊥) → b ≡ false) (ltb (place_index S k) np) (λ z n. absurd (n refl)) (λ z n. refl) never))))

  order_none : ((j : ℕ) → j < np → holds j ≡ false) → np ≡ order_index S k
  unfolding order_index
  order_none h = sym (least_none holds np h)

  pub order_here : (i : ℕ) → At i ≡ found_place S room k → opens_of S i ≡ true → i ≡ order_index S k
  unfolding order_index
  order_here i e o = let w = found_here i e in let l = first_place in
      sym (least_at holds np i w.0 (λ j lt. second_fails (opens_of S j) (l.before j (omega (arith, w.1)))) (two o (subst (λ i. has_key i ≡ true) (sym w.1) (l.here (omega (arith, w))))))

  -- a place that is no passed N
  pub order_closed : apart (same_place S) np ≡ true → (i : ℕ) → At i ≡ found_place S room k → opens_of S i ≡ false → np ≡ order_index S k
  order_closed alone i e o = let w = found_here i e in let l = first_place in
      order_none (λ j lt. elim (dec_lt j i) [
        | yes p ↦ second_fails (opens_of S j) (l.before j (omega (arith, w.1)))
        | no n ↦ on (λ b. eqb i j ≡ b → holds j ≡ false) (eqb i j)
            (λ z q. first_fails (has_key j) (subst (λ j. opens_of S j ≡ false) (eqb-true i j q) o))
            (λ z q. second_fails (opens_of S j) (subst (λ k. same_key k (key_at S j) ≡ false) (sym (key_exact.only k (key_at S i) (subst (λ i. has_key i ≡ true) (sym w.1) (l.here (omega (arith, w))))))
            (apart_each (same_place S) np alone i j (omega (arith, n, eqb-false i j q)) lt))) refl
      ])

  pub order_free : (j : ℕ) → Free j ≡ found_place S room k → np ≡ order_index S k
  unfolding found_place
  order_free j e = order_none (found_none (λ q. false≢true (ap is_at (e ∙ ap (λ b. cond b (At (place_index S k)) (cond (ltb np room) (Free np) Full)) q))))

  pub order_full : Full ≡ found_place S room k → np ≡ order_index S k
  unfolding found_place
  order_full e = order_none (found_none (λ q. false≢true (ap is_at (e ∙ ap (λ b. cond b (At (place_index S k)) (cond (ltb np room) (Free np) Full)) q))))

  -- so the place of the order with the key
  there : (i : ℕ) → i ≡ order_index S k → i < np → Some i ≡ order_place S k
  unfolding order_place
  there i q h = rw (← q, lt-ltb i np h) refl

  missing : np ≡ order_index S k → None ≡ order_place S k
  unfolding order_place
  missing q = rw (← q, le-ltb np np (omega arith)) refl

  pub place_met : apart (same_place S) np ≡ true → (i : ℕ) → At i ≡ found_place S room k → (b : Bool) → b ≡ opens_of S i → then_some b i ≡ order_place S k
  place_met alone i e true q = there i (order_here i e (sym q)) (found_here i e).0
  place_met alone i e false q = missing (order_closed alone i e (sym q))

  pub place_free : (j : ℕ) → Free j ≡ found_place S room k → None ≡ order_place S k
  place_free j e = missing (order_free j e)

  pub place_full : Full ≡ found_place S room k → None ≡ order_place S k
  place_full e = missing (order_full e)
