-- Document 01, "Price protection takes its row by the order's own price": the code's table of six rows. Its bounds are tested once to
-- ascend, so a row takes the prices from the bound before its own up to its own.
use Rattle.std.specs.Prelude.{◌≡◌, refl, true, cond, List, [], ◌∷◌, ◌++◌, map, ℕ, zero, suc, ◌+◌, ◌≤◌, ◌<◌, ltb, length}
use Rattle.std.proofs.Common.{sym, ap, subst, ◌∙◌, arith, add-one, ltb-true, ltb-false, lt-ltb, le-ltb}
use Rattle.std.proofs.Math.Bool.{and-eq-true_iff}
use Rattle.std.proofs.Math.Decide.{dec_lt}
use Rattle.std.specs.List.{find}
use Rattle.std.specs.Option.{unwrap_or}
use Rattle.std.specs.Prelude.{Option, Some, None}
use Rattle.laws.specs.Tests.{on}
use Rattle.rulebook.specs.Prices.{Row, row, rows, row_in}
use Rattle.checks.specs.declared.Row.{Row as RowWords}
use Rattle.checks.specs.Protection.{table, row_at, row_said, terms, found, ascending, start}

pub table_ascends : ascending table ≡ true
table_ascends = refl

-- what the test says at each entry: its bound is below every later one
pub ascending_each : (l : List RowWords) → ascending l ≡ true → (i j : ℕ) → i < j → j < length l → (row_at l i).bound < (row_at l j).bound
ascending_each [] e i j lt h = absurd (omega arith)
ascending_each (a ∷ []) e i j lt h = absurd (omega arith)
ascending_each (a ∷ b ∷ l) e i zero lt h = absurd (omega arith)
ascending_each (a ∷ b ∷ l) e i (suc j) lt h =
    let w = (and-eq-true_iff (ltb a.bound b.bound) (ascending (b ∷ l))).0 e in
    next i j lt h (ltb-true a.bound b.bound w.0) (ascending_each (b ∷ l) w.1)
  where
    next : (i j : ℕ) → i < suc j → suc j < length (a ∷ b ∷ l) → a.bound < b.bound → ((i j : ℕ) → i < j → j < length (b ∷ l) → (row_at (b ∷ l) i).bound < (row_at (b ∷ l) j).bound) → (row_at (a ∷ b ∷ l) i).bound < (row_at (b ∷ l) j).bound
    next zero zero lt h first rest = first
    next zero (suc j) lt h first rest = omega (arith, rest 0 (suc j) (omega arith) (omega arith))
    next (suc i) j lt h first rest = rest i j (omega arith) (omega arith)

ascending_rest : (a : RowWords) (l : List RowWords) → ascending (a ∷ l) ≡ true → ascending l ≡ true
ascending_rest a [] e = refl
ascending_rest a (b ∷ l) e = ((and-eq-true_iff (ltb a.bound b.bound) (ascending (b ∷ l))).0 e).1

-- in a table that ascends, the first row above a price is the one whose prices it is among
pub row_taken : (l : List RowWords) → ascending l ≡ true → (p i : ℕ) → i < length l → start l i ≤ p → p < (row_at l i).bound → row_in p (map row_said l) ≡ row_said (row_at l i)
row_taken [] e p i h s b = absurd (omega arith)
row_taken (a ∷ l) e p zero h s b = rw (lt-ltb p a.bound b) refl
row_taken (a ∷ l) e p (suc i) h s b = rw (le-ltb p a.bound (reached i h s)) (row_taken l (ascending_rest a l e) p i (omega arith) (rest i s) b)
  where
    reached : (i : ℕ) → suc i < length (a ∷ l) → start (a ∷ l) (suc i) ≤ p → a.bound ≤ p
    reached zero h s = s
    reached (suc i) h s = omega (arith, ascending_each (a ∷ l) e 0 (suc i) (omega arith) (omega arith))

    rest : (i : ℕ) → start (a ∷ l) (suc i) ≤ p → start l i ≤ p
    rest zero s = omega arith
    rest (suc i) s = s

-- a price that is not below a row's bound is among the prices of a later one
pub row_later : (p i : ℕ) → p ≤ 999_999_999_999 → i < 6 → (row_at table i).bound ≤ p → (i + 1 < 6) × (start table (i + 1) ≤ p)
row_later p i most h b = (elim (dec_lt i 5) [ yes lt ↦ omega arith | no ge ↦ absurd (last (omega arith)) ], rw add-one b)
  where
    last : i ≡ 5 → ⊥
    last e = let q : (row_at table 5).bound ≤ p = subst (λ (i : ℕ). (row_at table i).bound ≤ p) e b in omega arith

-- "otherwise" is a row whose bound no price reaches
otherwise_last : (p b : ℕ) (l : List Row) → terms (row_in p (l ++ (row b 3 25_000_000 ∷ []))) ≡ terms (row_in p l)
otherwise_last p b [] = on (λ t. terms (cond t (row b 3 25_000_000) (row 0 3 25_000_000)) ≡ row 0 3 25_000_000) (ltb p b) (λ e. refl) (λ e. refl)
otherwise_last p b (row below c d ∷ l) = on (λ t. terms (cond t (row below c d) (row_in p (l ++ (row b 3 25_000_000 ∷ [])))) ≡ terms (cond t (row below c d) (row_in p l))) (ltb p below) (λ e. refl) (λ e. otherwise_last p b l)

-- THEOREM. The row of the table that the price is among has the percent and the dollar part of document 01's
pub row_right : (p i : ℕ) → i < 6 → start table i ≤ p → p < (row_at table i).bound → terms (row_said (row_at table i)) ≡ terms (row_in p rows)
unfolding rows
row_right p i h s b = ap terms (sym (row_taken table table_ascends p i h s b)) ∙ otherwise_last p 1_000_000_000_000 rows

-- the last row, which is for the prices that no bound is above
abbrev pub last : RowWords
last = row_at table 5

-- what a search for a bound above a price ends with: a row that the price is among, or none, and then the rulebook's rows say "otherwise"
search_ends : (P : Option RowWords → Type 0) (p : ℕ) (l : List RowWords) → ((i : ℕ) → i < length l → start l i ≤ p → p < (row_at l i).bound → P (Some (row_at l i))) → (row_in p (map row_said l) ≡ row_in p [] → P None) → P (find (λ r. ltb p r.bound) l)
search_ends P p [] some none = none refl
search_ends P p (a ∷ l) some none = on (λ t. P (cond t (Some a) (find (λ r. ltb p r.bound) l))) (ltb p a.bound) here (λ e. search_ends P p l (later (ltb-false p a.bound e)) (λ q. none (rw e q)))
  where
    here : ltb p a.bound ≡ true → P (Some a)
    here e = some 0 (omega arith) (omega arith) (ltb-true p a.bound e)

    later : a.bound ≤ p → (i : ℕ) → i < length l → start l i ≤ p → p < (row_at l i).bound → P (Some (row_at l i))
    later past zero h s b = some 1 (omega arith) past b
    later past (suc i) h s b = some (suc (suc i)) (omega arith) s b

-- THEOREM. The first row of the table whose bound is above a price, or the last where none is, has the percent and the dollar part of document 01's
pub found_right : (p : ℕ) → terms (row_said (found table p)) ≡ terms (row_in p rows)
unfolding rows
found_right p = search_ends (λ o. terms (row_said (unwrap_or o last)) ≡ terms (row_in p rows)) p table (row_right p) (λ q. ap terms (sym q) ∙ otherwise_last p 1_000_000_000_000 rows)
