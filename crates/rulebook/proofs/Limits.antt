-- Document 02, order 1: "one per metric in 01's order, the first that fails being given. What is refused stays the same."
use Rattle.std.specs.Prelude.{◌≡◌, refl, ◌↔◌, List, [], ◌∷◌, ℕ, zero, suc, ◌+◌, ◌≤◌, ◌<◌, ltb, length, get_or}
use Rattle.std.proofs.Common.{◌∙◌, arith, ltb-true, ltb-false}
use Rattle.laws.specs.Tests.{split}
use Rattle.laws.specs.Checks.{Check, ◌⇒◌, first}
use Rattle.rulebook.specs.Lines.{Metrics}
use Rattle.rulebook.specs.Kept.{limit_checks}

-- ── limits, each with its metric ──
-- the first i metrics are at most their limits
abbrev pub Within : ℕ → List (ℕ × ℕ) → Type 0
Within i ps = (j : ℕ) → j < i → (get_or ps j (0, 0)).1 ≤ (get_or ps j (0, 0)).0

-- the i-th is above its limit, and none before it
abbrev pub FirstOver : ℕ → List (ℕ × ℕ) → Type 0
FirstOver i ps = ((get_or ps i (0, 0)).0 < (get_or ps i (0, 0)).1) × Within i ps

within_more : (i : ℕ) (p : ℕ × ℕ) (ps : List (ℕ × ℕ)) → p.1 ≤ p.0 → Within i ps → Within (suc i) (p ∷ ps)
within_more i p ps h w zero k = h
within_more i p ps h w (suc j) k = w j (omega (arith, k))

-- their checks, numbered from n on
abbrev overs : ℕ → List (ℕ × ℕ) → List Check
overs n [] = []
overs n (p ∷ ps) = (ltb p.0 p.1 ⇒ n) ∷ overs (suc n) ps

-- below the first of these numbers nothing is given, but 0
no_other : (n k : ℕ) (ps : List (ℕ × ℕ)) → 0 < n → n < k → first (overs k ps) ≡ n → ⊥
unfolding first
no_other n k [] h q e = omega (arith, e)
no_other n k (p ∷ ps) h q e = split (λ r. r ≡ n → ⊥) (ltb p.0 p.1) k (first (overs (suc k) ps)) (λ o z. omega (arith, z)) (λ o z. no_other n (suc k) ps h (omega arith) z) e

first_given : (n i : ℕ) (ps : List (ℕ × ℕ)) → 0 < n → (first (overs n ps) ≡ n + i) ↔ FirstOver i ps
unfolding first
first_given n i [] h = (λ e. absurd (omega (arith, e)), λ f. absurd (omega (arith, f.0)))
first_given n zero (p ∷ ps) h = split (λ r. (r ≡ n + 0) ↔ FirstOver 0 (p ∷ ps)) (ltb p.0 p.1) n (first (overs (suc n) ps))
    (λ o. (λ e. (ltb-true p.0 p.1 o, λ j k. absurd (omega (arith, k))), λ f. omega arith))
    (λ o. (λ e. absurd (no_other n (suc n) ps h (omega arith) (e ∙ omega arith)), λ f. absurd (omega (arith, f.0, ltb-false p.0 p.1 o))))
first_given n (suc i) (p ∷ ps) h = split (λ r. (r ≡ n + suc i) ↔ FirstOver (suc i) (p ∷ ps)) (ltb p.0 p.1) n (first (overs (suc n) ps))
    (λ o. (λ e. absurd (omega (arith, e)), λ f. absurd (omega (arith, f.1 0 (omega arith), ltb-true p.0 p.1 o))))
    (λ o. let r = first_given (suc n) i ps (omega arith) in
    (λ e. let f = r.0 (e ∙ omega arith) in (f.0, within_more i p ps (ltb-false p.0 p.1 o) f.1), λ f. r.1 (f.0, λ j k. f.1 (suc j) (omega (arith, k))) ∙ omega arith))

none_given : (n : ℕ) (ps : List (ℕ × ℕ)) → 0 < n → (first (overs n ps) ≡ 0) ↔ Within (length ps) ps
unfolding first
none_given n [] h = (λ e j k. absurd (omega (arith, k)), λ w. refl)
none_given n (p ∷ ps) h = split (λ r. (r ≡ 0) ↔ Within (suc (length ps)) (p ∷ ps)) (ltb p.0 p.1) n (first (overs (suc n) ps))
    (λ o. (λ e. absurd (omega (arith, e)), λ w. absurd (omega (arith, w 0 (omega arith), ltb-true p.0 p.1 o))))
    (λ o. let r = none_given (suc n) ps (omega arith) in (λ e. within_more (length ps) p ps (ltb-false p.0 p.1 o) (r.0 e), λ w. r.1 (λ j k. w (suc j) (omega (arith, k)))))

-- ── the six, in document 01's order ──
abbrev pub in_order : Metrics → Metrics → List (ℕ × ℕ)
in_order l m =
    (l.gross_trade, m.gross_trade)
    ∷ (l.net_trade, m.net_trade)
    ∷ (l.gross_open, m.gross_open)
    ∷ (l.net_open, m.net_open)
    ∷ (l.gross_both, m.gross_both)
    ∷ (l.net_both, m.net_both)
    ∷ []

-- THEOREM. 31 + i is given exactly where the i-th metric, from 0, is above its limit and none before it is
pub which_limit : (l m : Metrics) (i : ℕ) → (first (limit_checks l m) ≡ 31 + i) ↔ FirstOver i (in_order l m)
unfolding limit_checks
which_limit l m i = first_given 31 i (in_order l m) (omega arith)

-- THEOREM. What is refused stays the same: no number is given exactly where no metric is above its limit
pub no_limit : (l m : Metrics) → (first (limit_checks l m) ≡ 0) ↔ Within 6 (in_order l m)
unfolding limit_checks
no_limit l m = none_given 31 (in_order l m) (omega arith)
