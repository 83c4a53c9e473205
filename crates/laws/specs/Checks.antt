-- Chains of checks: tests with numbers, of which the first that holds gives its own.
use Rattle.std.specs.Prelude.{◌≡◌, refl, Bool, true, false, not, ◌&&◌, cond, List, [], ◌∷◌, ◌++◌, ℕ, ◌≤◌, ◌<◌, leb, ltb, eqb}
use Rattle.std.proofs.Common.{sym, ◌∙◌, arith, le-leb, lt-ltb, le-ltb, ltb-true, ne_eqb}
use Rattle.std.proofs.Math.Bool.{and-eq-true_iff}
use Rattle.std.proofs.lemmas.Bool.{not-true, not-false, lt-leb}
use Rattle.laws.specs.Tests.{on, both}
use Rattle.laws.specs.Tables.{All}

pub data Check : Type 0 where
  ◌⇒◌ : Bool → ℕ → Check

infixl 20 ◌⇒◌
-- the number of the first check that holds, or 0
unfoldable pub first : List Check → ℕ
first [] = 0
first ((t ⇒ n) ∷ l) = cond t n (first l)

abbrev pub numbers : List Check → List ℕ
numbers [] = []
numbers ((t ⇒ n) ∷ l) = n ∷ numbers l

-- no check holds
abbrev pub Clear : List Check → Type 0
Clear [] = Unit {0}
Clear ((t ⇒ n) ∷ l) = (t ≡ false) × Clear l

-- every number passes the test
abbrev pub each : (ℕ → Bool) → List Check → Bool
each q [] = true
each q ((t ⇒ n) ∷ l) = q n && each q l

-- either some check's number is given or every check is clear
pub first_cases : (P : ℕ → Type 0) (q : ℕ → Bool) (l : List Check) → each q l ≡ true → ((n : ℕ) → q n ≡ true → P n) → (Clear l → P 0) → P (first l)
unfolding first
first_cases P q [] e f g = g tt
first_cases P q ((t ⇒ n) ∷ l) e f g =
    let h = (and-eq-true_iff (q n) (each q l)).0 e in
    on (λ b. P (cond b n (first l))) t (λ z. f n h.0) (λ z. first_cases P q l h.1 f (λ c. g (z, c)))

-- where no number is given, every check is clear
pub first_clear : (l : List Check) → each (λ n. ltb 0 n) l ≡ true → first l ≡ 0 → Clear l
first_clear l e = first_cases (λ k. k ≡ 0 → Clear l) (λ n. ltb 0 n) l e (λ n p z. absurd (omega (arith, ltb-true 0 n p))) (λ c z. c)

-- one check more at the end of a chain
pub first_then : (l : List Check) (t : Bool) (n : ℕ) → each (λ k. ltb 0 k) l ≡ true → first (l ++ ((t ⇒ n) ∷ [])) ≡ cond (eqb (first l) 0) (cond t n 0) (first l)
unfolding first
first_then [] t n e = refl
first_then ((u ⇒ k) ∷ l) t n e =
    let w = both {a = ltb 0 k} e in
    on (λ u. cond u k (first (l ++ ((t ⇒ n) ∷ []))) ≡ cond (eqb (cond u k (first l)) 0) (cond t n 0) (cond u k (first l))) u (λ z. rw (ne_eqb k 0 (λ q. omega (arith, ltb-true 0 k w.0, q)))) (λ z. first_then l t n w.1)

-- ── rules: tests that must all hold ──
unfoldable pub all_hold : List Bool → Bool
all_hold [] = true
all_hold (b ∷ bs) = b && all_hold bs

pub rules_read : (bs : List Bool) → all_hold bs ≡ true → All (λ b. b ≡ true) bs
unfolding all_hold
rules_read [] e = tt
rules_read (b ∷ bs) e = let w = (and-eq-true_iff b (all_hold bs)).0 e in (w.0, rules_read bs w.1)

pub rules_met : (bs : List Bool) → All (λ b. b ≡ true) bs → all_hold bs ≡ true
unfolding all_hold
rules_met [] a = refl
rules_met (b ∷ bs) a = (and-eq-true_iff b (all_hold bs)).1 (a.0, rules_met bs a.1)

-- what a function answers that tries one rule after the other: the first that fails says no, and the last says what is left.
-- By what a call returned, and by an order or an equality of numbers
pub stop : (b : Bool) (bs : List Bool) → b ≡ false → false ≡ all_hold (b ∷ bs)
unfolding all_hold
stop b bs e = rw e refl

pub pass : (b x : Bool) (bs : List Bool) → b ≡ true → x ≡ all_hold bs → x ≡ all_hold (b ∷ bs)
unfolding all_hold
pass b x bs e h = rw e h

pub stop_call : (a b : Bool) (bs : List Bool) → a ≡ b → not a ≡ true → false ≡ all_hold (b ∷ bs)
stop_call a b bs e h = stop b bs (sym e ∙ not-true a h)

pub pass_call : (a b x : Bool) (bs : List Bool) → a ≡ b → not a ≡ false → x ≡ all_hold bs → x ≡ all_hold (b ∷ bs)
pass_call a b x bs e h k = pass b x bs (sym e ∙ not-false a h) k

pub last_call : (a b : Bool) → a ≡ b → a ≡ all_hold (b ∷ [])
unfolding all_hold
last_call a b e = e ∙ on (λ b. b ≡ (b && true)) b (λ q. refl) (λ q. refl)

pub stop_most : (n most : ℕ) (bs : List Bool) → most < n → false ≡ all_hold (leb n most ∷ bs)
stop_most n most bs h = stop (leb n most) bs (lt-leb n most h)

pub pass_most : (n most : ℕ) (x : Bool) (bs : List Bool) → n ≤ most → x ≡ all_hold bs → x ≡ all_hold (leb n most ∷ bs)
pass_most n most x bs h k = pass (leb n most) x bs (le-leb n most h) k

pub ruleset rules_tried = (stop_call, pass_call, last_call, stop_most, pass_most, arith)

-- ── checks as a function tries them: the first that holds gives its number, and where none holds the rest gives it ──
pub here : (t : Bool) (n : ℕ) (l : List Check) → t ≡ true → n ≡ first ((t ⇒ n) ∷ l)
unfolding first
here t n l e = rw e refl

pub past : (t : Bool) (n r : ℕ) (l : List Check) → t ≡ false → r ≡ first l → r ≡ first ((t ⇒ n) ∷ l)
unfolding first
past t n r l e h = rw e h

pub all_past : 0 ≡ first []
unfolding first
all_past = refl

-- by what a call returned
pub here_call : (a b : Bool) (n : ℕ) (l : List Check) → a ≡ b → a ≡ true → n ≡ first ((b ⇒ n) ∷ l)
here_call a b n l e h = here b n l (sym e ∙ h)

pub past_call : (a b : Bool) (n r : ℕ) (l : List Check) → a ≡ b → a ≡ false → r ≡ first l → r ≡ first ((b ⇒ n) ∷ l)
past_call a b n r l e h k = past b n r l (sym e ∙ h) k

-- by an order of numbers
pub here_over : (most m n : ℕ) (l : List Check) → most < m → n ≡ first ((ltb most m ⇒ n) ∷ l)
here_over most m n l h = here (ltb most m) n l (lt-ltb most m h)

pub past_over : (most m n r : ℕ) (l : List Check) → m ≤ most → r ≡ first l → r ≡ first ((ltb most m ⇒ n) ∷ l)
past_over most m n r l h k = past (ltb most m) n r l (le-ltb most m h) k

pub here_most : (m most n : ℕ) (l : List Check) → m ≤ most → n ≡ first ((leb m most ⇒ n) ∷ l)
here_most m most n l h = here (leb m most) n l (le-leb m most h)

pub past_most : (m most n r : ℕ) (l : List Check) → most < m → r ≡ first l → r ≡ first ((leb m most ⇒ n) ∷ l)
past_most m most n r l h k = past (leb m most) n r l (lt-leb m most h) k

pub ruleset checks_tried = (here, past, all_past, here_call, past_call, here_over, past_over, here_most, past_most, arith)
