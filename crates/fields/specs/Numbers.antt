-- `digits` and `number_of` are inverse up to the ceiling.
use Rattle.std.specs.Prelude.{◌≡◌, refl, Bool, true, false, cond, ◌⊎◌, ℕ, zero, suc, ◌+◌, ◌-◌, ◌*◌, ◌/◌, ◌%◌, ◌<◌, ◌≤◌, ltb, eqb}
use Rattle.std.proofs.Common.{sym, ◌∙◌, inl, inr, ⊎_elim, arith, lt-ltb, le-ltb, ne_eqb, ltb-true, ltb-false, eqb-true}
use mathlib.Core.List.{List, [], ◌∷◌, ◌++◌, foldl, foldl-append, append_assoc, append-nil}
use Rattle.std.proofs.lemmas.Bool.{eqb-false}
use Rattle.rulebook.specs.Lines.{ceiling}
use Rattle.fields.specs.Digits.{digits_in, digits, bad, empty, digit_step, number_of}

-- the two cases of a test
pub below : (a b : ℕ) → (a < b) ⊎ (b ≤ a)
below a b = go (ltb a b) refl
  where
    go : (t : Bool) → ltb a b ≡ t → (a < b) ⊎ (b ≤ a)
    go true e = inl (ltb-true a b e)
    go false e = inr (ltb-false a b e)

pub alike : (a b : ℕ) → (a ≡ b) ⊎ (a ≡ b → ⊥)
alike a b = go (eqb a b) refl
  where
    go : (t : Bool) → eqb a b ≡ t → (a ≡ b) ⊎ (a ≡ b → ⊥)
    go true e = inl (eqb-true a b e)
    go false e = inr (eqb-false a b e)

fuel : (k j n : ℕ) → n ≤ k → n ≤ j → digits_in k n ≡ digits_in j n
unfolding digits_in
fuel zero zero n h g = refl
fuel zero (suc j) n h g = rw (lt-ltb n 10 (omega arith))
fuel (suc k) zero n h g = rw (lt-ltb n 10 (omega arith))
fuel (suc k) (suc j) n h g =
    ⊎_elim (λ b. rw (lt-ltb n 10 b))
    (λ b. rw (le-ltb n 10 b, fuel k j (n / 10) (omega arith) (omega arith)))
    (below n 10)

pub digits_small : (n : ℕ) → n < 10 → digits n ≡ (48 + n) ∷ []
unfolding digits digits_in
digits_small zero h = refl
digits_small (suc n) h = rw (lt-ltb (suc n) 10 h)

pub digits_more : (n : ℕ) → 10 ≤ n → digits n ≡ digits (n / 10) ++ ((48 + n % 10) ∷ [])
unfolding digits digits_in
digits_more zero h = absurd (omega arith)
digits_more (suc n) h = rw (le-ltb (suc n) 10 h, fuel n (suc n / 10) (suc n / 10) (omega arith) (omega arith))

-- a further digit, as a sum
digits_snoc : (v d : ℕ) → 0 < v → 48 ≤ d → d ≤ 57 → digits (v * 10 + (d - 48)) ≡ digits v ++ (d ∷ [])
digits_snoc v d p lo hi =
    let n = v * 10 + (d - 48) in
    let q : n / 10 ≡ v = omega arith in
    let r : 48 + n % 10 ≡ d = omega arith in
    digits_more n (omega arith) ∙ rw (q, r)

-- what a step makes of a number: `bad`, or one digit more
step_cases : (v d : ℕ) → 0 < v → v < empty → (digit_step v d ≡ bad) ⊎ ((digit_step v d ≡ v * 10 + (d - 48)) × (48 ≤ d) × (d ≤ 57) × (v ≤ 400_000_000_000_000_000))
unfolding digit_step
step_cases v d p q =
    let ne : v ≡ empty → ⊥ = omega arith in
    let nz : v ≡ 0 → ⊥ = omega arith in
    ⊎_elim (λ a. inl (rw (lt-ltb d 48 a)))
    (λ a. ⊎_elim (λ b. inl (rw (le-ltb d 48 a, lt-ltb 57 d b)))
    (λ b. ⊎_elim (λ e. inl (rw (le-ltb d 48 a, le-ltb 57 d b, ne_eqb v empty ne, ne_eqb v 0 nz, lt-ltb 400_000_000_000_000_000 v e)))
    (λ e. inr (rw (le-ltb d 48 a, le-ltb 57 d b, ne_eqb v empty ne, ne_eqb v 0 nz, le-ltb 400_000_000_000_000_000 v e), a, b, e))
    (below 400_000_000_000_000_000 v))
    (below 57 d))
    (below d 48)

-- where no digit may follow, nothing does: after `bad`, and after a leading zero
step_stuck : (v d : ℕ) → cond (eqb v empty) (d - 48) (cond (eqb v 0) bad (cond (ltb 400_000_000_000_000_000 v) bad (v * 10 + (d - 48)))) ≡ bad → digit_step v d ≡ bad
unfolding digit_step
step_stuck v d h =
    ⊎_elim (λ a. rw (lt-ltb d 48 a)) (λ a. ⊎_elim (λ b. rw (le-ltb d 48 a, lt-ltb 57 d b)) (λ b. rw (le-ltb d 48 a, le-ltb 57 d b) h) (below 57 d)) (below d 48)

step_empty : (d : ℕ) → (digit_step empty d ≡ bad) ⊎ ((digit_step empty d ≡ d - 48) × (48 ≤ d) × (d ≤ 57))
unfolding digit_step
step_empty d =
    ⊎_elim (λ a. inl (rw (lt-ltb d 48 a)))
    (λ a. ⊎_elim (λ b. inl (rw (le-ltb d 48 a, lt-ltb 57 d b))) (λ b. inr (rw (le-ltb d 48 a, le-ltb 57 d b), a, b)) (below 57 d))
    (below d 48)

bad_stays : (ds : List ℕ) → foldl digit_step bad ds ≡ bad
bad_stays [] = refl
bad_stays (d ∷ ds) = rw (step_stuck bad d refl) (bad_stays ds)

-- no list of digits ends in a number once it is `bad`
pub not_bad : (ds : List ℕ) (v : ℕ) → v ≡ bad → foldl digit_step v ds ≤ ceiling → ⊥
not_bad ds v e h = let g : bad ≤ ceiling = rw (e, bad_stays ds) at h in omega arith

-- the digits that are read on are the digits of the number, after those of the number so far
digits_on : (ds : List ℕ) (v : ℕ) → 0 < v → v < empty → foldl digit_step v ds ≤ ceiling → digits (foldl digit_step v ds) ≡ digits v ++ ds
digits_on [] v p q h = sym (append-nil (digits v))
digits_on (d ∷ ds) v p q h =
    ⊎_elim (λ e. absurd (not_bad ds (digit_step v d) e h))
    (λ w. rw w.0 (digits_on ds (v * 10 + (d - 48)) (omega arith) (omega (arith, w.3)) (rw w.0 at h) ∙ rw (digits_snoc v d p w.1 w.2, append_assoc)))
    (step_cases v d p q)

pub digits_number : (f : List ℕ) → number_of f ≤ ceiling → digits (number_of f) ≡ f
unfolding number_of
digits_number [] h = absurd (omega arith)
digits_number (d ∷ ds) h =
    ⊎_elim (λ e. absurd (not_bad ds (digit_step empty d) e h))
    (λ w.
    let back : 48 + (d - 48) ≡ d = omega (arith, w.1) in
    rw w.0
    (⊎_elim (λ z. zero_first ds (d - 48) z (rw w.0 at h) ∙ rw back)
    (λ z. digits_on ds (d - 48) (omega arith) (omega (arith, w.2)) (rw w.0 at h) ∙ rw (digits_small (d - 48) (omega (arith, w.2)), back))
    (alike (d - 48) 0)))
    (step_empty d)
  where
    zero_first : (ds : List ℕ) (x : ℕ) → x ≡ 0 → foldl digit_step x ds ≤ ceiling → digits (foldl digit_step x ds) ≡ (48 + x) ∷ ds
    zero_first [] x z h = digits_small x (omega arith)
    zero_first (y ∷ ys) x z h = absurd (not_bad ys (digit_step x y) (rw z (step_stuck 0 y refl)) h)

step_digit : (v x : ℕ) → 0 < v → v ≤ 400_000_000_000_000_000 → x < 10 → digit_step v (48 + x) ≡ v * 10 + x
unfolding digit_step
step_digit v x p q h =
    let ne : v ≡ empty → ⊥ = omega arith in
    let nz : v ≡ 0 → ⊥ = omega arith in
    rw (le-ltb (48 + x) 48 (omega arith), le-ltb 57 (48 + x) (omega arith), ne_eqb v empty ne, ne_eqb v 0 nz, le-ltb 400_000_000_000_000_000 v q) (omega arith)

step_first : (x : ℕ) → x < 10 → digit_step empty (48 + x) ≡ x
unfolding digit_step
step_first x h = rw (le-ltb (48 + x) 48 (omega arith), le-ltb 57 (48 + x) (omega arith)) (omega arith)

number_digits_in : (k n : ℕ) → n ≤ k → n ≤ ceiling → number_of (digits n) ≡ n
unfolding number_of
number_digits_in zero n f h = rw (digits_small n (omega arith)) (step_first n (omega arith))
number_digits_in (suc k) n f h =
    ⊎_elim (λ b. rw (digits_small n b) (step_first n b))
    (λ b. rw (digits_more n b, foldl-append digit_step empty (digits (n / 10)) ((48 + n % 10) ∷ []))
    (rw (number_digits_in k (n / 10) (omega arith) (omega arith)) (step_digit (n / 10) (n % 10) (omega arith) (omega arith) (omega arith) ∙ omega arith)))
    (below n 10)

pub number_digits : (n : ℕ) → n ≤ ceiling → number_of (digits n) ≡ n
number_digits n h = number_digits_in n n (omega arith) h
