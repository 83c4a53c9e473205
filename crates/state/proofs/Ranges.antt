-- A test of every number of a range, one after the other, is the test of every number below its end.
use Rattle.std.specs.Prelude.{◌≡◌, ℕ, zero, suc, ◌+◌, ◌<◌, Bool, true, ◌&&◌, refl}
use Rattle.std.proofs.Common.{sym, ◌∙◌, ap, ap₂, arith, add-zero}
use Rattle.std.proofs.Math.Bool.{and_assoc}
use Rattle.std.specs.List.{list_all, range_with_len}
use Rattle.laws.specs.Tests.{on}
use Rattle.laws.specs.Numbered.{every}

pub every_same : (t u : ℕ → Bool) (n : ℕ) → ((j : ℕ) → j < n → t j ≡ u j) → every t n ≡ every u n
unfolding every
every_same t u zero h = refl
every_same t u (suc n) h = ap₂ (λ a b. a && b) (every_same t u n (λ j lt. h j (omega arith))) (h n (omega arith))

-- the first number apart
every_first : (t : ℕ → Bool) (n : ℕ) → every t (suc n) ≡ (t 0 && every (λ j. t (suc j)) n)
unfolding every
every_first t zero = on (λ b. b ≡ (b && true)) (t 0) (λ e. refl) (λ e. refl)
every_first t (suc n) = ap (λ b. b && t (suc n)) (every_first t n) ∙ and_assoc (t 0) (every (λ j. t (suc j)) n) (t (suc n))

every_from : (t : ℕ → Bool) (a n : ℕ) → list_all t (range_with_len a n) ≡ every (λ j. t (a + j)) n
unfolding every
every_from t a zero = refl
every_from t a (suc n) =
    let rest : list_all t (range_with_len (a + 1) n) ≡ every (λ j. t (a + suc j)) n = every_from t (a + 1) n ∙ every_same _ _ n (λ j lt. ap t (omega arith)) in
    ap₂ (λ x y. x && y) (ap t (sym (add-zero a))) rest ∙ sym (every_first (λ j. t (a + j)) n)

pub every_of_range : (t : ℕ → Bool) (n : ℕ) → list_all t (range_with_len 0 n) ≡ every t n
every_of_range t n = every_from t 0 n ∙ every_same _ _ n (λ j lt. ap t (omega arith))
