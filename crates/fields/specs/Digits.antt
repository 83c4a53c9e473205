-- Document 01, "The day's lines": "Numbers are decimal, without sign or leading zero (`0` itself is fine)".
-- `digits n` is the one way to write n; `number_of f` is the number that the bytes say, or `bad` or `empty`, both above every range.
use Rattle.std.specs.Prelude.{ℕ, zero, suc, ◌+◌, ◌-◌, ◌*◌, ◌/◌, ◌%◌, Bool, true, false, cond, ltb, eqb}
use mathlib.Core.List.{List, [], ◌∷◌, ◌++◌, foldl}

-- the second list waits, so that it is computed only where it is picked
abbrev pub pick : Bool → List ℕ → (Unit {0} → List ℕ) → List ℕ
pick true a b = a
pick false a b = b tt

-- the digits of a number that the first argument is not below
unfoldable pub digits_in : ℕ → ℕ → List ℕ
digits_in zero n = (48 + n) ∷ []
digits_in (suc k) n = pick (ltb n 10) ((48 + n) ∷ []) (λ u. digits_in k (n / 10) ++ ((48 + n % 10) ∷ []))

unfoldable pub digits : ℕ → List ℕ
digits n = digits_in n n

-- no number: a byte that is no digit, a digit after a leading zero, or too large
abbrev pub bad : ℕ
bad = 0xffff_ffff_ffff_ffff

-- no digit yet
abbrev pub empty : ℕ
empty = 0xffff_ffff_ffff_fffe

-- the number so far and one byte more
unfoldable pub digit_step : ℕ → ℕ → ℕ
digit_step v d =
    cond (ltb d 48) bad
    (cond (ltb 57 d) bad
    (cond (eqb v empty) (d - 48)
    (cond (eqb v 0) bad
    (cond (ltb 400_000_000_000_000_000 v) bad (v * 10 + (d - 48))))))

unfoldable pub number_of : List ℕ → ℕ
number_of f = foldl digit_step empty f
