-- How long a line can be: no field is longer than its form allows, so no line is longer than its forms add up to.
use Rattle.std.proofs.Common.{⊎_elim, arith, length-append}
use Rattle.std.specs.Prelude.{List, [], ◌∷◌, ℕ, zero, suc, ◌+◌, ◌/◌, ◌≤◌, ◌<◌, length}
use Rattle.laws.specs.Tables.{Each}
use Rattle.rulebook.specs.Lines.{Field, text, letter, number, Line}
use Rattle.fields.specs.Digits.{digits}
use Rattle.fields.specs.Series.{tails}
use Rattle.fields.specs.Forms.{Says, IsLine}
use Rattle.fields.specs.Numbers.{below, digits_small, digits_more}

-- a greater number has no fewer digits
mono_in : (k m n : ℕ) → n ≤ k → m ≤ n → length (digits m) ≤ length (digits n)
mono_in zero m n f h = rw (digits_small m (omega arith), digits_small n (omega arith)) (omega arith)
mono_in (suc k) m n f h =
    ⊎_elim (λ (b : n < 10). rw (digits_small m (omega arith), digits_small n b) (omega arith))
    (λ (b : 10 ≤ n).
    ⊎_elim (λ (c : m < 10). rw (digits_small m c, digits_more n b, length-append) (omega arith))
    (λ (c : 10 ≤ m). rw (digits_more m c, digits_more n b, length-append, length-append) (omega (arith, mono_in k (m / 10) (n / 10) (omega arith) (omega arith))))
    (below m 10))
    (below n 10)

pub digits_mono : (m n : ℕ) → m ≤ n → length (digits m) ≤ length (digits n)
digits_mono m n h = mono_in n m n (omega arith) h

-- the most bytes of a field, and of a line after its kind
abbrev pub width : Field → ℕ
width (text least most t x) = most
width (letter set c) = 1
width (number low high n) = length (digits high)

abbrev pub widths : List Field → ℕ
widths [] = 1
widths (t ∷ ts) = 1 + (width t + widths ts)

says_width : (t : Field) (f : List ℕ) → Says t f → length f ≤ width t
says_width (text least most t x) f s = s.2
says_width (letter set c) f s = rw s.0 (omega arith)
says_width (number low high n) f s = rw s.0 (digits_mono n high s.2)

tails_width : (ts : List Field) (fs : List (List ℕ)) → Each Says ts fs → length (tails fs) ≤ widths ts
unfolding tails
tails_width [] [] s = omega arith
tails_width [] (f ∷ fs) s = absurd s
tails_width (t ∷ ts) [] s = absurd s
tails_width (t ∷ ts) (f ∷ fs) s = rw length-append (omega (arith, says_width t f s.0, tails_width ts fs s.1))

-- THEOREM
pub line_width : (y : Line) (l : List ℕ) → IsLine y l → length l ≤ 1 + widths y.fields
line_width y l (fs, q, s) = rw q (omega (arith, tails_width y.fields fs s))
