-- Document 01, "Side: B buy, S sell, H sell short, E sell short exempt": what a side's letter says.
use Rattle.std.specs.Prelude.{◌≡◌, refl, Bool, true, false, not, ◌&&◌, cond, ℕ, zero, suc, eqb}
use Rattle.std.proofs.Common.{sym, ap, ◌∙◌, arith, ne_eqb, lt-ltb}
use Prim.Native.Char.{code}
use Rattle.rulebook.specs.Lines.{Side, buy, sell, short, exempt, is_short}
use Rattle.fields.specs.Series.{side_of}
use Rattle.books.specs.View.{flag}

-- the side that the tests of a letter say
abbrev side_by : Bool → Bool → Bool → Side
side_by b s h = cond b buy (cond s sell (cond h short exempt))

-- a letter that is neither B nor S is a short sale
pub short_letter : (c : ℕ) → (not (eqb c (code "B")) && not (eqb c (code "S"))) ≡ is_short (side_of c)
short_letter c = by (eqb c (code "B")) (eqb c (code "S")) (eqb c (code "H"))
  where
    by : (b s h : Bool) → (not b && not s) ≡ is_short (side_by b s h)
    by true s h = refl
    by false true h = refl
    by false false true = refl
    by false false false = refl

-- a mark that is 0 is not set
pub unmarked : (n : ℕ) → eqb n 0 ≡ not (flag n)
unmarked zero = refl
unmarked (suc n) = ne_eqb (suc n) 0 (λ e. omega arith) ∙ ap not (sym (lt-ltb 0 (suc n) (omega arith)))
