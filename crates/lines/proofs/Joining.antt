-- THEOREM. An input's lines, one after the other, are the input: no byte is lost, and none is in two lines.
use Rattle.std.specs.Prelude.{◌≡◌, refl, cond, ℕ, eqb}
use Rattle.std.proofs.Common.{sym, ap, ◌∙◌}
use mathlib.Core.List.{List, [], ◌∷◌, ◌++◌, flatten, append-nil, append_assoc}
use Rattle.laws.specs.Tests.{on}
use Rattle.lines.specs.Splitting.{whole, rest, last, lines}

flatten_last : (h : List ℕ) → flatten (last h) ≡ h
unfolding flatten
flatten_last [] = refl
flatten_last (b ∷ h) = append-nil (b ∷ h)

joined : (held bs : List ℕ) → flatten (whole held bs ++ last (rest held bs)) ≡ held ++ bs
unfolding whole rest flatten
joined held [] = flatten_last held ∙ sym (append-nil held)
joined held (b ∷ bs) = on (λ t. flatten (cond t ((held ++ (b ∷ [])) ∷ whole [] bs) (whole (held ++ (b ∷ [])) bs) ++ last (cond t (rest [] bs) (rest (held ++ (b ∷ [])) bs))) ≡ held ++ (b ∷ bs)) (eqb b 10)
    (λ e. ap (λ l. (held ++ (b ∷ [])) ++ l) (joined [] bs) ∙ append_assoc held (b ∷ []) bs) (λ e. joined (held ++ (b ∷ [])) bs ∙ append_assoc held (b ∷ []) bs)

pub lines_joined : (input : List ℕ) → flatten (lines input) ≡ input
unfolding lines
lines_joined input = joined [] input
