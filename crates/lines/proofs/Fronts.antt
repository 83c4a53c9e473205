-- The bytes that are held, where they stand in the text.
use Rattle.std.specs.Prelude.{◌≡◌, refl, List, [], ◌∷◌, ◌++◌, ℕ, zero, suc, ◌+◌, ◌-◌, ◌≤◌, length, take, drop}
use Rattle.std.proofs.Common.{ap, arith, length-append, length-take, length-drop}
use Rattle.std.proofs.Math.Seq.{length-take-le}
use Rattle.fields.specs.Parts.{stretch}
use Rattle.lines.specs.Splitting.{lent}

-- the first bytes of the first bytes are first bytes
first_of : (a b : ℕ) (u : List ℕ) → take (length (take a (take b u))) u ≡ take a (take b u)
first_of zero b u = refl
first_of (suc a) zero u = refl
first_of (suc a) (suc b) [] = refl
first_of (suc a) (suc b) (x ∷ u) = ap (λ l. x ∷ l) (first_of a b u)

module _ (t : List ℕ) (from to : ℕ) where
  abbrev pub front : List ℕ
  front = lent (stretch t from to)

  pub front_is : take (length front) (drop from t) ≡ front
  unfolding stretch
  front_is = first_of 161 (to - from) (drop from t)

  pub front_within : 1 ≤ length front → from + length front ≤ length t
  unfolding stretch
  front_within h = omega (arith, length-take 161 (stretch t from to), length-take (to - from) (drop from t), length-drop from t)

  pub front_few : length front ≤ 161
  front_few = omega (arith, length-take 161 (stretch t from to))

  -- the text once i bytes are moved
  unfoldable pub moved : ℕ → List ℕ
  moved i = take i front ++ drop i t

  pub moved_length : (i : ℕ) → i ≤ length front → length (moved i) ≡ length t
  unfolding moved stretch
  moved_length i h =
      let n = length-take 161 (stretch t from to) in
      let m = length-take (to - from) (drop from t) in
      rw (length-append, length-take-le i front h, length-drop) (omega (arith, n, m, length-drop from t))
