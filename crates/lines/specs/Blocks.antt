-- What the program does with the blocks that it reads.
use Rattle.std.specs.Prelude.{◌≡◌, false, ℕ, eqb}
use mathlib.Core.List.{List, [], ◌∷◌, ◌++◌, map}
use Rattle.laws.specs.Tables.{All}
use Rattle.lines.specs.Splitting.{whole, rest, last, lent}

-- no LF among the bytes
abbrev pub Clear : List ℕ → Type 0
Clear = All (λ b. eqb b 10 ≡ false)

-- ── the program's day: a block is read after what is held; the lines that end in the two are lent, and what is left is held, 161 bytes of it ──
abbrev pub day : List ℕ → List (List ℕ) → List (List ℕ)
day held [] = last held
day held (block ∷ blocks) = map lent (whole [] (held ++ block)) ++ day (lent (rest [] (held ++ block))) blocks
