-- Document 01, "The day's lines" and "A whole day": the lines of an input, and what the gate is lent of each.
use Rattle.std.specs.Prelude.{ℕ, cond, List, [], ◌∷◌, ◌++◌, eqb, take, drop, length}
use Rattle.fields.specs.Parts.{stretch}

-- the lines that end among these bytes, each up to and with its LF; the first begins with what is held from before
unfoldable pub whole : List ℕ → List ℕ → List (List ℕ)
whole held [] = []
whole held (b ∷ bs) = cond (eqb b 10) ((held ++ (b ∷ [])) ∷ whole [] bs) (whole (held ++ (b ∷ [])) bs)

-- what is held after these bytes: those that no LF has followed yet
unfoldable pub rest : List ℕ → List ℕ → List ℕ
rest held [] = held
rest held (b ∷ bs) = cond (eqb b 10) (rest [] bs) (rest (held ++ (b ∷ [])) bs)

-- "one that the input ends without LF, counts once"; where nothing is held there is none
abbrev pub last : List ℕ → List (List ℕ)
last [] = []
last (b ∷ bs) = (b ∷ bs) ∷ []

unfoldable pub lines : List ℕ → List (List ℕ)
lines input = whole [] input ++ last (rest [] input)

-- what the gate is lent of a line: as many bytes as a line has that is in form, "at most 160 bytes before the LF"
abbrev pub lent : List ℕ → List ℕ
lent line = take 161 line

-- the line that starts at a place; no bytes where no LF follows
abbrev pub first : List (List ℕ) → List ℕ
first [] = []
first (l ∷ ls) = l

unfoldable pub line_at : List ℕ → ℕ → List ℕ
line_at text at = first (whole [] (drop at text))

-- the bytes from a place up to another, as many as are lent, put at the front
unfoldable pub to_front : List ℕ → ℕ → ℕ → List ℕ
to_front text from to = let front = lent (stretch text from to) in front ++ drop (length front) text
