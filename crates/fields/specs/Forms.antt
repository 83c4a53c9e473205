-- Document 01, "The day's lines": which bytes are the line of a record. A record's line, an answer line and a closing line are all a kind with fields.
use Rattle.std.specs.Prelude.{◌≡◌, true, false, List, [], ◌∷◌, ℕ, ◌≤◌, length, eqb}
use Rattle.laws.specs.Tests.{is_none}
use Rattle.laws.specs.Tables.{find, All, Each}
use Rattle.rulebook.specs.Names.{ident_of}
use Rattle.rulebook.specs.Lines.{Field, text, letter, number, Line}
use Rattle.fields.specs.Digits.{digits}
use Rattle.fields.specs.Series.{tails}

-- the bytes are this field, in its form and with its value
abbrev pub Says : Field → List ℕ → Type 0
Says (text least most t x) f = (ident_of f ≡ x) × (least ≤ length f) × (length f ≤ most) × All (λ c. t c ≡ true) f
Says (letter set c) f = (f ≡ c ∷ []) × (is_none (find (eqb c) set) ≡ false)
Says (number low high n) f = (f ≡ digits n) × (low ≤ n) × (n ≤ high)

-- the bytes are this line: its kind, each of its fields after a tab, an LF
abbrev pub IsLine : Line → List ℕ → Type 0
IsLine y l = (fs : List (List ℕ)) × (l ≡ y.kind ∷ tails fs) × Each Says y.fields fs
