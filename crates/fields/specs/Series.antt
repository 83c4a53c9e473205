-- Document 01, "The day's lines": the fields after a kind, by the list of their forms. Read from a place on, and written each after a tab.
use Rattle.std.specs.Prelude.{ℕ, cond, List, [], ◌∷◌, ◌++◌, get_or, eqb}
use Prim.Native.Char.{code}
use Rattle.rulebook.specs.Lines.{Side, buy, sell, short, exempt, Field, text, letter, number}
use Rattle.fields.specs.Digits.{digits, number_of}
use Rattle.fields.specs.Parts.{said, field_at, end_at, text_at}
use Rattle.fields.specs.declared.Place.{Place}

-- what a field says: its place where it is a text, its number or letter where it is one
pub record Value : Type 0 where
  pub place : Place
  pub value : ℕ

-- the side that a letter says
abbrev pub side_of : ℕ → Side
side_of c = cond (eqb c (code "B")) buy (cond (eqb c (code "S")) sell (cond (eqb c (code "H")) short exempt))

abbrev pub value_of : Field → List ℕ → ℕ
value_of (text least most t x) f = 0
value_of (letter set c) f = get_or f 0 0
value_of (number low high n) f = number_of f

-- the values of fields with these forms, the first after this place, and where the last ends
abbrev pub values : List Field → List ℕ → ℕ → List Value
values [] l at = []
values (t ∷ ts) l at = record { place = text_at t l at; value = value_of t (field_at l at) } ∷ values ts l (end_at t l at)

abbrev pub end_of : List Field → List ℕ → ℕ → ℕ
end_of [] l at = at
end_of (t ∷ ts) l at = end_of ts l (end_at t l at)

-- a value as its field is written: the stretch of the line, the letter, the number's digits
abbrev pub bytes_of : Field → List ℕ → Value → List ℕ
bytes_of (text least most t x) l v = said l v.place
bytes_of (letter set c) l v = v.value ∷ []
bytes_of (number low high n) l v = digits v.value

abbrev pub all_bytes : List Field → List ℕ → List Value → List (List ℕ)
all_bytes [] l vs = []
all_bytes (t ∷ ts) l [] = []
all_bytes (t ∷ ts) l (v ∷ vs) = bytes_of t l v ∷ all_bytes ts l vs

-- "fields parted by single tabs, ended by one LF"
unfoldable pub tails : List (List ℕ) → List ℕ
tails [] = 10 ∷ []
tails (f ∷ fs) = 9 ∷ (f ++ tails fs)
