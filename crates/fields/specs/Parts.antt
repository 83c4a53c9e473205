-- Document 01, "The day's lines": a field is a stretch of the line, and which bytes have a field's form.
-- A form is the rulebook's `Field`, whatever its value.
use Rattle.std.specs.Prelude.{ℕ, suc, ◌+◌, ◌-◌, Bool, true, cond, not, ◌&&◌, ◌||◌, List, [], ◌∷◌, length, take, drop, get_or, leb, eqb}
use Rattle.laws.specs.Tests.{is_none}
use Rattle.laws.specs.Tables.{find}
use Rattle.rulebook.specs.Names.{Ident, Mpid as MpidWord}
use Rattle.rulebook.specs.Lines.{Field, text, letter, number, from_to, buy, identifier, mpid, side, yes_no}
use Rattle.fields.specs.Digits.{number_of}
use Rattle.fields.specs.declared.Form.{Form}
use Rattle.fields.specs.declared.Form.TheVariants.{Identifier, Mpid, Side, YesNo}
use Rattle.fields.specs.declared.Place.{Place}
use Rattle.fields.specs.declared.Parsed.{Parsed}

-- a form is a field without its value
abbrev pub unnamed : Ident
unnamed = record { head = 0; middle = 0; tail = 0 }

abbrev pub unlisted : MpidWord
unlisted = record { code = 0 }

abbrev pub blank : Field → Field
blank (text least most t x) = text least most t unnamed
blank (letter set c) = letter set 0
blank (number low high n) = number low high 0

-- the stretch of a line from one place to another
unfoldable pub stretch : List ℕ → ℕ → ℕ → List ℕ
stretch l from to = take (to - from) (drop from l)

-- the bytes of a place
abbrev pub said : List ℕ → Place → List ℕ
said l p = stretch l p.from p.to

-- a byte that ends a field
abbrev pub ends : ℕ → Bool
ends c = eqb c 9 || eqb c 10

-- how many bytes stand before the next tab or LF
unfoldable pub span : List ℕ → ℕ
span [] = 0
span (c ∷ cs) = cond (ends c) 0 (suc (span cs))

-- the field after a tab at this place: the stretch from there to the next tab or LF; no bytes where there is no tab
unfoldable pub field_at : List ℕ → ℕ → List ℕ
field_at l at = cond (eqb (get_or l at 0) 9) (stretch l (at + 1) (at + 1 + span (drop (at + 1) l))) []

-- a byte that the form takes
abbrev pub takes : Field → ℕ → Bool
takes (text least most t x) = t
takes (letter set b) = λ c. not (is_none (find (eqb c) set))
takes (number low high n) = from_to 48 57

unfoldable pub every : (ℕ → Bool) → List ℕ → Bool
every t [] = true
every t (c ∷ cs) = t c && every t cs

-- the bytes have the form
unfoldable pub has_form : Field → List ℕ → Bool
has_form (text least most t x) f = leb least (length f) && (leb (length f) most && every t f)
has_form (letter set b) f = eqb (length f) 1 && takes (letter set b) (get_or f 0 0)
has_form (number low high n) f = from_to low high (number_of f)

-- where the field after this place ends; past the line where it has not its form, and from there nothing has
unfoldable pub end_at : Field → List ℕ → ℕ → ℕ
end_at t l at = cond (has_form t (field_at l at)) (at + 1 + length (field_at l at)) (length l + 1)

-- what the reader of a field answers: its place, its number, its letter
abbrev pub text_at : Field → List ℕ → ℕ → Place
text_at t l at = record { from = cond (has_form t (field_at l at)) (at + 1) 0; to = end_at t l at }

abbrev pub number_at : Field → List ℕ → ℕ → Parsed ℕ
number_at t l at = record { value = number_of (field_at l at); to = end_at t l at }

abbrev pub letter_at : Field → List ℕ → ℕ → Parsed ℕ
letter_at t l at = record { value = get_or (field_at l at) 0 0; to = end_at t l at }

-- the forms of texts and letters
abbrev pub form : Form → Field
form Identifier = identifier unnamed
form Mpid = mpid unlisted
form Side = blank (side buy)
form YesNo = blank (yes_no true)

-- a form by its number
abbrev pub numbered : ℕ → Form
numbered k = cond (eqb k 0) Identifier (cond (eqb k 1) Mpid (cond (eqb k 2) Side YesNo))

-- the forms of letters
abbrev pub IsLetter : Form → Type 0
IsLetter Identifier = ⊥
IsLetter Mpid = ⊥
IsLetter Side = Unit {0}
IsLetter YesNo = Unit {0}

-- "ended by one LF. At most 160 bytes before the LF"
unfoldable pub ended : List ℕ → Bool
ended l = leb (length l) 161 && eqb (get_or l (length l - 1) 0) 10
