-- Document 01, "A whole day": the bytes of an answer line and of a closing line.
use Rattle.std.specs.Prelude.{ℕ, zero, suc, ◌/◌, ◌%◌, Bool, cond, List, [], ◌∷◌}
use Prim.Native.Char.{code}
use Rattle.rulebook.specs.Outcomes.{name_of}
use Rattle.fields.specs.Digits.{digits}
use Rattle.fields.specs.Series.{Value, bytes_of, tails}
use Rattle.codec.specs.Readings.{record_of, text_value, plain_value, letter_of}
use Rattle.codec.specs.declared.Reading.{Reading}
use Rattle.codec.specs.declared.Reading.TheVariants.{Broken, Group, Symbol, Open, New, Change, Cancel, Block, Unblock, Quote, Fill, Reduction, CancelRefused}

-- the field that answers name a record by
abbrev pub name_value : Reading → Value
name_value Broken = plain_value (code "-")
name_value (Group m l1 l2 l3 l4 l5 l6 z x) = text_value m
name_value (Symbol s) = plain_value s
name_value Open = plain_value (code "-")
name_value (New i m s x z p) = text_value i
name_value (Change i m t z p) = text_value i
name_value (Cancel i m t) = text_value i
name_value (Block i m) = text_value i
name_value (Unblock i m) = text_value i
name_value (Quote n s b o) = plain_value n
name_value (Fill n m t z p) = plain_value n
name_value (Reduction n m t z) = plain_value n
name_value (CancelRefused n m t) = plain_value n

abbrev pub name_bytes : List ℕ → Reading → List ℕ
name_bytes l r = bytes_of (name_of (record_of [] r)) l (name_value r)

-- "kind, identifier or number .., outcome, number, and 1 if an order message is to be sent"
abbrev pub answer_fields : List ℕ → Reading → ℕ → ℕ → ℕ → List (List ℕ)
answer_fields l r outcome n sent = name_bytes l r ∷ (outcome ∷ []) ∷ digits n ∷ digits sent ∷ []

abbrev pub answer_bytes : List ℕ → Reading → ℕ → ℕ → ℕ → List ℕ
answer_bytes l r outcome n sent = letter_of r ∷ tails (answer_fields l r outcome n sent)

-- the lowest bytes of a word, the first lowest: an MPID is four of them
abbrev pub low_bytes : ℕ → ℕ → List ℕ
low_bytes zero w = []
low_bytes (suc n) w = w % 256 ∷ low_bytes n (w / 256)

abbrev pub yes_no_letter : Bool → ℕ
yes_no_letter x = cond x (code "Y") (code "N")

abbrev pub closing_kind : ℕ
closing_kind = code "E"

-- "E, MPID, TB, TS, OB, OS, Y or N for blocked"
abbrev pub closing_fields : ℕ → ℕ → ℕ → ℕ → ℕ → Bool → List (List ℕ)
closing_fields w tb ts ob os blocked = low_bytes 4 w ∷ digits tb ∷ digits ts ∷ digits ob ∷ digits os ∷ (yes_no_letter blocked ∷ []) ∷ []

abbrev pub closing_bytes : ℕ → ℕ → ℕ → ℕ → ℕ → Bool → List ℕ
closing_bytes w tb ts ob os blocked = closing_kind ∷ tails (closing_fields w tb ts ob os blocked)
