-- Document 01, "Outcomes" and "A whole day": what a record is answered, its answer line and a group's closing line.
-- Numbers 21 to 23 are about lent buffers and lent memory, of which there is nothing here.
use Rattle.std.proofs.Math.Option.{Option, map}
use Rattle.std.specs.Prelude.{List, [], ◌∷◌, ℕ}
use Prim.Native.Char.{Char, code}
use Rattle.std.proofs.Math.ListN.{get_elem?}
use Rattle.rulebook.specs.Names.{bytes}
use Rattle.rulebook.specs.Lines.{ceiling, highest, Record, broken, open_day, group, symbol, ask, tell, Field, letter, number, identifier, mpid, serial, yes_no, Line, line, line_of}
use Rattle.rulebook.specs.Kept.{Group, Books, Tally, tally}

-- P passed, K booked, S seen, R refused, A set aside; the number is 0 for P, K, S; `sent` is how many order messages are to be sent
pub record Answer : Type 0 where
  pub outcome : Char
  pub number : ℕ
  pub sent : ℕ

-- the numbers by the column "effect": those that are remembered, 31 to 36 as 15 was (document 02, order 1); and with those that have no effect, or take
-- a notice's number, all that a record is given
abbrev pub kept_numbers : List (ℕ × ℕ)
kept_numbers = (8, 14) ∷ (16, 17) ∷ (31, 36) ∷ []

abbrev pub record_numbers : List (ℕ × ℕ)
record_numbers = (1, 7) ∷ (18, 20) ∷ kept_numbers

-- "identifier or number (MPID for G, symbol for S, `-` for O)"
abbrev pub name_of : Record → Field
name_of broken = letter (bytes "-") (code "-")
name_of (group m t) = mpid m
name_of (symbol s) = serial s
name_of open_day = letter (bytes "-") (code "-")
name_of (ask r) = identifier r.key.name
name_of (tell n w) = serial n

abbrev pub answer_line : Record → Answer → Line
answer_line x a = record { kind = (line_of x).kind; fields = name_of x ∷ letter (bytes "PKSRA") (code a.outcome) ∷ number 0 (highest record_numbers) a.number ∷ number 0 1 a.sent ∷ [] }

-- "E, MPID, TB, TS, OB, OS, Y or N for blocked"
abbrev pub closing_line : Group → Tally → Line
closing_line g t = line "E" (mpid g.mpid ∷ number 0 ceiling t.tb ∷ number 0 ceiling t.ts ∷ number 0 ceiling t.ob ∷ number 0 ceiling t.os ∷ yes_no g.blocked ∷ [])

-- asked for by the group's place in listing order, from 0; none where no group has that place (5)
abbrev pub closing : Books → ℕ → Option Line
closing b i = map (λ g. closing_line g (tally g b.ledger.orders)) (get_elem? b.ledger.groups i)
