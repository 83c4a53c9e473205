-- Document 01, "Outcomes" and "A whole day": what the public calls answer, and the memory and the buffer after each.
use Rattle.std.specs.Prelude.{not, cond, List, [], ◌∷◌, ℕ, ltb, eqb, length, Result, Ok, Err}
use Rattle.std.proofs.Math.Option.{Option, Option-elim}
use Prim.Native.Char.{code}
use Rattle.std.proofs.Math.ListN.{get_elem?}
use Rattle.laws.specs.Checks.{Check, ◌⇒◌, first}
use Rattle.rulebook.specs.Lines.{Record}
use Rattle.rulebook.specs.Kept.{Group, tally}
use Rattle.rulebook.specs.Judging.{Verdict, judge}
use Rattle.fields.specs.Out.{Said, refuses, begun}
use Rattle.codec.specs.Readings.{record_of, reading}
use Rattle.answers.specs.Answering.{answer_bytes, closing_bytes}
use Rattle.books.specs.View.{view}
use Rattle.books.specs.Writing.{write}
use Rattle.rules.specs.Testing.{state_ok}
use Rattle.calls.specs.declared.CallError.{CallError}
use Rattle.calls.specs.declared.ClosingError.{ClosingError}

-- ── what a call says ──
-- that so many bytes were written, and that these were
abbrev pub bytes_said : ℕ → Said
bytes_said n = record { number = 0; bytes = n }

abbrev pub wrote : List ℕ → Said
wrote cs = bytes_said (length cs)

-- the number of each refusal
abbrev pub call_number : CallError → ℕ
call_number CallError.ShortBuffer = 21
call_number CallError.BadState = 22

abbrev pub closing_number : ClosingError → ℕ
closing_number ClosingError.ShortBuffer = 21
closing_number ClosingError.BadState = 22
closing_number ClosingError.Unlisted = 5

abbrev pub answer_said : Result ℕ CallError → Said
answer_said (Ok n) = bytes_said n
answer_said (Err why) = refuses (call_number why)

abbrev pub closing_said : Result ℕ ClosingError → Said
closing_said (Ok n) = bytes_said n
closing_said (Err why) = refuses (closing_number why)

-- "21, 22": a buffer under so many bytes, a lent state that breaks a state rule or is too short
abbrev pub refusals : ℕ → List ℕ → List ℕ → List Check
refusals least m b = (ltb (length b) least ⇒ 21) ∷ (not (state_ok m) ⇒ 22) ∷ []

-- ── one record ──
-- the record that a lent line says
abbrev pub said_by : List ℕ → Record
said_by l = record_of l (reading l)

-- the rulebook's verdict on the view of the memory
abbrev pub verdict_on : List ℕ → List ℕ → Verdict
verdict_on m l = judge (view m) (said_by l)

-- the bytes of its answer line
abbrev pub answer_to : List ℕ → List ℕ → List ℕ
answer_to m l = let a = (verdict_on m l).answer in answer_bytes l (reading l) (code a.outcome) a.number a.sent

-- what a call leaves
pub record Recorded : Type 0 where
  pub said : Said
  pub memory : List ℕ
  pub buffer : List ℕ

abbrev pub record_left : Said → List ℕ → List ℕ → Recorded
record_left x m b = record { said = x; memory = m; buffer = b }

-- refused, it changes nothing; else memory after is the verdict's edit written, and the buffer begins with its answer line
unfoldable pub recorded : List ℕ → List ℕ → List ℕ → Recorded
recorded m l b = let n = first (refusals 32 m b) in
    cond (eqb n 0) (record_left (wrote (answer_to m l)) (write (verdict_on m l).edit m) (begun (answer_to m l) b)) (record_left (refuses n) m b)

-- ── a closing line ──
-- "asked for by the group's place in listing order, from 0"
abbrev pub group_at : List ℕ → ℕ → Option Group
group_at m i = get_elem? (view m).ledger.groups i

-- the bytes of a group's closing line
abbrev pub closing_of : List ℕ → Group → List ℕ
closing_of m g = let t = tally g (view m).ledger.orders in closing_bytes g.mpid.code t.tb t.ts t.ob t.os g.blocked

pub record Closing : Type 0 where
  pub said : Said
  pub buffer : List ℕ

abbrev pub closing_left : Said → List ℕ → Closing
closing_left x b = record { said = x; buffer = b }

-- "21, 22, then 5 if no group has that place, which here writes nothing; it changes no state"
unfoldable pub closed : List ℕ → ℕ → List ℕ → Closing
closed m i b = let n = first (refusals 96 m b) in
    cond (eqb n 0) (Option-elim (group_at m i) (closing_left (refuses 5) b) (λ g. closing_left (wrote (closing_of m g)) (begun (closing_of m g) b))) (closing_left (refuses n) b)
