-- Demand 3, what it is about: a day over the public calls, what is struck from it, and what its lines and answer lines show.
-- Lines, memory and answer lines are what a host hands the gate and gets back: bytes, words, bytes. The promises are of `recorded`, the record call's own statement.
use Rattle.std.specs.Prelude.{◌≡◌, Bool, false, not, ◌&&◌, cond, ℕ, suc, ◌≤◌, length, take, get_or, leb, eqb}
use Rattle.std.proofs.Math.Bool.{decide}
use Rattle.std.proofs.Math.Option.{Option, none, some}
use mathlib.Core.List.{List, [], ◌∷◌, ◌++◌, map, foldl, List-discrete}
use Rattle.std.proofs.Math.Decide.{ℕ_discrete}
use Prim.Native.String.{String}
use Rattle.laws.specs.Tests.{is_none}
use Rattle.laws.specs.Tables.{find, All}
use Rattle.rulebook.specs.Names.{bytes, Mpid, mpid_of}
use Rattle.rulebook.specs.Lines.{line_of}
use Rattle.rulebook.specs.Kept.{Tally}
use Rattle.rulebook.specs.Account.{Told, account}
use Rattle.fields.specs.Digits.{number_of}
use Rattle.calls.specs.Calling.{said_by, Recorded, closed}

-- ── a day ──
-- a call lends a line and an answer buffer
pub record Call : Type 0 where
  pub line : List ℕ
  pub buffer : List ℕ

abbrev pub lines : List Call → List (List ℕ)
lines cs = map (λ (c : Call). c.line) cs

-- "buffers long enough"
abbrev pub Ample : List Call → Type 0
Ample cs = All (λ (c : Call). 32 ≤ length c.buffer) cs

-- a gate is what a call leaves of a memory, a line and a buffer; the record call's own statement, `recorded`, is one
abbrev pub Gate : Type 0
Gate = List ℕ → List ℕ → List ℕ → Recorded

-- the memory after a call, and after a day's calls
abbrev pub after : Gate → List ℕ → Call → List ℕ
after G m c = (G m c.line c.buffer).memory

abbrev pub left : Gate → List ℕ → List Call → List ℕ
left G m cs = foldl (after G) m cs

-- what a host has of a call: the line that it lent, the number that came back, and the answer line, which is the bytes that were written
pub record Reply : Type 0 where
  pub line : List ℕ
  pub number : ℕ
  pub answer : List ℕ

abbrev pub reply : Gate → List ℕ → Call → Reply
reply G m c = let r = G m c.line c.buffer in record { line = c.line; number = r.said.number; answer = take r.said.bytes r.buffer }

abbrev pub replies : Gate → List ℕ → List Call → List Reply
replies G m [] = []
replies G m (c ∷ cs) = reply G m c ∷ replies G (after G m c) cs

-- and of a closing call
pub record Sheet : Type 0 where
  pub number : ℕ
  pub line : List ℕ

abbrev pub sheet : List ℕ → ℕ → List ℕ → Sheet
sheet m place b = let r = closed m place b in record { number = r.said.number; line = take r.said.bytes r.buffer }

-- ── what lines show ──
-- "fields parted by single tabs, ended by one LF"; the kind is the first
unfoldable pub parts : List ℕ → List ℕ → List (List ℕ)
parts held [] = held ∷ []
parts held (c ∷ cs) = cond (eqb c 9) (held ∷ parts [] cs) (cond (eqb c 10) (held ∷ []) (parts (held ++ (c ∷ [])) cs))

abbrev pub field : ℕ → List ℕ → List ℕ
field i l = get_or (parts [] l) i []

abbrev pub number_in : ℕ → List ℕ → ℕ
number_in i l = number_of (field i l)

-- a line in its form, of one of these kinds
abbrev pub is_kind : String → List ℕ → Bool
is_kind s l = not (is_none (find (eqb (line_of (said_by l)).kind) (bytes s)))

-- an answer line: kind, name, outcome, number, sent
pub record Shown : Type 0 where
  pub outcome : ℕ
  pub number : ℕ
  pub sent : ℕ

abbrev pub shown : List ℕ → Shown
shown l = record { outcome = get_or (field 2 l) 0 0; number = number_in 3 l; sent = number_in 4 l }

-- the same outcome and number, and 0 sent
abbrev pub unsent : Shown → Shown
unsent s = record { outcome = s.outcome; number = s.number; sent = 0 }

-- a closing line: E, MPID, TB, TS, OB, OS
abbrev pub desk_shown : List ℕ → Mpid
desk_shown l = mpid_of (field 1 l)

abbrev pub totals_shown : List ℕ → Tally
totals_shown l = record { tb = number_in 2 l; ts = number_in 3 l; ob = number_in 4 l; os = number_in 5 l }

-- what lines and their answer lines tell: all that the rulebook's `account`, a desk's sums, and `desks`, those listed, are worked out from
abbrev pub tells : List Reply → List Told
tells rs = map (λ (r : Reply). record { line = said_by r.line; outcome = (shown r.answer).outcome; sent = (shown r.answer).sent }) rs

-- what is asked of a closing call for a desk: its line shows the desk and the sums. Where there is no desk, 5 and no line
abbrev pub Closes : Option Mpid → List Told → Sheet → Type 0
Closes none h s = s ≡ record { number = 5; line = [] }
Closes (some m) h s = (s.number ≡ 0) × (desk_shown s.line ≡ m) × (totals_shown s.line ≡ account m h)

-- ── striking, on the lines ──
-- the lines since the first O, the latest first; none while it has not come
abbrev pub Since : Type 0
Since = Option (List (List ℕ))

abbrev pub heard : Since → List ℕ → Since
heard none l = cond (is_kind "O" l) (some []) none
heard (some e) l = some (l ∷ e)

-- the same bytes are among these lines
abbrev pub same_bytes : List ℕ → List ℕ → Bool
same_bytes k l = decide (List-discrete ℕ_discrete k l)

abbrev pub among : List ℕ → List (List ℕ) → Bool
among l e = not (is_none (find (λ k. same_bytes k l) e))

-- the last number that these lines took: a notice takes the next
abbrev pub last_taken : List (List ℕ) → ℕ
last_taken [] = 0
last_taken (l ∷ e) = let n = last_taken e in cond (is_kind "QFDH" l && eqb (number_in 1 l) (suc n)) (number_in 1 l) n

-- "every request identical to an earlier one and every notice whose number was already taken"
abbrev pub struck : Since → List ℕ → Bool
struck none l = false
struck (some e) l = cond (is_kind "NMCBR" l) (among l e) (is_kind "QFDH" l && leb (number_in 1 l) (last_taken e))

-- what is left of a day, of its lines or of anything that has a line
abbrev pub strike : {A : Type 0} → (A → List ℕ) → Since → List A → List A
strike f s [] = []
strike f s (x ∷ xs) = cond (struck s (f x)) (strike f (heard s (f x)) xs) (x ∷ strike f (heard s (f x)) xs)

abbrev pub rest : List (List ℕ) → List (List ℕ)
rest ls = strike (λ l. l) none ls

abbrev pub rest_replies : List Reply → List Reply
rest_replies rs = strike (λ (r : Reply). r.line) none rs

-- a line after these is struck
abbrev pub struck_after : List (List ℕ) → List ℕ → Bool
struck_after ls l = struck (foldl heard none ls) l

-- its first attempt: the same bytes, after opening, and not struck itself
pub record FirstAttempt (l : List ℕ) (cs : List Call) : Type 0 where
  pub before : List Call
  pub call : Call
  pub between : List Call
  pub parted : cs ≡ before ++ (call ∷ between)
  pub same : call.line ≡ l
  pub is_open : is_none (foldl heard none (lines before)) ≡ false
  pub is_first : struck_after (lines before) l ≡ false
