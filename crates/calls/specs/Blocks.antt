-- Document 02, order 4: what a block of lines in one call leaves, as the record call made for one line after the other.
use Rattle.std.specs.Prelude.{cond, List, [], ◌∷◌, ◌++◌, ℕ, ◌+◌, ltb, eqb, length, take, drop, Result, Ok, Err}
use Rattle.laws.specs.Checks.{first}
use Rattle.lines.specs.Splitting.{whole}
use Rattle.calls.specs.Calling.{call_number, refusals, recorded}
use Rattle.calls.specs.declared.CallError.{CallError}
use Rattle.calls.specs.declared.Lent.{Lent}
use Rattle.calls.specs.declared.Taken.{Taken}

-- "says how many lines it took", how many bytes they have and how many were written for them
pub record Block : Type 0 where
  pub number : ℕ
  pub lines : ℕ
  pub bytes : ℕ
  pub written : ℕ
  pub memory : List ℕ
  pub buffer : List ℕ

-- no line is taken
abbrev pub idle : ℕ → List ℕ → List ℕ → Block
idle n m b = record { number = n; lines = 0; bytes = 0; written = 0; memory = m; buffer = b }

-- so many lines of so many bytes are taken, with these answers, before the others
abbrev pub before : ℕ → ℕ → List ℕ → Block → Block
before k n answers t = record { number = t.number; lines = k + t.lines; bytes = n + t.bytes; written = length answers + t.written; memory = t.memory; buffer = answers ++ t.buffer }

-- "as if the lines had come one by one": each is lent to the record call with what is left of the buffer.
-- "It stops before the first line whose answer may not fit (under 32 bytes left)"
unfoldable pub one_by_one : List ℕ → List (List ℕ) → List ℕ → Block
one_by_one m [] b = idle 0 m b
one_by_one m (l ∷ ls) b = let r = recorded m l b in let n = r.said.bytes in
    cond (ltb (length b) 32) (idle 0 m b) (before 1 (length l) (take n r.buffer) (one_by_one r.memory ls (drop n r.buffer)))

-- "The call tests 21 and 22 once"
unfoldable pub asked : List ℕ → List (List ℕ) → List ℕ → Block
asked m ls b = let n = first (refusals 32 m b) in cond (eqb n 0) (one_by_one m ls b) (idle n m b)

-- "A last part without LF is not taken"
abbrev pub blocked : List ℕ → List ℕ → List ℕ → Block
blocked m text b = asked m (whole [] text) b

-- a line alone, or the lines that end in a block
abbrev pub lines_of : Lent → List (List ℕ)
lines_of (Lent.Line l) = l.now ∷ []
lines_of (Lent.Block text) = whole [] text.now

-- what the code answers: 21, 22, or what was taken
pub record Took : Type 0 where
  pub number : ℕ
  pub lines : ℕ
  pub bytes : ℕ
  pub written : ℕ

abbrev pub taken_lines : ℕ → ℕ → ℕ → Took
taken_lines k n w = record { number = 0; lines = k; bytes = n; written = w }

abbrev pub took : Result Taken CallError → Took
took (Ok t) = taken_lines t.count t.bytes t.written
took (Err why) = record { number = call_number why; lines = 0; bytes = 0; written = 0 }

abbrev pub block_left : Took → List ℕ → List ℕ → Block
block_left x m b = record { number = x.number; lines = x.lines; bytes = x.bytes; written = x.written; memory = m; buffer = b }
