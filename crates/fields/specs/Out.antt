-- Writing into a buffer at a place. A byte that has no room changes nothing and sets the place past the end, from where no byte has room.
use Rattle.std.specs.Prelude.{◌≡◌, ℕ, ◌+◌, cond, ◌&&◌, length, take, drop, set, ltb, leb, Result, Ok, Err}
use mathlib.Core.List.{List, [], ◌∷◌, ◌++◌, foldl}
use Rattle.fields.specs.declared.WriteError.{WriteError}
use Rattle.fields.specs.declared.WriteError.TheVariants.{NoRoom}
use Rattle.fields.specs.declared.Writer.{Writer}

pub record Out : Type 0 where
  pub buffer : List ℕ
  pub at : ℕ

abbrev pub out : List ℕ → ℕ → Out
out b a = record { buffer = b; at = a }

unfoldable pub put_byte : Out → ℕ → Out
put_byte s c = cond (ltb s.at (length s.buffer)) (out (set s.buffer s.at c) (s.at + 1)) (out s.buffer (length s.buffer + 1))

-- bytes one after the other
unfoldable pub puts : Out → List ℕ → Out
puts s cs = foldl put_byte s cs

-- where a writer stands
abbrev pub cursor : Writer → Out
cursor w = out w.to.now w.at

-- a writer still writes into the same buffer, and stands here
abbrev pub Leaves : Writer → Writer → Out → Type 0
Leaves w v o = (v.to.ghost_name ≡ w.to.ghost_name) × (cursor v ≡ o)

-- ── what a call says ──
-- a number of the documents and no byte, or 0 and how many bytes were written
pub record Said : Type 0 where
  pub number : ℕ
  pub bytes : ℕ

abbrev pub refuses : ℕ → Said
refuses n = record { number = n; bytes = 0 }

-- a buffer that begins with these bytes, and past them is as it was found
abbrev pub begun : List ℕ → List ℕ → List ℕ
begun cs b = cs ++ drop (length cs) b

-- ── lines ──
-- what a writer leaves: the buffer, and what it says
pub record Left : Type 0 where
  pub buffer : List ℕ
  pub said : Result ℕ WriteError

abbrev pub left : List ℕ → Result ℕ WriteError → Left
left b w = record { buffer = b; said = w }

-- the first n bytes of a list, put before what stands past them in the buffer; nothing where one of the two is shorter
unfoldable pub handed : List ℕ → ℕ → List ℕ → Left
handed d n b = cond (leb n (length d) && leb n (length b)) (left (take n d ++ drop n b) (Ok n)) (left b (Err NoRoom))

-- a line of at most so many bytes, written whole into the buffer or not at all
unfoldable pub wrote : ℕ → List ℕ → List ℕ → Left
wrote most cs b = cond (leb (length cs) most && leb (length cs) (length b)) (left (cs ++ drop (length cs) b) (Ok (length cs))) (left b (Err NoRoom))

-- the number under which document 01 refuses a buffer, for what a writer says. The gate tests it before anything is judged
abbrev pub room_number : Result ℕ WriteError → ℕ
room_number (Ok n) = 0
room_number (Err NoRoom) = 21

-- a line: the kind's byte, each field after a tab, the LF
abbrev pub put_fields : Out → List (List ℕ) → Out
put_fields s [] = s
put_fields s (f ∷ fs) = put_fields (puts s (9 ∷ f)) fs

abbrev pub put_line : Out → ℕ → List (List ℕ) → Out
put_line s k fs = puts (put_fields (puts s (k ∷ [])) fs) (10 ∷ [])
