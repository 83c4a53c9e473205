-- Document 02, order 4: a day of block calls. A block makes the record call for each line that it takes, so its day is a day of calls.
use Rattle.std.specs.Prelude.{◌≡◌, refl, true, cond, ltb}
use Rattle.std.proofs.Math.Path.{sym, ap}
use Rattle.std.proofs.Common.{◌∙◌, subst, drop-drop, lt-ltb, le-ltb}
use mathlib.Core.List.{List, [], ◌∷◌, ◌++◌, map, flatten, append_assoc, foldl-append}
use Prim.Native.Nat.{ℕ, suc, ◌+◌, ◌≤◌}
use native.Mathlib.Omega.{arith}
use Rattle.std.proofs.Math.Decide.{dec_lt}
use Rattle.std.proofs.Math.ListN.{length, take, drop, length-append}
use Rattle.std.proofs.Math.Seq.{take-append_seam, drop-append_seam}
use Rattle.laws.specs.Tables.{All, all_both}
use Rattle.fields.specs.Out.{begun}
use Rattle.rules.specs.Testing.{state_ok}
use Rattle.lines.specs.Splitting.{whole}
use Rattle.calls.specs.Calling.{answer_to, Recorded, recorded}
use Rattle.calls.specs.Keeping.{judged_line}
use Rattle.calls.specs.Blocks.{Block, idle, before, one_by_one, blocked}
use Rattle.calls.specs.Taking.{line_answered, no_room, no_line, block_judged}
use Rattle.promises.specs.Day.{Call, lines, Ample, after, left, Reply, reply, replies}
use Rattle.promises.proofs.Carrying.{booked, booked_ok, after_is, reply_is, all_booked, left_ok, left_is}

-- ── a day of blocks ──
-- a block call lends a text and an answer buffer
pub record Lent : Type 0 where
  pub text : List ℕ
  pub buffer : List ℕ

-- "buffers long enough"
abbrev pub Roomy : List Lent → Type 0
Roomy ds = All (λ (d : Lent). 32 ≤ length d.buffer) ds

abbrev pub block_of : List ℕ → Lent → Block
block_of m d = blocked m d.text d.buffer

-- the memory after a day's blocks, and the bytes that were written for them
abbrev pub blocks_left : List ℕ → List Lent → List ℕ
blocks_left m [] = m
blocks_left m (d ∷ ds) = blocks_left (block_of m d).memory ds

abbrev pub blocks_wrote : List ℕ → List Lent → List ℕ
blocks_wrote m [] = []
blocks_wrote m (d ∷ ds) = let t = block_of m d in take t.written t.buffer ++ blocks_wrote t.memory ds

-- the calls of the lines taken: each line with what is left of the buffer
abbrev pub calls_for : List ℕ → List (List ℕ) → List ℕ → List Call
calls_for m [] b = []
calls_for m (l ∷ ls) b = let r = recorded m l b in
    cond (ltb (length b) 32) [] (record { line = l; buffer = b } ∷ calls_for r.memory ls (drop r.said.bytes r.buffer))

abbrev pub calls_of : List ℕ → List Lent → List Call
calls_of m [] = []
calls_of m (d ∷ ds) = calls_for m (whole [] d.text) d.buffer ++ calls_of (block_of m d).memory ds

-- the lines taken
abbrev pub taken : List ℕ → List Lent → List (List ℕ)
taken m ds = lines (calls_of m ds)

-- answer lines, one after the other
abbrev pub in_a_row : List Reply → List ℕ
in_a_row rs = flatten (map (λ (r : Reply). r.answer) rs)

-- ── a block is its calls ──
pub record Makes (m : List ℕ) (ls : List (List ℕ)) (b : List ℕ) (t : Block) (cs : List Call) : Type 0 where
  pub number : t.number ≡ 0
  pub ample : Ample cs
  -- the first lines, as many as it says and with as many bytes
  pub first_lines : lines cs ≡ take t.lines ls
  pub bytes : t.bytes ≡ length (flatten (lines cs))
  -- their memory, and their answer lines at the buffer's start
  pub memory : t.memory ≡ left recorded m cs
  pub written : t.written ≡ length (in_a_row (replies recorded m cs))
  pub buffer : t.buffer ≡ begun (in_a_row (replies recorded m cs)) b

none_made : (m : List ℕ) (ls : List (List ℕ)) (b : List ℕ) → Makes m ls b (idle 0 m b) []
unfolding flatten
none_made m ls b = record { number = refl; ample = tt; first_lines = refl; bytes = refl; memory = refl; written = refl; buffer = refl }

module _ (m l b : List ℕ) (ok : state_ok m ≡ true) (room : 32 ≤ length b) (ls : List (List ℕ)) where
  abbrev call : Call
  call = record { line = l; buffer = b }

  abbrev answer : List ℕ
  answer = answer_to m l

  call_first : calls_for m (l ∷ ls) b ≡ call ∷ calls_for (booked m l) ls (drop (length answer) b)
  call_first = rw (le-ltb (length b) 32 room) (ap (λ (r : Recorded). call ∷ calls_for r.memory ls (drop r.said.bytes r.buffer)) (judged_line m l b room ok)
      ∙ ap (λ b. call ∷ calls_for (booked m l) ls b) (drop-append_seam answer (drop (length answer) b)))

  one_made : (t : Block) (cs : List Call) → Makes (booked m l) ls (drop (length answer) b) t cs → Makes m (l ∷ ls) b (before 1 (length l) answer t) (call ∷ cs)
  unfolding flatten
  one_made t cs w =
      let more : 1 + t.lines ≡ suc t.lines = omega arith in
      let then = after_is m call room ok in
      let row : in_a_row (replies recorded m (call ∷ cs)) ≡ answer ++ in_a_row (replies recorded (booked m l) cs) = λ i. (reply_is m call room ok i).answer ++ in_a_row (replies recorded (then i) cs) in
      record {
        number = w.number;
        ample = (room, w.ample);
        first_lines = ap (λ ls. l ∷ ls) w.first_lines ∙ sym (ap (λ k. take k (l ∷ ls)) more);
        bytes = ap (λ n. length l + n) w.bytes ∙ sym (length-append l (flatten (lines cs)));
        memory = w.memory ∙ sym (ap (λ m. left recorded m cs) then);
        written = ap (λ n. length answer + n) w.written ∙ sym (ap length row ∙ length-append answer (in_a_row (replies recorded (booked m l) cs)));
        buffer = let f = in_a_row (replies recorded (booked m l) cs) in ap (λ b. answer ++ b) (w.buffer ∙ ap (λ b. f ++ b) (drop-drop (length f) (length answer) b))
            ∙ sym (append_assoc answer f _) ∙ ap (λ k. (answer ++ f) ++ drop k b) (sym (length-append answer f)) ∙ sym (ap (λ cs. begun cs b) row);
      }

pub makes : (m : List ℕ) → state_ok m ≡ true → (ls : List (List ℕ)) (b : List ℕ) → Makes m ls b (one_by_one m ls b) (calls_for m ls b)
makes m ok [] b = subst (λ t. Makes m [] b t []) (sym (no_line m b)) (none_made m [] b)
makes m ok (l ∷ ls) b = elim (dec_lt (length b) 32) [
  | yes h ↦ rw (no_room m (l ∷ ls) b h, lt-ltb (length b) 32 h) (none_made m (l ∷ ls) b)
  | no h ↦ let room : 32 ≤ length b = omega (arith, h) in
      rw (line_answered m l b ok room ls, call_first m l b ok room ls) (one_made m l b ok room ls _ _ (makes (booked m l) (booked_ok m ok l) ls (drop (length (answer_to m l)) b)))
]

-- ── a day of blocks is its calls ──
row_both : (m : List ℕ) (cs es : List Call) → in_a_row (replies recorded m (cs ++ es)) ≡ in_a_row (replies recorded m cs) ++ in_a_row (replies recorded (left recorded m cs) es)
unfolding flatten
row_both m [] es = refl
row_both m (c ∷ cs) es = ap (λ a. (reply recorded m c).answer ++ a) (row_both (after recorded m c) cs es) ∙ sym (append_assoc (reply recorded m c).answer (in_a_row (replies recorded (after recorded m c) cs)) _)

-- each block makes the calls of its lines
abbrev pub MakesEach : List ℕ → List Lent → Type 0
MakesEach m [] = Unit {0}
MakesEach m (d ∷ ds) = Makes m (whole [] d.text) d.buffer (block_of m d) (calls_for m (whole [] d.text) d.buffer) × MakesEach (block_of m d).memory ds

pub record MakesDay (m : List ℕ) (ds : List Lent) : Type 0 where
  pub each : MakesEach m ds
  pub ample : Ample (calls_of m ds)
  pub memory : blocks_left m ds ≡ left recorded m (calls_of m ds)
  pub wrote : blocks_wrote m ds ≡ in_a_row (replies recorded m (calls_of m ds))

pub makes_block : (m : List ℕ) → state_ok m ≡ true → (d : Lent) → 32 ≤ length d.buffer → Makes m (whole [] d.text) d.buffer (block_of m d) (calls_for m (whole [] d.text) d.buffer)
makes_block m ok d room = rw (block_judged m (whole [] d.text) d.buffer room ok) (makes m ok (whole [] d.text) d.buffer)

pub makes_day : (m : List ℕ) → state_ok m ≡ true → (ds : List Lent) → Roomy ds → MakesDay m ds
unfolding flatten
makes_day m ok [] a = record { each = tt; ample = tt; memory = refl; wrote = refl }
makes_day m ok (d ∷ ds) a =
    let cs = calls_for m (whole [] d.text) d.buffer in
    let t = block_of m d in
    let f = in_a_row (replies recorded m cs) in
    let w = makes_block m ok d a.0 in
    let v = makes_day t.memory (subst (λ m. state_ok m ≡ true) (sym w.memory) (left_ok m cs ok)) ds a.1 in
    let es = calls_of t.memory ds in
    record {
      each = (w, v.each);
      ample = all_both (λ (c : Call). 32 ≤ length c.buffer) cs es w.ample v.ample;
      memory = v.memory ∙ ap (λ m. left recorded m es) w.memory ∙ sym (foldl-append (after recorded) m cs es);
      wrote = (λ i. take (w.written i) (w.buffer i) ++ v.wrote i) ∙ ap (λ a. a ++ in_a_row (replies recorded t.memory es)) (take-append_seam f (drop (length f) d.buffer))
          ∙ ap (λ m. f ++ in_a_row (replies recorded m es)) w.memory ∙ sym (row_both m cs es);
    }

-- its memory goes by the lines alone
pub block_booked : (m : List ℕ) (ok : state_ok m ≡ true) (d : Lent) → 32 ≤ length d.buffer → (block_of m d).memory ≡ all_booked m (take (block_of m d).lines (whole [] d.text))
block_booked m ok d room = let w = makes_block m ok d room in
    w.memory ∙ left_is m (calls_for m (whole [] d.text) d.buffer) w.ample ok ∙ ap (all_booked m) w.first_lines
