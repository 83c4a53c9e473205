-- The lines of a block one after the other: one line more, and the end.
use Rattle.std.specs.Prelude.{◌≡◌, true, false, List, [], ◌∷◌, ◌++◌, ℕ, ◌+◌, ◌-◌, ◌≤◌, ◌<◌, length, take, drop, Result}
use Rattle.std.proofs.Math.Path.{refl}
use Rattle.std.proofs.Common.{sym, ap, ◌∙◌, subst, append_assoc, append-nil, zero-add, arith, length-append, length-drop, take-append-drop, drop_of_length-le, length-take-le, take_all, lt-ltb, le-ltb}
use Rattle.std.proofs.Math.Decide.{dec_lt}
use Rattle.std.proofs.Math.Seq.{take-append_seam, drop-append_seam, take-append-add, drop-append-add}
use Rattle.laws.specs.Tests.{on}
use Rattle.fields.specs.Out.{begun}
use Rattle.books.specs.Writing.{write}
use Rattle.rules.specs.Testing.{state_ok}
use Rattle.lines.specs.Splitting.{whole, line_at}
use Rattle.lines.proofs.Places.{step_on, step_none}
use Rattle.calls.specs.Calling.{bytes_said, verdict_on, answer_to, Recorded, record_left, recorded}
use Rattle.calls.specs.Keeping.{too_short, state_bad, not_refused, short_buffer, bad_state, judged_line, state_kept, answer_written}
use Rattle.calls.specs.Blocks.{Block, idle, before, one_by_one, asked, blocked, taken_lines, took, block_left}
use Rattle.calls.specs.declared.CallError.{CallError}
use Rattle.calls.specs.declared.Taken.{Taken}

-- lines taken before lines taken
before_more : (k n : ℕ) (a : List ℕ) (j i : ℕ) (c : List ℕ) (t : Block) → before k n a (before j i c t) ≡ before (k + j) (n + i) (a ++ c) t
before_more k n a j i c t =
    let lines : k + (j + t.lines) ≡ k + j + t.lines = omega arith in
    let bytes : n + (i + t.bytes) ≡ n + i + t.bytes = omega arith in
    let written : length a + (length c + t.written) ≡ length (a ++ c) + t.written = rw length-append (omega arith) in
    λ x. record { number = t.number; lines = lines x; bytes = bytes x; written = written x; memory = t.memory; buffer = sym (append_assoc a c t.buffer) x }

-- a line that the record call answered, on a state that meets the rules
module _ (m l b : List ℕ) (ok : state_ok m ≡ true) (room : 32 ≤ length b) {m' b' : List ℕ} {n : ℕ} (e : record_left (bytes_said n) m' b' ≡ recorded m l b) where
  pub still_ok : state_ok m' ≡ true
  still_ok = subst (λ (r : Recorded). state_ok r.memory ≡ true) (sym e) (state_kept m l b ok)

  pub few_bytes : n ≤ 32
  few_bytes = let q : n ≡ length (answer_to m l) = ap (λ (r : Recorded). r.said.bytes) (e ∙ judged_line m l b room ok) in omega (arith, q, (answer_written m l ok).1)

  line_taken : (ls : List (List ℕ)) → one_by_one m (l ∷ ls) b ≡ before 1 (length l) (take n b') (one_by_one m' ls (drop n b'))
  unfolding one_by_one
  line_taken ls = rw (le-ltb (length b) 32 room) (ap (λ (r : Recorded). before 1 (length l) (take r.said.bytes r.buffer) (one_by_one r.memory ls (drop r.said.bytes r.buffer))) (sym e))

-- the line's answer stands first, and the others go on behind it
pub line_answered : (m l b : List ℕ) → state_ok m ≡ true → 32 ≤ length b → (ls : List (List ℕ)) →
    one_by_one m (l ∷ ls) b ≡ before 1 (length l) (answer_to m l) (one_by_one (write (verdict_on m l).edit m) ls (drop (length (answer_to m l)) b))
line_answered m l b ok room ls = let cs = answer_to m l in let rest = drop (length cs) b in
    line_taken m l b ok room (sym (judged_line m l b room ok)) ls
    ∙ (λ x. before 1 (length l) (take-append_seam cs rest x) (one_by_one (write (verdict_on m l).edit m) ls (drop-append_seam cs rest x)))

-- where under 32 bytes are left, no line is taken
pub no_room : (m : List ℕ) (ls : List (List ℕ)) (b : List ℕ) → length b < 32 → one_by_one m ls b ≡ idle 0 m b
unfolding one_by_one
no_room m [] b h = refl
no_room m (l ∷ ls) b h = rw (lt-ltb (length b) 32 h) refl

pub no_line : (m b : List ℕ) → one_by_one m [] b ≡ idle 0 m b
unfolding one_by_one
no_line m b = refl

-- ── what is left of the buffer, lent to one call ──
-- the bytes from a place on
abbrev pub tail : List ℕ → ℕ → List ℕ
tail b end = take (length b - end) (drop end b)

-- a buffer with other bytes from a place on
abbrev pub with_tail : List ℕ → ℕ → List ℕ → List ℕ
with_tail b end ys = take end b ++ (ys ++ drop (length b - end) (drop end b))

pub tail_is : (b : List ℕ) (end : ℕ) → tail b end ≡ drop end b
tail_is b end = take_all (length b - end) (drop end b) (rw length-drop (omega arith))

pub tail_room : (b : List ℕ) (end : ℕ) → 32 ≤ length b - end → 32 ≤ length (tail b end)
tail_room b end h = rw (tail_is b end, length-drop) h

module _ (b : List ℕ) (end : ℕ) (within : end ≤ length b) (ys : List ℕ) where
  rejoined : with_tail b end ys ≡ take end b ++ ys
  rejoined = let none = drop_of_length-le (drop end b) {i = length b - end} (rw length-drop (omega arith)) in rw (none, append-nil)

  pub front_then : (n : ℕ) → take (end + n) (with_tail b end ys) ≡ take end b ++ take n ys
  front_then n = let z : end + n ≡ length (take end b) + n = rw (length-take-le end b within) refl in rw (rejoined, z) (take-append-add (take end b) ys n)

  pub rest_then : (n : ℕ) → drop (end + n) (with_tail b end ys) ≡ drop n ys
  rest_then n = let z : end + n ≡ length (take end b) + n = rw (length-take-le end b within) refl in rw (rejoined, z) (drop-append-add (take end b) ys n)

-- ── the loop: so many lines are taken, with so many bytes, and their answers stand before a place ──
abbrev pub so_far : List ℕ → ℕ → ℕ → ℕ → List ℕ → List ℕ → Block
so_far text count at end m b = before count at (take end b) (one_by_one m (whole [] (drop at text)) (drop end b))

pub at_start : (text m b : List ℕ) → one_by_one m (whole [] text) b ≡ so_far text 0 0 0 m b
at_start text m b = let t = one_by_one m (whole [] text) b in λ x. record { number = t.number; lines = sym (zero-add t.lines) x; bytes = sym (zero-add t.bytes) x; written = sym (zero-add t.written) x; memory = t.memory; buffer = t.buffer }

module _ (text : List ℕ) (count at end : ℕ) (m b : List ℕ) where
  pub next_line : (l : List ℕ) → l ≡ line_at text at → 1 ≤ length l → state_ok m ≡ true → end ≤ length b → 32 ≤ length b - end → (k : List ℕ) (ys : List ℕ) (n : ℕ) → record_left (bytes_said n) k ys ≡ recorded m l (tail b end) →
      so_far text count at end m b ≡ so_far text (count + 1) (at + length l) (end + n) k (with_tail b end ys)
  next_line l q some ok within room k ys n e =
      let s = step_on text at (subst (λ (l : List ℕ). 1 ≤ length l) q some) in
      let lines : whole [] (drop at text) ≡ l ∷ whole [] (drop (at + length l) text) = s.line ∙ sym (λ x. q x ∷ whole [] (drop (at + length (q x)) text)) in
      let here = e ∙ ap (recorded m l) (tail_is b end) in
      ap (λ ls. before count at (take end b) (one_by_one m ls (drop end b))) lines
      ∙ ap (before count at (take end b)) (line_taken m l (drop end b) ok (rw length-drop room) here (whole [] (drop (at + length l) text)))
      ∙ before_more count at (take end b) 1 (length l) (take n ys) (one_by_one k (whole [] (drop (at + length l) text)) (drop n ys))
      ∙ sym (λ x. before (count + 1) (at + length l) (front_then b end within ys n x) (one_by_one k (whole [] (drop (at + length l) text)) (rest_then b end within ys n x)))

  -- no more is taken
  ended : end ≤ length b → before count at (take end b) (idle 0 m (drop end b)) ≡ block_left (taken_lines count at end) m b
  ended within =
      let lines : count + 0 ≡ count = omega arith in
      let bytes : at + 0 ≡ at = omega arith in
      let written : length (take end b) + 0 ≡ end = omega (arith, length-take-le end b within) in
      λ x. record { number = 0; lines = lines x; bytes = bytes x; written = written x; memory = m; buffer = take-append-drop end b x }

  pub no_more_room : end ≤ length b → length b - end < 32 → so_far text count at end m b ≡ block_left (taken_lines count at end) m b
  no_more_room within h = ap (before count at (take end b)) (no_room m (whole [] (drop at text)) (drop end b) (rw length-drop h)) ∙ ended within

  pub no_more_lines : (l : List ℕ) → l ≡ line_at text at → length l ≡ 0 → end ≤ length b → so_far text count at end m b ≡ block_left (taken_lines count at end) m b
  no_more_lines l q z within = ap (λ ls. before count at (take end b) (one_by_one m ls (drop end b))) (step_none text at (sym (ap length q) ∙ z)).0 ∙ ap (before count at (take end b)) (no_line m (drop end b)) ∙ ended within

-- ── 21 and 22 are tested once ──
module _ (m : List ℕ) (ls : List (List ℕ)) (b : List ℕ) where
  pub block_short : length b < 32 → asked m ls b ≡ idle 21 m b
  unfolding asked
  block_short h = rw (too_short 32 m b h) refl

  pub block_bad : 32 ≤ length b → state_ok m ≡ false → asked m ls b ≡ idle 22 m b
  unfolding asked
  block_bad h e = rw (state_bad 32 m b h e) refl

  pub block_judged : 32 ≤ length b → state_ok m ≡ true → asked m ls b ≡ one_by_one m ls b
  unfolding asked
  block_judged h e = rw (not_refused 32 m b h e) refl

-- ── one line ──
module _ (m l b : List ℕ) (ok : state_ok m ≡ true) (room : 32 ≤ length b) where
  abbrev answer : List ℕ
  answer = answer_to m l

  abbrev memory : List ℕ
  memory = write (verdict_on m l).edit m

  alone_judged : asked m (l ∷ []) b ≡ block_left (taken_lines 1 (length l) (length answer)) memory (begun answer b)
  alone_judged =
      let bytes : length l + 0 ≡ length l = omega arith in
      let written : length answer + 0 ≡ length answer = omega arith in
      block_judged m (l ∷ []) b room ok ∙ line_answered m l b ok room [] ∙ ap (before 1 (length l) answer) (no_line memory (drop (length answer) b))
      ∙ (λ x. record { number = 0; lines = 1; bytes = bytes x; written = written x; memory = memory; buffer = begun answer b })

  -- what the record call leaves, as a block of one line
  pub one_taken : {k ys : List ℕ} {n : ℕ} → record_left (bytes_said n) k ys ≡ recorded m l b → block_left (taken_lines 1 (length l) n) k ys ≡ asked m (l ∷ []) b
  one_taken e = ap (λ (r : Recorded). block_left (taken_lines 1 (length l) r.said.bytes) r.memory r.buffer) (e ∙ judged_line m l b room ok) ∙ sym alone_judged

-- and a block of one line is what the record call leaves
alone_recorded : (m l b : List ℕ) → let t = asked m (l ∷ []) b in record_left (record { number = t.number; bytes = t.written }) t.memory t.buffer ≡ recorded m l b
alone_recorded m l b = elim (dec_lt (length b) 32) [
  | yes h ↦ rw (block_short m (l ∷ []) b h, short_buffer m l b h) refl
  | no h ↦ let room : 32 ≤ length b = omega (arith, h) in
      on (λ t. state_ok m ≡ t → let t = asked m (l ∷ []) b in record_left (record { number = t.number; bytes = t.written }) t.memory t.buffer ≡ recorded m l b) (state_ok m)
      (λ z e. rw (alone_judged m l b e room, judged_line m l b room e) refl) (λ z e. rw (block_bad m (l ∷ []) b room e, bad_state m l b room e) refl) refl
]

pub recorded_by : (m l b : List ℕ) {k ys : List ℕ} (x : Result Taken CallError) → block_left (took x) k ys ≡ asked m (l ∷ []) b → record_left (record { number = (took x).number; bytes = (took x).written }) k ys ≡ recorded m l b
recorded_by m l b x e = ap (λ (t : Block). record_left (record { number = t.number; bytes = t.written }) t.memory t.buffer) e ∙ alone_recorded m l b

-- what is not refused has room and a state that meets the rules
pub block_clear : (m : List ℕ) (ls : List (List ℕ)) (b : List ℕ) → (asked m ls b).number ≡ 0 → (32 ≤ length b) × (state_ok m ≡ true)
block_clear m ls b e = elim (dec_lt (length b) 32) [
  | yes h ↦ absurd (omega (arith, ap (λ (t : Block). t.number) (block_short m ls b h), e))
  | no h ↦ let room : 32 ≤ length b = omega (arith, h) in
      (room, on (λ t. state_ok m ≡ t → t ≡ true) (state_ok m) (λ z q. refl) (λ z q. absurd (omega (arith, ap (λ (t : Block). t.number) (block_bad m ls b room q), e))) refl)
]

-- ── what is written has room, and where an answer line more has room no line is left ──
pub record Ran (ls : List (List ℕ)) (b : List ℕ) (t : Block) : Type 0 where
  pub number : t.number ≡ 0
  pub within : t.written ≤ length b
  pub all_taken : 32 + t.written ≤ length b → t.lines ≡ length ls
  pub some_taken : 1 ≤ t.written → 1 ≤ t.lines

pub ran : (m : List ℕ) → state_ok m ≡ true → (ls : List (List ℕ)) (b : List ℕ) → Ran ls b (one_by_one m ls b)
ran m ok [] b = rw (no_line m b) (record { number = refl; within = omega arith; all_taken = λ h. refl; some_taken = λ h. absurd (omega arith) })
ran m ok (l ∷ ls) b = elim (dec_lt (length b) 32) [
  | yes h ↦ rw (no_room m (l ∷ ls) b h) (record { number = refl; within = omega arith; all_taken = λ r. absurd (omega arith); some_taken = λ r. absurd (omega arith) })
  | no h ↦ let room : 32 ≤ length b = omega (arith, h) in
      let n = length (answer_to m l) in
      let still = subst (λ (r : Recorded). state_ok r.memory ≡ true) (judged_line m l b room ok) (state_kept m l b ok) in
      let w = ran (write (verdict_on m l).edit m) still ls (drop n b) in
      let short = (answer_written m l ok).1 in
      rw (line_answered m l b ok room ls) (record {
        number = w.number;
        within = omega (arith, w.within, length-drop n b, short);
        all_taken = λ r. let e = w.all_taken (rw length-drop (omega arith)) in omega (arith, e);
        some_taken = λ r. omega arith;
      })
]

pub written_within : (m text b : List ℕ) → (blocked m text b).written ≤ length b
written_within m text b = elim (dec_lt (length b) 32) [
  | yes h ↦ rw (block_short m (whole [] text) b h) (omega arith)
  | no h ↦ on (λ t. state_ok m ≡ t → (blocked m text b).written ≤ length b) (state_ok m)
      (λ z e. rw (block_judged m (whole [] text) b (omega (arith, h)) e) (ran m e (whole [] text) b).within) (λ z e. rw (block_bad m (whole [] text) b (omega (arith, h)) e) (omega arith)) refl
]
