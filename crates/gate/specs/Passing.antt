-- A program that lends a text block by block makes each line's call, in order.
use Rattle.std.specs.Prelude.{◌≡◌, refl, true, ℕ, ◌+◌, ◌-◌, ◌≤◌, ◌<◌, length, take, drop}
use Rattle.std.proofs.Common.{sym, ap, ◌∙◌, subst, arith, take-append-drop, drop_of_length-le, length-drop, drop-drop}
use mathlib.Core.List.{List, [], ◌∷◌, map, map-map, map-append, flatten, foldl-append}
use Rattle.laws.specs.Tables.{All, all_parts}
use Rattle.rulebook.specs.Judging.{judge}
use Rattle.books.specs.View.{view}
use Rattle.books.specs.Writing.{write}
use Rattle.rules.specs.Testing.{state_ok}
use Rattle.lines.specs.Splitting.{whole, rest, last, lent}
use Rattle.lines.proofs.Places as places
use Rattle.lines.proofs.Places.{lines_taken, taken_some, none_ends}
use Rattle.lines.proofs.Lending.{Line, whole_lines, lent_says}
use Rattle.calls.specs.Calling.{recorded}
use Rattle.calls.specs.Blocks.{Block, one_by_one, blocked, taken_lines, block_left}
use Rattle.calls.specs.Taking.{tail, tail_is, Ran, ran, block_clear, block_judged, no_line}
use Rattle.promises.specs.Day.{Call, Ample, after, left}
use Rattle.promises.proofs.Carrying.{booked, all_booked, left_is}
use Rattle.promises.proofs.Blocks.{Lent, block_of, makes_block, block_booked}
use Rattle.gate.specs.Turns.{call_for, calls_for}

-- ── calls for lines ──
all_ample : (ls : List (List ℕ)) → Ample (map (λ l. call_for (lent l)) ls)
all_ample [] = tt
all_ample (l ∷ ls) = (omega arith, all_ample ls)

-- what is lent of lines is booked as they are
lent_booked : (m : List ℕ) (ls : List (List ℕ)) → All Line ls → all_booked m (map lent ls) ≡ all_booked m ls
lent_booked m [] a = refl
lent_booked m (l ∷ ls) a = lent_booked (booked m (lent l)) ls a.1 ∙ ap (λ r. all_booked (write (judge (view m) r).edit m) ls) (lent_says l a.0)

lines_booked : (m : List ℕ) → state_ok m ≡ true → (ls : List (List ℕ)) → All Line ls → left recorded m (map (λ l. call_for (lent l)) ls) ≡ all_booked m ls
lines_booked m ok ls a = left_is m (map (λ l. call_for (lent l)) ls) (all_ample ls) ok ∙ ap (all_booked m) (map-map (λ (c : Call). c.line) (λ l. call_for (lent l)) ls) ∙ lent_booked m ls a

-- ── a block that is lent what is left of a text ──
pub record Passed (text : List ℕ) (at : ℕ) (m b : List ℕ) (n w : ℕ) (after : List ℕ) : Type 0 where
  pub within : at + n ≤ length text
  pub held : rest [] (drop at text) ≡ rest [] (drop (at + n) text)
  pub calls : left recorded m (calls_for (drop at text)) ≡ left recorded after (calls_for (drop (at + n) text))
  pub has_room : w ≤ length b
  -- either no line is left, or some bytes were taken
  pub all_done : 32 ≤ length b - w → whole [] (drop (at + n) text) ≡ []
  pub some_done : length b - w < 32 → 1 ≤ n

module _ (u m b : List ℕ) {k n w : ℕ} {m' b' : List ℕ} (e : block_left (taken_lines k n w) m' b' ≡ blocked m u b) where
  abbrev ls : List (List ℕ)
  ls = whole [] u

  abbrev lend : Lent
  lend = record { text = u; buffer = b }

  clear : (32 ≤ length b) × (state_ok m ≡ true)
  clear = block_clear m (whole [] u) b (sym (ap (λ (t : Block). t.number) e))

  runs : Ran ls b (block_of m lend)
  runs = subst (Ran ls b) (sym (block_judged m (whole [] u) b clear.0 clear.1)) (ran m clear.1 ls b)

  count : k ≡ (block_of m lend).lines
  count = ap (λ (t : Block). t.lines) e

  bytes_are : n ≡ length (flatten (take k ls))
  bytes_are = let made = makes_block m clear.1 lend clear.0 in
      ap (λ (t : Block). t.bytes) e ∙ made.bytes ∙ ap (λ ls. length (flatten ls)) made.first_lines ∙ ap (λ k. length (flatten (take k ls))) (sym count)

  gone : places.Taken u k n
  gone = subst (places.Taken u k) (sym bytes_are) (lines_taken u k)

  memory_is : m' ≡ left recorded m (map (λ l. call_for (lent l)) (take k ls))
  memory_is = ap (λ (t : Block). t.memory) e ∙ block_booked m clear.1 lend clear.0 ∙ ap (λ k. all_booked m (take k ls)) (sym count)
      ∙ sym (lines_booked m clear.1 (take k ls) (all_parts Line (take k ls) (drop k ls) (subst (All Line) (sym (take-append-drop k ls)) (whole_lines [] u tt))).0)

  calls_on : left recorded m (calls_for u) ≡ left recorded m' (calls_for (drop n u))
  calls_on = let f : (List ℕ → Call) = λ l. call_for (lent l) in
      ap (λ ls. left recorded m (map f ls)) (sym (take-append-drop k ls)) ∙ ap (left recorded m) (map-append f (take k ls) (drop k ls)) ∙ foldl-append (after recorded) m (map f (take k ls)) (map f (drop k ls))
      ∙ sym (λ i. left recorded (memory_is i) (map f (gone.left i)))

  done : 32 ≤ length b - w → whole [] (drop n u) ≡ []
  done h = let q = ap (λ (t : Block). t.written) e in
      gone.left ∙ drop_of_length-le ls {i = k} (omega (arith, runs.all_taken (omega (arith, q, runs.within)), count))

  some : length b - w < 32 → 1 ≤ n
  some h = let q = ap (λ (t : Block). t.written) e in
      let written : 1 ≤ (block_of m lend).written = omega (arith, q, clear.0) in
      rw bytes_are (taken_some u k (omega (arith, count, runs.some_taken written)) (λ z. let nothing = ap (λ (t : Block). t.written) (block_judged m (whole [] u) b clear.0 clear.1 ∙ ap (λ ls. one_by_one m ls b) z ∙ no_line m b) in omega (arith, written, nothing)))

  pub passed : (text : List ℕ) (at : ℕ) → at ≤ length text → u ≡ tail text at → Passed text at m b n w m'
  passed text at le q =
      let from : u ≡ drop at text = q ∙ tail_is text at in
      let on : drop n u ≡ drop (at + n) text = ap (drop n) from ∙ drop-drop n at text in
      record {
        within = omega (arith, gone.within, ap length from, length-drop at text);
        held = sym (ap (rest []) from) ∙ sym gone.held ∙ ap (rest []) on;
        calls = sym (ap (λ u. left recorded m (calls_for u)) from) ∙ calls_on ∙ ap (λ u. left recorded m' (calls_for u)) on;
        has_room = omega (arith, ap (λ (t : Block). t.written) e, runs.within);
        all_done = λ h. ap (whole []) (sym on) ∙ done h;
        some_done = some;
      }

-- where no line is left, memory stays
pub none_left : (m t : List ℕ) → whole [] t ≡ [] → left recorded m (calls_for t) ≡ m
none_left m t e = ap (λ ls. left recorded m (map (λ l. call_for (lent l)) ls)) e

-- a last part is no line where it is empty, and one line where it is not
pub no_part : (m h : List ℕ) → length h ≡ 0 → m ≡ left recorded m (map call_for (last h))
no_part m [] z = refl
no_part m (b ∷ h) z = absurd (omega arith)

pub one_part : (m h : List ℕ) → (length h ≡ 0 → ⊥) → after recorded m (call_for h) ≡ left recorded m (map call_for (last h))
one_part m [] z = absurd (z refl)
one_part m (b ∷ h) z = refl
