-- Demand 3 over blocks of lines: what a desk may hold us to. `Promises` says it of the record call, and the statements there that are of one line hold of the lines
-- taken with `calls_of` for the calls.
use Rattle.std.specs.Prelude.{◌≡◌, ℕ, ◌≤◌, length}
use Rattle.std.proofs.Common.{sym, ap, ◌∙◌, subst}
use mathlib.Core.List.{List, map}
use Rattle.std.proofs.Math.ListN.{get_elem?}
use Rattle.rulebook.specs.Kept.{fresh_books}
use Rattle.rulebook.specs.Day.{run}
use Rattle.rulebook.specs.Account.{desks}
use Rattle.books.specs.Layout.{least_words, room_of}
use Rattle.books.specs.View.{view}
use Rattle.store.specs.Making.{made_words}
use Rattle.calls.specs.Calling.{said_by, recorded}
use Rattle.promises.specs.Day.{replies, sheet, tells, Closes, rest, rest_replies}
use Rattle.promises.proofs.Carrying.{all_booked, all_answered}
use Rattle.promises.proofs.Blocks.{Lent, Roomy, blocks_left, blocks_wrote, calls_of, taken, in_a_row, MakesDay, makes_day}
use Rattle.promises.proofs.Fresh.{fresh_ok, day_says, memory_is, replies_is}
use Rattle.promises.proofs.Promises.{rest_alone, closing_sums, alike}

module _ (m : List ℕ) (long : least_words ≤ length m) where
  -- Document 02, order 4: "Demands 2 and 3 read the same over the lines taken."
  -- A day of blocks is the calls of the lines taken: none is refused, and what the blocks write and leave is what those calls do. So the promises above
  -- hold of it, those of one line with `calls_of` for the calls, and the others as they are said here.
  pub blocks_are_calls : (ds : List Lent) → Roomy ds → MakesDay (made_words m) ds
  blocks_are_calls ds a = makes_day (made_words m) (fresh_ok m long) ds a

  -- Each line taken is judged as the rulebook's day judges it, and the books after are that day's.
  pub blocks_judged : (ds : List Lent) → Roomy ds →
      (blocks_wrote (made_words m) ds ≡ in_a_row (all_answered (view (made_words m)) (taken (made_words m) ds))) × (view (blocks_left (made_words m) ds) ≡ run (fresh_books (room_of m)) (map said_by (taken (made_words m) ds)))
  blocks_judged ds a = let w = blocks_are_calls ds a in let cs = calls_of (made_words m) ds in
      (w.wrote ∙ ap in_a_row (replies_is m long cs w.ample), ap view w.memory ∙ day_says m long cs w.ample)

  -- What is left of the lines taken, lent alone in whatever blocks and buffers, gets the same answer lines and leaves the same memory.
  pub blocks_rest_alone : (ds es : List Lent) → Roomy ds → Roomy es → taken (made_words m) es ≡ rest (taken (made_words m) ds) →
      (blocks_wrote (made_words m) es ≡ in_a_row (rest_replies (replies recorded (made_words m) (calls_of (made_words m) ds)))) × (blocks_left (made_words m) es ≡ blocks_left (made_words m) ds)
  blocks_rest_alone ds es a b e =
      let v = blocks_are_calls ds a in
      let w = blocks_are_calls es b in
      let r = rest_alone m long (calls_of (made_words m) ds) (calls_of (made_words m) es) v.ample w.ample e in
      (w.wrote ∙ ap in_a_row r.0, w.memory ∙ r.1 ∙ sym v.memory)

  -- Blocks cut in any way that take the same lines write the same answers and leave the same memory.
  pub cut_anyhow : (ds es : List Lent) → Roomy ds → Roomy es → taken (made_words m) ds ≡ taken (made_words m) es →
      (blocks_wrote (made_words m) ds ≡ blocks_wrote (made_words m) es) × (blocks_left (made_words m) ds ≡ blocks_left (made_words m) es)
  cut_anyhow ds es a b e =
      let v = blocks_are_calls ds a in
      let w = blocks_are_calls es b in
      let cs = calls_of (made_words m) ds in
      let fs = calls_of (made_words m) es in (
        v.wrote ∙ ap in_a_row (replies_is m long cs v.ample ∙ ap (all_answered (view (made_words m))) e ∙ sym (replies_is m long fs w.ample)) ∙ sym w.wrote,
        v.memory ∙ memory_is m long cs v.ample ∙ ap (all_booked (made_words m)) e ∙ sym (memory_is m long fs w.ample) ∙ sym w.memory,
      )

  -- Each desk's closing line after the blocks shows its four sums over what is left of the lines taken.
  pub blocks_closing_sums : (ds : List Lent) → Roomy ds → (place : ℕ) (b : List ℕ) → 96 ≤ length b →
      let h = tells (rest_replies (replies recorded (made_words m) (calls_of (made_words m) ds))) in Closes (get_elem? (desks h) place) h (sheet (blocks_left (made_words m) ds) place b)
  blocks_closing_sums ds a place b l = let w = blocks_are_calls ds a in let h = tells (rest_replies (replies recorded (made_words m) (calls_of (made_words m) ds))) in
      subst (λ n. Closes (get_elem? (desks h) place) h (sheet n place b)) (sym w.memory) (closing_sums m long (calls_of (made_words m) ds) w.ample place b l)

-- And so do two days of blocks whose lines taken strike to one list.
pub blocks_alike : (m n : List ℕ) → least_words ≤ length m → length m ≡ length n → (ds es : List Lent) → Roomy ds → Roomy es → rest (taken (made_words m) ds) ≡ rest (taken (made_words n) es) →
    blocks_left (made_words m) ds ≡ blocks_left (made_words n) es
blocks_alike m n long e ds es a b q =
    let v = blocks_are_calls m long ds a in
    let w = blocks_are_calls n (subst (λ k. least_words ≤ k) e long) es b in
    v.memory ∙ (alike m n long e (calls_of (made_words m) ds) (calls_of (made_words n) es) v.ample w.ample q).0 ∙ sym w.memory
