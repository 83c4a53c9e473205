-- Demand 3 over the public calls: what a desk may hold us to. What each word means is in Day; why each holds is in the other files.
-- A day begins with the memory that making a fresh state leaves; m is any lent words, long enough, whatever they held.
use Rattle.std.specs.Prelude.{◌≡◌, refl, true, cond, ℕ, ◌≤◌, length, replicate}
use Rattle.std.proofs.Common.{sym, ap, ◌∙◌, subst}
use Rattle.std.proofs.Math.Option.{none}
use mathlib.Core.List.{List, [], ◌∷◌, ◌++◌, map, foldl}
use Prim.Native.Char.{code}
use Rattle.std.proofs.Math.ListN.{get_elem?}
use Rattle.laws.specs.Tests.{is_none}
use Rattle.laws.specs.Tables.{All, all_parts}
use Rattle.rulebook.specs.Lines.{open_day, ask, tell}
use Rattle.rulebook.specs.Kept.{fresh_books}
use Rattle.rulebook.specs.Judging.{Verdict}
use Rattle.rulebook.specs.Day as day
use Rattle.rulebook.specs.Day.{run, no_marks, marked}
use Rattle.rulebook.specs.Account.{desks}
use Rattle.rulebook.proofs.Retries.{fresh_linked, linked_run, struck_notice}
use Rattle.books.specs.Layout.{least_words, room_of}
use Rattle.books.specs.View.{view}
use Rattle.store.specs.Making.{made_words}
use Rattle.calls.specs.Calling.{said_by, recorded, closed}
use Rattle.promises.specs.Day.{Call, Gate, lines, Ample, after, left, Reply, reply, replies, sheet, is_kind, shown, unsent, tells, Closes, heard, rest, rest_replies, struck_after, FirstAttempt}
use Rattle.promises.proofs.Showing.{shows, open_shown}
use Rattle.promises.proofs.Striking.{request_said, notice_said, opening_said}
use Rattle.promises.proofs.Carrying.{all_booked, all_answered, after_is, struck_booked}
use Rattle.promises.proofs.Attempts.{records, opened_same, struck_record, first_attempt}
use Rattle.promises.proofs.Closing.{closes, closed_again}
use Rattle.promises.proofs.Fresh.{all_answer, made_is, day_ok, memory_is, replies_is, same_memory, same_replies, rest_says, rest_tells, day_fair, next_shown}

-- What a call is replied goes by the calls before it: `reply G (left G m cs) c` is the reply to c in every day that begins with cs and goes on with c.
pub one_by_one : (G : Gate) (m : List ℕ) (cs ds : List Call) → replies G m (cs ++ ds) ≡ replies G m cs ++ replies G (left G m cs) ds
one_by_one G m [] ds = refl
one_by_one G m (c ∷ cs) ds = ap (λ rs. reply G m c ∷ rs) (one_by_one G (after G m c) cs ds)

module _ (m : List ℕ) (long : least_words ≤ length m) where
  -- No step of a day is answered 22, nor 21: each returns its answer line.
  pub never_refused : (cs : List Call) → Ample cs → All (λ (r : Reply). r.number ≡ 0) (replies recorded (made_words m) cs)
  never_refused cs a = subst (All (λ (r : Reply). r.number ≡ 0)) (sym (replies_is m long cs a)) (all_answer (view (made_words m)) (lines cs))

  -- The first O passes, and no other does: the lines since the first O are those since opening.
  pub opening : (cs : List Call) (c : Call) → Ample (c ∷ cs) → is_kind "O" c.line ≡ true →
      shown (reply recorded (left recorded (made_words m) cs) c).answer ≡ cond (is_none (foldl heard none (lines cs))) (record { outcome = code "P"; number = 0; sent = 0 }) (record { outcome = code "R"; number = 2; sent = 0 })
  opening cs c a k = let b = fresh_books (room_of m) in
      next_shown m long cs a.1 c a.0 open_day (opening_said (said_by c.line) k)
      ∙ open_shown (run b (records cs)) (is_none (foldl heard none (lines cs))) ((linked_run no_marks b (fresh_linked (room_of m)) (records cs)).opened ∙ opened_same cs)

  -- The lines that are left, run alone with whatever buffers, get the same answer lines, byte for byte, and leave the same memory, word for word.
  pub rest_alone : (cs ds : List Call) → Ample cs → Ample ds → lines ds ≡ rest (lines cs) →
      (replies recorded (made_words m) ds ≡ rest_replies (replies recorded (made_words m) cs)) × (left recorded (made_words m) ds ≡ left recorded (made_words m) cs)
  rest_alone cs ds a b e = (
    replies_is m long ds b ∙ ap (all_answered (view (made_words m))) e ∙ sym (same_replies m long cs a),
    memory_is m long ds b ∙ ap (all_booked (made_words m)) e ∙ sym (same_memory m long cs a),
  )

  -- What is struck changes no word.
  pub struck_unchanged : (cs : List Call) (c : Call) → Ample (c ∷ cs) → struck_after (lines cs) c.line ≡ true → after recorded (left recorded (made_words m) cs) c ≡ left recorded (made_words m) cs
  struck_unchanged cs c a s = after_is (left recorded (made_words m) cs) c a.0 (day_ok m long cs a.1) ∙ struck_booked (foldl heard none (lines cs)) (left recorded (made_words m) cs) (day_fair m long cs a.1) c.line s

  -- A struck request has a first attempt, and its answer line has that attempt's outcome and number, and 0 sent.
  pub retried : (cs : List Call) (c : Call) → Ample (c ∷ cs) → is_kind "NMCBR" c.line ≡ true → struck_after (lines cs) c.line ≡ true →
      (f : FirstAttempt c.line cs) × (shown (reply recorded (left recorded (made_words m) cs) c).answer ≡ unsent (shown (reply recorded (left recorded (made_words m) f.before) f.call).answer))
  retried cs c a k s =
      let (r, q) = request_said (said_by c.line) k in
      let (f, v) = first_attempt (room_of m) cs c.line r q s in
      let b = all_parts (λ (c : Call). 32 ≤ length c.buffer) f.before (f.call ∷ f.between) (subst Ample f.parted a.1) in
      let then = next_shown m long f.before b.0 f.call b.1.0 (ask r) (ap said_by f.same ∙ q) in
      (f, next_shown m long cs a.1 c a.0 (ask r) q ∙ ap (λ (v : Verdict). shows v.answer) v ∙ sym (ap unsent then))

  -- A struck notice is seen.
  pub seen : (cs : List Call) (c : Call) → Ample (c ∷ cs) → is_kind "QFDH" c.line ≡ true → struck_after (lines cs) c.line ≡ true →
      shown (reply recorded (left recorded (made_words m) cs) c).answer ≡ record { outcome = code "S"; number = 0; sent = 0 }
  seen cs c a k s =
      let (n, w, q) = notice_said (said_by c.line) k in
      let struck_too = ap (day.struck (marked (records cs))) (sym q) ∙ sym (struck_record cs c.line) ∙ s in
      next_shown m long cs a.1 c a.0 (tell n w) q ∙ ap (λ (v : Verdict). shows v.answer) (struck_notice (room_of m) (records cs) n w struck_too)

  -- Each desk that the struck list lists, in its order, has a closing line, and that line shows the desk's four sums: over what is left of the orders
  -- passed and over the fills booked in that list, worked out from its lines and answer lines. No other place has one.
  pub closing_sums : (cs : List Call) → Ample cs → (place : ℕ) (b : List ℕ) → 96 ≤ length b →
      let h = tells (rest_replies (replies recorded (made_words m) cs)) in Closes (get_elem? (desks h) place) h (sheet (left recorded (made_words m) cs) place b)
  closing_sums cs a place b l = subst (λ h. Closes (get_elem? (desks h) place) h (sheet (left recorded (made_words m) cs) place b)) (sym (rest_tells m long cs a))
      (closes (left recorded (made_words m) cs) place b l (day_ok m long cs a) (room_of m) (map said_by (rest (lines cs))) (rest_says m long cs a))

-- Two days with one room that strike to one list, setup included, end with the same memory, and with the same closing lines.
pub alike : (m n : List ℕ) → least_words ≤ length m → length m ≡ length n → (cs ds : List Call) → Ample cs → Ample ds → rest (lines cs) ≡ rest (lines ds) →
    (left recorded (made_words m) cs ≡ left recorded (made_words n) ds) × ((place : ℕ) (b : List ℕ) → closed (left recorded (made_words m) cs) place b ≡ closed (left recorded (made_words n) ds) place b)
alike m n long e cs ds a b q =
    let long_too : least_words ≤ length n = subst (λ k. least_words ≤ k) e long in
    let p : made_words m ≡ made_words n = made_is m long ∙ ap (λ k. replicate k 0) e ∙ sym (made_is n long_too) in
    let s : left recorded (made_words m) cs ≡ left recorded (made_words n) ds = same_memory m long cs a ∙ (λ i. all_booked (p i) (q i)) ∙ sym (same_memory n long_too ds b) in
    (s, λ place b. ap (λ k. closed k place b) s)

-- A closing line that is asked for twice is the same, and the buffer stays as the first call left it. The call is lent memory to read alone.
pub asked_twice : (m : List ℕ) (place : ℕ) (b : List ℕ) → closed m place (closed m place b).buffer ≡ closed m place b
asked_twice = closed_again
