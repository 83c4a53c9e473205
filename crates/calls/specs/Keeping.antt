-- What the public calls keep, and what they write.
use Rattle.std.specs.Prelude.{◌≡◌, true, false, List, ℕ, ◌≤◌, ◌<◌, length, replicate, Result, Ok, IsOk, is_ok}
use Rattle.std.proofs.Math.Path.{refl}
use Rattle.std.proofs.Common.{sym, ap, ◌∙◌, subst, arith, lt-ltb, le-ltb}
use Rattle.std.proofs.Math.Option.{none, some, Option-elim}
use Rattle.std.proofs.Math.Decide.{dec_lt}
use Rattle.laws.specs.Checks.{first}
use Rattle.rulebook.specs.Kept.{Group, tally}
use Rattle.rulebook.specs.Outcomes.{answer_line, closing_line}
use Rattle.rulebook.specs.Day.{step}
use Rattle.fields.specs.Forms.{IsLine}
use Rattle.fields.specs.Out as out
use Rattle.fields.specs.Out.{Left, left, refuses, begun}
use Rattle.fields.specs.Puts.{room}
use Rattle.fields.specs.declared.WriteError.{WriteError}
use Rattle.codec.proofs.Lines.{read_formed}
use Rattle.answers.specs.Lines.{gate_answer, gate_closing}
use Rattle.books.specs.Layout.{least_words}
use Rattle.books.specs.View.{view}
use Rattle.books.specs.Writing.{write}
use Rattle.books.proofs.Judged.{judged}
use Rattle.books.proofs.Kept.{kept}
use Rattle.store.specs.Making.{made_words, fresh_valid}
use Rattle.rules.specs.Testing.{state_ok}
use Rattle.rules.specs.Meaning.{exactly}
use Rattle.calls.specs.Calling.{refusals, wrote, said_by, verdict_on, answer_to, Recorded, record_left, recorded, group_at, closing_left, closing_of, closed}

-- ── a line that has room is written whole ──
module _ (most : ℕ) (cs b after : List ℕ) (w : Result ℕ WriteError) (e : left after w ≡ out.wrote most cs b) (h : (length cs ≤ most) × (most ≤ length b)) where
  wrote_room : left after w ≡ left (begun cs b) (Ok (length cs))
  wrote_room = e ∙ room most cs b h.0 (omega arith)

  pub line_begun : after ≡ begun cs b
  line_begun = ap (λ (x : Left). x.buffer) wrote_room

  line_said : w ≡ Ok (length cs)
  line_said = ap (λ (x : Left). x.said) wrote_room

  pub line_count : (n : ℕ) → w ≡ Ok n → n ≡ length cs
  line_count n q = let said = line_said in cc

  pub is_written : IsOk w
  is_written = ap is_ok line_said

-- ── 21, 22, or neither ──
module _ (least : ℕ) (m b : List ℕ) where
  pub too_short : length b < least → first (refusals least m b) ≡ 21
  unfolding first
  too_short h = rw (lt-ltb (length b) least h) refl

  pub state_bad : least ≤ length b → state_ok m ≡ false → first (refusals least m b) ≡ 22
  unfolding first
  state_bad h e = rw (le-ltb (length b) least h, e) refl

  pub not_refused : least ≤ length b → state_ok m ≡ true → first (refusals least m b) ≡ 0
  unfolding first
  not_refused h e = rw (le-ltb (length b) least h, e) refl

-- ── one record ──
module _ (m l b : List ℕ) where
  -- "21 to 23 are returned and write nothing"
  pub short_buffer : length b < 32 → recorded m l b ≡ record_left (refuses 21) m b
  unfolding recorded
  short_buffer h = rw (too_short 32 m b h) refl

  pub bad_state : 32 ≤ length b → state_ok m ≡ false → recorded m l b ≡ record_left (refuses 22) m b
  unfolding recorded
  bad_state h e = rw (state_bad 32 m b h e) refl

  -- and else the record is judged
  pub judged_line : 32 ≤ length b → state_ok m ≡ true → recorded m l b ≡ record_left (wrote (answer_to m l)) (write (verdict_on m l).edit m) (begun (answer_to m l) b)
  unfolding recorded
  judged_line h e = rw (not_refused 32 m b h e) refl

-- THEOREM. A record leaves a state that meets the state rules, so 22 never follows from the gate's own work
pub state_kept : (m l b : List ℕ) → state_ok m ≡ true → state_ok (recorded m l b).memory ≡ true
state_kept m l b e = elim (dec_lt (length b) 32) [
  | yes h ↦ subst (λ (r : Recorded). state_ok r.memory ≡ true) (sym (short_buffer m l b h)) e
  | no h ↦ subst (λ (r : Recorded). state_ok r.memory ≡ true) (sym (judged_line m l b (omega (arith, h)) e)) ((exactly (write (verdict_on m l).edit m)).1 (kept m ((exactly m).0 e) (said_by l) (read_formed l)))
]

-- and a fresh state meets them
pub fresh_state : (m : List ℕ) → least_words ≤ length m → state_ok (made_words m) ≡ true
unfolding made_words
fresh_state m h = rw (le-ltb (length m) least_words h) ((exactly (replicate (length m) 0)).1 (fresh_valid (length m) h))

-- THEOREM. The words after a record say the books after it
pub books_after : (m l b : List ℕ) → 32 ≤ length b → state_ok m ≡ true → view (recorded m l b).memory ≡ step (view m) (said_by l)
books_after m l b h e = ap (λ (r : Recorded). view r.memory) (judged_line m l b h e) ∙ judged m ((exactly m).0 e) (said_by l)

-- THEOREM. What is written is the rulebook's answer line, and has at most 32 bytes
pub answer_written : (m l : List ℕ) → state_ok m ≡ true → IsLine (answer_line (said_by l) (verdict_on m l).answer) (answer_to m l) × (length (answer_to m l) ≤ 32)
answer_written m l e = gate_answer (view m) l ((exactly m).0 e).sound

-- ── a closing line ──
module _ (m : List ℕ) (i : ℕ) (b : List ℕ) where
  pub closing_short_buffer : length b < 96 → closed m i b ≡ closing_left (refuses 21) b
  unfolding closed
  closing_short_buffer h = rw (too_short 96 m b h) refl

  pub closing_bad_state : 96 ≤ length b → state_ok m ≡ false → closed m i b ≡ closing_left (refuses 22) b
  unfolding closed
  closing_bad_state h e = rw (state_bad 96 m b h e) refl

  -- "then 5 if no group has that place, which here writes nothing"
  pub closing_unlisted : 96 ≤ length b → state_ok m ≡ true → group_at m i ≡ none → closed m i b ≡ closing_left (refuses 5) b
  unfolding closed Option-elim
  closing_unlisted h e q = rw (not_refused 96 m b h e, q) refl

  pub closing_line_of : (g : Group) → 96 ≤ length b → state_ok m ≡ true → group_at m i ≡ some g → closed m i b ≡ closing_left (wrote (closing_of m g)) (begun (closing_of m g) b)
  unfolding closed Option-elim
  closing_line_of g h e q = rw (not_refused 96 m b h e, q) refl

-- THEOREM. What is written is the rulebook's closing line, and has at most 96 bytes
pub closing_written : (m : List ℕ) (i : ℕ) (g : Group) → state_ok m ≡ true → group_at m i ≡ some g → IsLine (closing_line g (tally g (view m).ledger.orders)) (closing_of m g) × (length (closing_of m g) ≤ 96)
closing_written m i g e q = gate_closing (view m) i g ((exactly m).0 e).sound q
