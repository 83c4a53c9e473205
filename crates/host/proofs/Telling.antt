-- What a call says, told as one number: that it fits an i64, and that it is what the call below says.
use Rattle.std.specs.Prelude.{◌≡◌, refl, Bool, true, cond, List, [], ℕ, zero, suc, ◌+◌, ◌*◌, ◌≤◌, ◌<◌, ◌^◌, pos, negsuc, length, ltb, Result, Ok, Err}
use Rattle.std.proofs.Common.{sym, ap, subst, arith}
use Rattle.std.proofs.Math.Bool.{false}
use Rattle.std.proofs.Math.Decide.{dec_lt}
use Rattle.std.proofs.Math.Dec.{eqb}
use borrow.Author.Tests.{lt-ltb, le-ltb, ne_eqb}
use Rattle.laws.specs.Tests.{on, opt, split}
use Rattle.laws.specs.Checks.{first, first_then}
use Rattle.books.specs.Layout.{least_words, place_words, room_for}
use Rattle.rules.specs.Testing.{state_ok}
use Rattle.lines.specs.Splitting.{whole}
use Rattle.fields.specs.Out.{Said, refuses, begun}
use Rattle.calls.specs.Calling.{wrote, answer_said, closing_said, answer_to, Recorded, record_left, recorded, Closing, closing_left, closing_of, closed, group_at}
use Rattle.calls.specs.Keeping.{short_buffer, bad_state, judged_line, answer_written, closing_short_buffer, closing_bad_state, closing_unlisted, closing_line_of, closing_written}
use Rattle.calls.specs.Blocks.{Block, blocked, took, block_left}
use Rattle.calls.specs.Taking.{block_short, block_bad, block_judged, ran, written_within}
use Rattle.calls.specs.declared.CallError.{CallError}
use Rattle.calls.specs.declared.ClosingError.{ClosingError}
use Rattle.calls.specs.declared.Taken.{Taken}
use Rattle.meo.specs.Messages.{Heard, sent_said, write_checks, write_said, read_checks, read_number, found_said, read_said}
use Rattle.meo.proofs.Orders.{read_order}
use Rattle.meo.specs.declared.NewOrder.{NewOrder}
use Rattle.meo.specs.declared.ReadError.{ReadError}
use Rattle.host.specs.Exporting.{told, heard, block_said, taken_told, state_said, words_for, order_words, read_refusals, read_told, read_left}

-- a refusal is heard
refused_heard : (n : ℕ) → heard (told (refuses n)) ≡ refuses n
refused_heard zero = refl
refused_heard (suc n) = rw (ne_eqb (suc n) 0 (λ e. omega arith)) refl

-- ── the words of a room ──
-- THEOREM. So many words have room for so many places, and fewer words have not
pub words_room : (p : ℕ) → p ≤ 65_535 → room_for (words_for p) ≡ p
unfolding words_for room_for
words_room p h = rw (le-ltb 65_535 p h) (omega arith)

pub words_least : (p n : ℕ) → 0 < p → p ≤ 65_535 → n < words_for p → room_for n < p
unfolding words_for room_for
words_least p n z h lt = let k : n < least_words + p * place_words = subst (λ t. n < cond t 0 (least_words + p * place_words)) (le-ltb 65_535 p h) lt in omega (arith, k)

-- ── the state ──
pub state_told : (m : List ℕ) (t : Bool) → state_ok m ≡ t → cond t (pos 0) (negsuc 21) ≡ told (state_said m)
unfolding first
state_told m true e = rw e refl
state_told m false e = rw e refl

-- ── a record ──
-- what a record is answered: a refusal, or a line of at most 32 bytes
record_said : (m l b : List ℕ) (P : Said → Type 0) → ((n : ℕ) → P (refuses n)) → ((cs : List ℕ) → length cs ≤ 32 → P (wrote cs)) → P (recorded m l b).said
record_said m l b P refused line = elim (dec_lt (length b) 32) [
  | yes h ↦ by_case (short_buffer m l b h) (refused 21)
  | no h ↦ on (λ t. state_ok m ≡ t → P (recorded m l b).said) (state_ok m)
      (λ z e. by_case (judged_line m l b (omega (arith, h)) e) (line (answer_to m l) (answer_written m l e).1)) (λ z e. by_case (bad_state m l b (omega (arith, h)) e) (refused 22)) refl
]
  where
    by_case : {r : Recorded} → recorded m l b ≡ r → P r.said → P (recorded m l b).said
    by_case q = subst (λ (r : Recorded). P r.said) (sym q)

-- THEOREM. The number tells all that the call says
pub record_heard : (m l b : List ℕ) → heard (told (recorded m l b).said) ≡ (recorded m l b).said
record_heard m l b = record_said m l b (λ x. heard (told x) ≡ x) refused_heard (λ cs h. refl)

-- its answer told, and what it leaves
module _ (m l b : List ℕ) {m' b' : List ℕ} (x : Result ℕ CallError) (p : record_left (answer_said x) m' b' ≡ recorded m l b) where
  pub record_told : (told (answer_said x) ≡ told (recorded m l b).said) × ((m' ≡ (recorded m l b).memory) × (b' ≡ (recorded m l b).buffer))
  record_told = (ap (λ (r : Recorded). told r.said) p, (ap (λ (r : Recorded). r.memory) p, ap (λ (r : Recorded). r.buffer) p))

  pub record_fits : (answer_said x).bytes < 2 ^ 63
  record_fits = let e : (answer_said x).bytes ≡ (recorded m l b).said.bytes = ap (λ (r : Recorded). r.said.bytes) p in omega (arith, e, record_said m l b (λ x. x.bytes ≤ 32) (λ n. omega arith) (λ cs h. h))

-- ── a block ──
-- THEOREM. The number tells what a block is refused by, or how much it wrote
pub block_heard : (m l b : List ℕ) → heard (told (block_said (blocked m l b))) ≡ block_said (blocked m l b)
block_heard m l b = elim (dec_lt (length b) 32) [
  | yes h ↦ rw (block_short m (whole [] l) b h) refl
  | no h ↦ let room : 32 ≤ length b = omega (arith, h) in
      on (λ t. state_ok m ≡ t → heard (told (block_said (blocked m l b))) ≡ block_said (blocked m l b)) (state_ok m)
      (λ z e. rw (block_judged m (whole [] l) b room e, (ran m e (whole [] l) b).number) refl) (λ z e. rw (block_bad m (whole [] l) b room e) refl) refl
]

-- its answer told, what it leaves, and that it fits
module _ (m l b : List ℕ) {m' b' : List ℕ} (x : Result Taken CallError) (p : block_left (took x) m' b' ≡ blocked m l b) where
  pub block_told : (ws : List ℕ) → let t = blocked m l b in
      (told (block_said (block_left (took x) m' b')) ≡ told (block_said t)) × ((m' ≡ t.memory) × ((b' ≡ t.buffer) × (taken_told (block_left (took x) m' b') ws ≡ taken_told t ws)))
  block_told ws = (ap (λ (t : Block). told (block_said t)) p, (ap (λ (t : Block). t.memory) p, (ap (λ (t : Block). t.buffer) p, ap (λ (t : Block). taken_told t ws) p)))

  pub block_fits : (took x).written ≤ length b
  block_fits = subst (λ (t : Block). t.written ≤ length b) (sym p) (written_within m l b)

-- ── a closing line ──
-- a refusal, or a line of at most 96 bytes
closing_said_by : (m : List ℕ) (i : ℕ) (b : List ℕ) (P : Said → Type 0) → ((n : ℕ) → P (refuses n)) → ((cs : List ℕ) → length cs ≤ 96 → P (wrote cs)) → P (closed m i b).said
closing_said_by m i b P refused line = elim (dec_lt (length b) 96) [
  | yes h ↦ by_case (closing_short_buffer m i b h) (refused 21)
  | no h ↦ on (λ t. state_ok m ≡ t → P (closed m i b).said) (state_ok m)
      (λ z e. opt (λ o. group_at m i ≡ o → P (closed m i b).said) (group_at m i)
      (λ z q. by_case (closing_unlisted m i b (omega (arith, h)) e q) (refused 5))
      (λ g z q. by_case (closing_line_of m i b g (omega (arith, h)) e q) (line (closing_of m g) (closing_written m i g e q).1)) refl)
      (λ z e. by_case (closing_bad_state m i b (omega (arith, h)) e) (refused 22)) refl
]
  where
    by_case : {r : Closing} → closed m i b ≡ r → P r.said → P (closed m i b).said
    by_case q = subst (λ (r : Closing). P r.said) (sym q)

-- THEOREM. The number tells all that the call says
pub closing_heard : (m : List ℕ) (i : ℕ) (b : List ℕ) → heard (told (closed m i b).said) ≡ (closed m i b).said
closing_heard m i b = closing_said_by m i b (λ x. heard (told x) ≡ x) refused_heard (λ cs h. refl)

module _ (m : List ℕ) (i : ℕ) (b : List ℕ) {b' : List ℕ} (x : Result ℕ ClosingError) (p : closing_left (closing_said x) b' ≡ closed m i b) where
  pub closing_told : (told (closing_said x) ≡ told (closed m i b).said) × (b' ≡ (closed m i b).buffer)
  closing_told = (ap (λ (r : Closing). told r.said) p, ap (λ (r : Closing). r.buffer) p)

  pub closing_fits : (closing_said x).bytes < 2 ^ 63
  closing_fits = let e : (closing_said x).bytes ≡ (closed m i b).said.bytes = ap (λ (r : Closing). r.said.bytes) p in omega (arith, e, closing_said_by m i b (λ x. x.bytes ≤ 96) (λ n. omega arith) (λ cs h. h))

-- ── an order message ──
-- THEOREM. The number tells all that the calls say
pub order_write_heard : (l : List ℕ) (n : NewOrder) (h b : List ℕ) → heard (told (write_said l n h b)) ≡ write_said l n h b
unfolding write_said
order_write_heard l n h b = let k = first (write_checks l n h b) in split (λ (x : Said). heard (told x) ≡ x) (eqb k 0) (sent_said (Ok tt)) (refuses k) (λ e. refl) (λ e. refused_heard k)

pub order_read_heard : (m b : List ℕ) → heard (told (read_told m b)) ≡ read_told m b
unfolding read_told
order_read_heard m b = let k = first (read_refusals m b) in split (λ (x : Said). heard (told x) ≡ x) (eqb k 0) (record { number = 0; bytes = 8 }) (refuses k) (λ e. refl) (λ e. refused_heard k)

refusal : (m b : List ℕ) → first (read_refusals m b) ≡ cond (eqb (read_said m).number 0) (cond (ltb (length b) 8) 43 0) (read_said m).number
unfolding read_said
refusal m b = first_then (read_checks m) (ltb (length b) 8) 43 refl

module _ (m b : List ℕ) where
  pub order_refused : (why : ReadError) → read_said m ≡ found_said (Err why) → (told (refuses (read_number why)) ≡ told (read_told m b)) × (b ≡ read_left m b)
  unfolding read_told read_left
  order_refused ReadError.BadMessage q = let e = ap (λ (x : Heard). x.number) q in (rw (refusal m b, e), rw (refusal m b, e))
  order_refused ReadError.BadOrder q = let e = ap (λ (x : Heard). x.number) q in (rw (refusal m b, e), rw (refusal m b, e))

  module _ (n : NewOrder) (e : read_said m ≡ found_said (Ok n)) where
    pub order_short : length b < 8 → (told (refuses 43) ≡ told (read_told m b)) × (b ≡ read_left m b)
    unfolding read_told read_left
    order_short h = let z = (read_order m n e).0 in (rw (refusal m b, z, lt-ltb (length b) 8 h), rw (refusal m b, z, lt-ltb (length b) 8 h))

    pub order_told : 8 ≤ length b → (pos 8 ≡ told (read_told m b)) × (begun (order_words n) b ≡ read_left m b)
    unfolding read_told read_left
    order_told h = let z = read_order m n e in (rw (refusal m b, z.0, le-ltb (length b) 8 h), rw (refusal m b, z.0, le-ltb (length b) 8 h, ← z.1))
