-- Chains of the numbers of one slot, and the laws by which a walk along one finds those that pass a test, or that none does.
-- Of the test and the hash these laws ask `Alike`, and that a hash is below `half`.
use Rattle.std.specs.Prelude.{◌≡◌, ℕ, zero, ◌+◌, ◌-◌, ◌*◌, ◌/◌, ◌^◌, ◌<◌, ◌≤◌, Bool, true, false, not, List, length, replicate, ◌==◌, ◌≢◌, slice_index, slice_set, refl}
use Rattle.std.proofs.Common.{ap, sym, ◌∙◌, arith, mul-le-mul_left, mul-lt-mul_of_pos_right, length-set, get_or-set_same, get_or-set_other, eqb-true}
use Rattle.std.proofs.Math.Decide.{dec_lt}
use Rattle.std.proofs.lemmas.List.{get_or-replicate, length-replicate}
use Rattle.std.proofs.lemmas.Bool.{eqb-false}
use Rattle.laws.specs.Tests.{on}
use Rattle.laws.specs.Numbered.{every, every_yes, every_no, apart}

-- no number before j passes the test with it
abbrev pub fresh : (ℕ → ℕ → Bool) → ℕ → Bool
fresh t j = every (λ i. not (t i j)) j

pub all_fresh : (t : ℕ → ℕ → Bool) (n : ℕ) → ((j : ℕ) → j < n → fresh t j ≡ true) → apart t n ≡ true
unfolding apart
all_fresh t n h = every_yes _ n h

pub one_stale : (t : ℕ → ℕ → Bool) (n j : ℕ) → j < n → fresh t j ≡ false → apart t n ≡ false
unfolding apart
one_stale t n j lt e = every_no _ n j lt e

-- ── links ──
-- one past the largest half of a word, which a hash is
abbrev pub half : ℕ
half = 4_294_967_296

-- the slot of a hash, of d slots
abbrev pub slot_of : ℕ → ℕ → ℕ
slot_of d h = h * d / half

module _ {h d : ℕ} (small : h < half) where
  pub slot_lt : 0 < d → slot_of d h < d
  slot_lt pos = omega (arith, mul-lt-mul_of_pos_right small pos)

  pub slot_fits : d ≤ half → h * d < 2 ^ 64
  slot_fits few = omega (arith, mul-le-mul_left h few)

-- the slot of a number
abbrev pub slot : (ℕ → ℕ) → ℕ → ℕ → ℕ
slot hash d i = slot_of d (hash i)

-- of the numbers below b, q is one past the last of the slot s, or 0
pub record Link (hash : ℕ → ℕ) (d s b q : ℕ) : Type 0 where
  pub below : q ≤ b
  pub skipped : (i : ℕ) → q ≤ i → i < b → slot hash d i ≢ s
  pub on_slot : (i : ℕ) → q ≡ i + 1 → slot hash d i ≡ s

-- each number below j has its link to those before it
abbrev Nexts : (ℕ → ℕ) → ℕ → List ℕ → ℕ → Type 0
Nexts hash d next j = (k : ℕ) → k < j → Link hash d (slot hash d k) k (slice_index next k)

-- and each slot its link to those below j
abbrev Heads : (ℕ → ℕ) → ℕ → List ℕ → ℕ → Type 0
Heads hash d head j = (s : ℕ) → s < d → Link hash d s j (slice_index head s)

-- ── a walk along a chain ──
-- numbers that pass the test have this hash
abbrev pub Alike : (ℕ → ℕ) → (ℕ → Bool) → ℕ → Type 0
Alike hash p h = (i : ℕ) → p i ≡ true → hash i ≡ h

-- it goes by the links of the numbers below n, along the slot of the hash of those that pass, and stands at q: none from q on passes
pub record Walked (hash : ℕ → ℕ) (p : ℕ → Bool) (next : List ℕ) (n q : ℕ) : Type 0 where
  pub slots : ℕ
  pub aim : ℕ
  pub alike : Alike hash p aim
  pub nexts : Nexts hash slots next n
  pub room : n ≤ length next
  pub below : q ≤ n
  pub on_slot : (i : ℕ) → q ≡ i + 1 → slot hash slots i ≡ slot_of slots aim
  pub passed : (i : ℕ) → q ≤ i → i < n → p i ≡ false

-- what it comes to: a number below n that passes, or n where none does
pub record Met (p : ℕ → Bool) (n r : ℕ) : Type 0 where
  pub within : r ≤ n
  pub passes : r < n → p r ≡ true
  pub none : n ≤ r → (i : ℕ) → i < n → p i ≡ false

module _ {hash : ℕ → ℕ} {p : ℕ → Bool} where
  other_slot : {h : ℕ} → Alike hash p h → (d i : ℕ) → (slot hash d i ≢ slot_of d h) → p i ≡ false
  other_slot alike d i ne = on (λ b. p i ≡ b → b ≡ false) (p i) (λ z e. absurd (ne (ap (slot_of d) (alike i e)))) (λ z e. refl) refl

  module _ {next : List ℕ} {n q : ℕ} where
    walk_start : {d h : ℕ} → Alike hash p h → Nexts hash d next n → n ≤ length next → Link hash d (slot_of d h) n q → Walked hash p next n q
    walk_start {d} {h} alike nexts room l =
        record { slots = d; aim = h; alike = alike; nexts = nexts; room = room; below = l.below; on_slot = l.on_slot; passed = λ i le lt. other_slot alike d i (l.skipped i le lt) }

    module _ (w : Walked hash p next n q) where
      -- the link of the number at which it stands
      here : 0 < q → Link hash w.slots (slot hash w.slots (q - 1)) (q - 1) (slice_index next (q - 1))
      here pos = w.nexts (q - 1) (omega arith)

      pub walk_down : 0 < q → slice_index next (q - 1) < q
      walk_down pos = omega (arith, (here pos).below)

      pub walk_step : 0 < q → p (q - 1) ≡ false → Walked hash p next n (slice_index next (q - 1))
      walk_step pos other =
          let l = here pos in
          let e : slot hash w.slots (q - 1) ≡ slot_of w.slots w.aim = w.on_slot (q - 1) (omega arith) in
          record {
            slots = w.slots;
            aim = w.aim;
            alike = w.alike;
            nexts = w.nexts;
            room = w.room;
            below = omega (arith, l.below);
            on_slot = λ i z. l.on_slot i z ∙ e;
            passed = λ i le lt. elim (dec_lt i (q - 1)) [
              | yes a ↦ other_slot w.alike w.slots i (λ h. l.skipped i le a (h ∙ sym e))
              | no na ↦ elim (dec_lt (q - 1) i) [
                | yes a ↦ w.passed i (omega arith) lt
                | no nb ↦ let z : q - 1 ≡ i = omega arith in rw z at other
              ]
            ];
          }

      pub walk_met : 0 < q → p (q - 1) ≡ true → Met p n (q - 1)
      walk_met pos e = record { within = omega arith; passes = λ lt. e; none = λ le. absurd (omega arith) }

      pub walk_end : q ≤ 0 → Met p n n
      walk_end z = record { within = omega arith; passes = λ lt. absurd (omega arith); none = λ le i lt. w.passed i (omega arith) lt }

-- ── the arrays that hold the chains ──
-- long enough for n numbers, and no head is set
pub record Clear (head next : List ℕ) (n : ℕ) : Type 0 where
  pub some : 0 < length head
  pub few : length head ≤ half
  pub long : n ≤ length next
  pub unset : (s : ℕ) → s < length head → slice_index head s ≡ 0

pub clear : (a b n : ℕ) → 0 < a → a ≤ half → n ≤ b → Clear (replicate a 0) (replicate b 0) n
clear a b n pos few le =
    let la : length (replicate {A = ℕ} a 0) ≡ a = length-replicate a zero in
    let lb : length (replicate {A = ℕ} b 0) ≡ b = length-replicate b zero in
    record { some = rw la pos; few = rw la few; long = rw lb le; unset = λ s lt. get_or-replicate a s 0 0 (rw la at lt) }

-- they hold the chains of the numbers below j
pub record Chained (hash : ℕ → ℕ) (head next : List ℕ) (j : ℕ) : Type 0 where
  pub some : 0 < length head
  pub few : length head ≤ half
  pub room : j ≤ length next
  pub heads : Heads hash (length head) head j
  pub nexts : Nexts hash (length head) next j

-- with them a walk can look among the numbers below j
pub walk_head : {hash : ℕ → ℕ} {p : ℕ → Bool} {h : ℕ} {head next : List ℕ} {j : ℕ} → h < half → Alike hash p h → Chained hash head next j → Walked hash p next j (slice_index head (slot_of (length head) h))
walk_head {h = h} {head} small alike c = walk_start alike c.nexts c.room (c.heads (slot_of (length head) h) (slot_lt small c.some))

-- the links of the j-th number and those before it, by which a walk looks among those before it
pub record Linked (hash : ℕ → ℕ) (next : List ℕ) (j : ℕ) : Type 0 where
  pub slots : ℕ
  pub nexts : Nexts hash slots next (j + 1)
  pub room : j < length next

pub linked : {hash : ℕ → ℕ} {head next : List ℕ} {j : ℕ} → Chained hash head next (j + 1) → Linked hash next j
linked {head = head} c = record { slots = length head; nexts = c.nexts; room = omega (arith, c.room) }

pub walk_next : {hash : ℕ → ℕ} {p : ℕ → Bool} {next : List ℕ} {j : ℕ} → Alike hash p (hash j) → Linked hash next j → Walked hash p next j (slice_index next j)
walk_next {j = j} alike l = walk_start alike (λ k lt. l.nexts k (omega arith)) (omega (arith, l.room)) (l.nexts j (omega arith))

-- no number
pub chain_none : {hash : ℕ → ℕ} {head next : List ℕ} {n : ℕ} → Clear head next n → Chained hash head next 0
chain_none c = record {
  some = c.some;
  few = c.few;
  room = omega arith;
  heads = λ s lt. rw (c.unset s lt) (record { below = omega arith; skipped = λ i a b. absurd (omega arith); on_slot = λ i a. absurd (omega arith) });
  nexts = λ k lt. absurd (omega arith);
}

-- another hash that is the same of each number below j
module _ {hash other : ℕ → ℕ} {head next : List ℕ} {j : ℕ} (same : (i : ℕ) → i < j → other i ≡ hash i) (c : Chained hash head next j) where
  link_kept : {d s b q : ℕ} → b ≤ j → Link hash d s b q → Link other d s b q
  link_kept {d} {b = b} le l =
      let slot_kept : (i : ℕ) → i < j → slot other d i ≡ slot hash d i = λ i lt. ap (slot_of d) (same i lt) in
      record { below = l.below; skipped = λ i a lt e. l.skipped i a lt (sym (slot_kept i (omega arith)) ∙ e); on_slot = λ i a. slot_kept i (omega (arith, l.below)) ∙ l.on_slot i a }

  pub chain_kept : Chained other head next j
  chain_kept = record {
    some = c.some;
    few = c.few;
    room = c.room;
    heads = λ s lt. link_kept (omega arith) (c.heads s lt);
    nexts = λ k lt. rw (same k lt) (link_kept (omega arith) (c.nexts k lt));
  }

-- one number more, of the slot s: its link is the slot's head, and it is the head
module _ {hash : ℕ → ℕ} {head next : List ℕ} {j s : ℕ} (small : hash j < half) (e : s ≡ slot hash (length head) j) (h : Chained hash head next j) where
  chain_slot : s < length head
  chain_slot = rw e (slot_lt small h.some)

  module _ (room : j < length next) where
    abbrev d : ℕ
    d = length head

    nexts_more : Nexts hash d (slice_set next j (slice_index head s)) (j + 1)
    nexts_more k lt = elim (dec_lt k j) [
      | yes p ↦ rw (get_or-set_other next j k (slice_index head s) 0 (λ z. omega arith)) (h.nexts k p)
      | no np ↦ let y : k ≡ j = omega arith in rw (y, get_or-set_same next j (slice_index head s) 0 room, e) (h.heads (slot hash d j) (slot_lt small h.some))
    ]

    heads_more : Heads hash d (slice_set head s (j + 1)) (j + 1)
    heads_more k lt = on (λ b. (k == s) ≡ b → Link hash d k (j + 1) (slice_index (slice_set head s (j + 1)) k)) (k == s)
        (λ z q. rw (eqb-true k s q, get_or-set_same head s (j + 1) 0 chain_slot)
        (record { below = omega arith; skipped = λ i a b. absurd (omega arith); on_slot = λ i a. let y : i ≡ j = omega arith in ap (slot hash d) y ∙ sym e }))
        (λ z q. let ne : (k ≢ s) = eqb-false k s q in
        let l = h.heads k lt in
        rw (get_or-set_other head s k (j + 1) 0 ne)
        (record {
          below = omega arith;
          skipped = λ i a b r. elim (dec_lt i j) [
            | yes p ↦ l.skipped i a p r
            | no np ↦ let y : j ≡ i = omega arith in ne (sym (e ∙ ap (slot hash d) y ∙ r))
          ];
          on_slot = l.on_slot;
        })) refl

    pub chain_more : Chained hash (slice_set head s (j + 1)) (slice_set next j (slice_index head s)) (j + 1)
    chain_more =
        let same : length (slice_set head s (j + 1)) ≡ d = length-set head s (j + 1) in
        record { some = rw same h.some; few = rw same h.few; room = simp length-set (omega arith); heads = rw same heads_more; nexts = rw same nexts_more }
