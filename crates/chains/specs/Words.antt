-- Rows of words in a list, the tests that one begins with the words of another or of a key, a hash of those words, and what a walk along the chain of
-- their slot tells.
use Rattle.std.specs.Prelude.{◌≡◌, ℕ, zero, suc, ◌+◌, ◌*◌, ◌/◌, ◌%◌, ◌^◌, ◌<◌, ◌≤◌, Bool, true, false, not, List, length, nat_eq, nat_le, slice_index, slice_index_or, slice_range, refl}
use Rattle.std.proofs.Math.Path.{sym, ap}
use Rattle.std.proofs.Common.{ap₂, ◌∙◌, arith, mul-le-mul, zero-add}
use Rattle.std.proofs.lemmas.Bool.{false≢true}
use Rattle.std.proofs.Math.Decide.{dec_lt}
use Rattle.std.proofs.lemmas.List.{ext_get_or}
use Rattle.std.proofs.lemmas.List.Edits.{length-between, get_or-between}
use Rattle.std.specs.Cmp.Lexicographic.{pointwise, same_text, other_text}
use borrow.Author.Tests.{eqb-true, eq-eqb, le-leb, lt-leb}
use Rattle.laws.specs.Tests.{on}
use Rattle.laws.specs.Numbered.{least, least_at, least_none, every, every_each, every_yes, every_no, apart, apart_each}
use Rattle.chains.specs.Chain.{fresh, half, slot_of, Alike, Linked, Walked, Met, walk_next, walk_head, Chained, chain_kept}

-- ── rows ──
-- n rows of one width stand one after the other from a word on, and their first words are compared
pub record HasRows (m : List ℕ) (at width words n : ℕ) : Type 0 where
  pub few : n ≤ 65_535
  pub most : words ≤ width
  pub room : at + n * width ≤ length m

-- so many words from a word on are those of another list from another word on
abbrev pub same_words : List ℕ → ℕ → List ℕ → ℕ → ℕ → Bool
same_words m a l b n = every (λ k. nat_eq (slice_index m (a + k)) (slice_index l (b + k))) n

-- the first words of the i-th row are those of the j-th
unfoldable pub same_row : List ℕ → ℕ → ℕ → ℕ → ℕ → ℕ → Bool
same_row m at width words i j = same_words m (at + i * width) m (at + j * width) words

-- the first words of the i-th row are those of a list from a word on
unfoldable pub begins : List ℕ → ℕ → ℕ → List ℕ → ℕ → ℕ → ℕ → Bool
begins m at width l b words i = same_words m (at + i * width) l b words

module _ {m : List ℕ} {at width words n : ℕ} (h : HasRows m at width words n) where
  -- fewer rows are there too
  pub rows_to : (k : ℕ) → k ≤ n → HasRows m at width words k
  rows_to k le = let less : k * width ≤ n * width = mul-le-mul le (omega arith) in record { few = omega (arith, h.few); most = h.most; room = omega (arith, less, h.room) }

  -- and the words of a row are in the list
  pub row_room : (i : ℕ) → i < n → at + i * width + words ≤ length m
  row_room i lt = omega (arith, (rows_to (i + 1) (omega arith)).room, h.most)

-- ── a hash ──
-- the factors of the halves of a word
abbrev low_factor : ℕ
low_factor = 2_246_822_519

abbrev high_factor : ℕ
high_factor = 1_597_334_677

-- one word more into a hash: the halves of their sum, each by its factor
unfoldable pub mixed : ℕ → ℕ → ℕ
mixed h w = (h + w) % 2 ^ 64 % half * low_factor + (h + w) % 2 ^ 64 / half * high_factor

pub halves_fit : {a b : ℕ} → a < half → b < half → a * low_factor + b * high_factor < 2 ^ 64
halves_fit ha hb = omega arith

-- so many words from a word on, mixed one after the other
unfoldable pub blend : List ℕ → ℕ → ℕ → ℕ
blend m b zero = 0
blend m b (suc k) = mixed (blend m b k) (slice_index m (b + k))

-- any function of the words that is below half would do
unfoldable pub hash_words : List ℕ → ℕ → ℕ → ℕ
hash_words m b n = mixed (blend m b n) 0 / half

pub hash_small : (m : List ℕ) (b n : ℕ) → hash_words m b n < half
unfolding hash_words mixed
hash_small m b n = let x = blend m b n + 0 in omega (arith, halves_fit {a = x % 2 ^ 64 % half} {b = x % 2 ^ 64 / half} (omega arith) (omega arith))

-- the hash of a row's first words
unfoldable pub hash_row : List ℕ → ℕ → ℕ → ℕ → ℕ → ℕ
hash_row m at width words i = hash_words m (at + i * width) words

pub row_small : (m : List ℕ) (at width words i : ℕ) → hash_row m at width words i < half
unfolding hash_row
row_small m at width words i = hash_small m (at + i * width) words

same_blend : (m : List ℕ) (a : ℕ) (l : List ℕ) (b n : ℕ) → ((k : ℕ) → k < n → slice_index m (a + k) ≡ slice_index l (b + k)) → blend m a n ≡ blend l b n
unfolding blend
same_blend m a l b zero h = refl
same_blend m a l b (suc k) h = ap₂ mixed (same_blend m a l b k (λ i lt. h i (omega arith))) (h k (omega arith))

-- the same words have one hash
same_hash : (m : List ℕ) (a : ℕ) (l : List ℕ) (b n : ℕ) → ((k : ℕ) → k < n → slice_index m (a + k) ≡ slice_index l (b + k)) → hash_words m a n ≡ hash_words l b n
unfolding hash_words
same_hash m a l b n h = ap (λ (x : ℕ). mixed x 0 / half) (same_blend m a l b n h)

-- the words of a part of a list: they are those from its first on, and have their hash
module _ (m : List ℕ) (b n : ℕ) (room : b + n ≤ length m) where
  part_word : (k : ℕ) → k < n → slice_index (slice_range m b (b + n)) k ≡ slice_index m (b + k)
  part_word k lt = get_or-between m b (b + n) k 0 (omega arith)

  part_length : length (slice_range m b (b + n)) ≡ n
  part_length = length-between m b (b + n) room ∙ omega arith

  pub part_hash : {l : List ℕ} → l ≡ slice_range m b (b + n) → hash_words l 0 (length l) ≡ hash_words m b n
  part_hash e = rw (e, part_length) (same_hash (slice_range m b (b + n)) 0 m b n (λ k lt. simp zero-add (part_word k lt)))

-- two parts are compared by their words
pub parts_same : (m : List ℕ) (a : ℕ) (l : List ℕ) (b n : ℕ) → a + n ≤ length m → b + n ≤ length l → pointwise nat_eq (slice_range m a (a + n)) (slice_range l b (b + n)) ≡ same_words m a l b n
parts_same m a l b n p q = let x = slice_range m a (a + n) in let y = slice_range l b (b + n) in
    on (λ t. pointwise nat_eq x y ≡ t → t ≡ same_words m a l b n) (pointwise nat_eq x y)
    (λ z e. sym (every_yes _ n (λ k lt. eq-eqb _ _ (sym (part_word m a n p k lt) ∙ ap (λ t. slice_index t k) (same_text x y (sym e)) ∙ part_word l b n q k lt))))
    (λ z e. on (λ t. same_words m a l b n ≡ t → false ≡ t) (same_words m a l b n)
    (λ z h. absurd (other_text x y (sym e) (ext_get_or 0 x y (part_length m a n p ∙ sym (part_length l b n q))
    (λ k lt. let less : k < n = omega (arith, part_length m a n p) in part_word m a n p k less ∙ eqb-true _ _ (every_each _ n h k less) ∙ sym (part_word l b n q k less)))))
    (λ z h. refl) refl) refl

-- and so has a row that begins with them
pub begins_alike : (m : List ℕ) (at width : ℕ) (l : List ℕ) (b words : ℕ) → Alike (hash_row m at width words) (begins m at width l b words) (hash_words l b words)
unfolding begins hash_row
begins_alike m at width l b words i e = same_hash m _ l b words (λ k lt. eqb-true _ _ (every_each _ words e k lt))

-- ── rows found by the chains of their slots ──
-- the link of the slot of a list's words
unfoldable pub latest_of : List ℕ → List ℕ → ℕ
latest_of l head = slice_index head (slot_of (length head) (hash_words l 0 (length l)))

-- a walk to the row that begins with them starts there
pub walk_latest : (m : List ℕ) (at width : ℕ) (l : List ℕ) {head next : List ℕ} {n : ℕ} → Chained (hash_row m at width (length l)) head next n →
    Walked (hash_row m at width (length l)) (begins m at width l 0 (length l)) next n (latest_of l head)
unfolding latest_of
walk_latest m at width l c = walk_head (hash_small l 0 (length l)) (begins_alike m at width l 0 (length l)) c

module _ (m : List ℕ) (at width words : ℕ) where
  -- the link of the j-th row, for a walk to an earlier row with its words
  pub walk_fresh : {next : List ℕ} {j : ℕ} → Linked (hash_row m at width words) next j → Walked (hash_row m at width words) (begins m at width m (at + j * width) words) next j (slice_index next j)
  unfolding hash_row
  walk_fresh l = walk_next (begins_alike m at width m _ words) l

  -- no earlier row has them, or one has
  pub met_fresh : (j : ℕ) {r : ℕ} → Met (begins m at width m (at + j * width) words) j r → nat_le j r ≡ fresh (same_row m at width words) j
  unfolding same_row begins
  met_fresh j {r} w = elim (dec_lt r j) [
    | yes lt ↦ lt-leb j r lt ∙ sym (every_no _ j r lt (ap not (w.passes lt)))
    | no ge ↦ le-leb j r (omega arith) ∙ sym (every_yes _ j (λ i l. ap not (w.none (omega arith) i l)))
  ]

  -- rows that begin with the same words
  both_begin : (l : List ℕ) (b i j : ℕ) → begins m at width l b words i ≡ true → begins m at width l b words j ≡ true → same_row m at width words i j ≡ true
  unfolding same_row begins
  both_begin l b i j e f =
      let word : (i : ℕ) → begins m at width l b words i ≡ true → (k : ℕ) → k < words → slice_index m (at + i * width + k) ≡ slice_index_or l (b + k) 0 = λ i e k lt. eqb-true _ _ (every_each _ words e k lt) in
      every_yes _ words (λ k lt. eq-eqb _ _ (word i e k lt ∙ sym (word j f k lt)))

  -- of rows no two of which do, one that begins with these is the first
  pub met_least : (l : List ℕ) (b n : ℕ) {r : ℕ} → apart (same_row m at width words) n ≡ true → Met (begins m at width l b words) n r → r ≡ least (begins m at width l b words) n
  met_least l b n {r} a w = elim (dec_lt r n) [
    | yes lt ↦ sym (least_at _ n r lt (λ i below. on (λ t. begins m at width l b words i ≡ t → t ≡ false) (begins m at width l b words i)
        (λ z e. absurd (false≢true (sym (apart_each _ n a i r below lt) ∙ both_begin l b i r e (w.passes lt)))) (λ z e. refl) refl) (w.passes lt))
    | no ge ↦ let e : r ≡ n = omega (arith, w.within) in e ∙ sym (least_none _ n (w.none (omega arith)))
  ]

-- the chains of rows are those of rows with the same words in another list
pub rows_kept : (m l : List ℕ) (at width words n : ℕ) {head next : List ℕ} → ((i k : ℕ) → i < n → k < words → slice_index l (at + i * width + k) ≡ slice_index m (at + i * width + k)) →
    Chained (hash_row m at width words) head next n → Chained (hash_row l at width words) head next n
unfolding hash_row
rows_kept m l at width words n h c = chain_kept (λ i lt. same_hash l _ m _ words (λ k less. h i k lt less)) c
