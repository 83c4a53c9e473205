-- The bytes of a word tested all together: bits of sums say of each byte how large it is.
use Rattle.std.specs.Prelude.{◌≡◌, refl, Bool, true, false, cond, List, [], ◌∷◌, ℕ, zero, suc, ◌+◌, ◌*◌, ◌/◌, ◌%◌, ◌^◌, ◌≤◌, ◌<◌, eqb}
use Rattle.std.proofs.Common.{sym, ap₂, ◌∙◌, arith, ne_eqb, le-leb, eqb-true}
use Rattle.std.proofs.Math.Nat.{pow-succ'}
use Rattle.std.specs.Int.Bits.{bit_and, and_zero_r}
use Rattle.std.proofs.lemmas.Nat.{and_block, and_le_l}
use Rattle.std.proofs.lemmas.Nat.Bits.{and_high}
use Rattle.std.proofs.lemmas.Bool.{eqb-false, not-true}
use Rattle.laws.specs.Tests.{on, both}
use Rattle.laws.specs.Tables.{All, all_map}
use Rattle.rulebook.specs.Lines.{identifier}
use Rattle.rulebook.proofs.Cases.{in_range}
use Rattle.fields.specs.Parts.{unnamed, takes, every}
use Rattle.packing.specs.Words.{spelt, row, marked}

-- the same byte so many times, as a word
unfoldable pub times : ℕ → ℕ → ℕ
times zero b = 0
times (suc n) b = b + 256 * times n b

-- where no byte's sum passes 255, the word's sum is a word
pub sum_fits : (k n w : ℕ) → w < 256 ^ n → All (λ b. b + k < 256) (row n w) → w + k * times n 1 < 256 ^ n
unfolding row times
sum_fits k zero w h a = omega arith
sum_fits k (suc n) w h a = let p = pow-succ' 256 n in omega (arith, a.0, sum_fits k n (w / 256) (omega arith) a.1)

-- THEOREM. There the highest bits of the bytes of the word's sum are those of the bytes' sums
pub marked_together : (k n w : ℕ) → w < 256 ^ n → All (λ b. b + k < 256) (row n w) → bit_and (w + k * times n 1) (times n 128) ≡ marked k (row n w)
unfolding row times marked
marked_together k zero w h a = and_zero_r (w + k * 0)
marked_together k (suc n) w h a =
    let p = pow-succ' 256 n in
    let v = w / 256 + k * times n 1 in
    let b = w % 256 + k in
    let e : w + k * (1 + 256 * times n 1) ≡ v * 2 ^ 8 + b = omega arith in
    let f : 128 + 256 * times n 128 ≡ times n 128 * 2 ^ 8 + 128 = omega arith in
    let u : b / 128 % 2 ≡ b / 128 = omega (arith, a.0) in
    ap₂ bit_and e f ∙ and_block 8 v (times n 128) b 128 a.0 (omega arith)
    ∙ rw (marked_together k n (w / 256) (omega arith) a.1, and_high b 1 7, u) (omega arith)

-- ── what the bits say of the bytes ──
-- a byte of a word is at most 255, and a byte below 128 may have as much as 128 added
pub row_room : (n w : ℕ) → All (λ b. b + 0 < 256) (row n w)
unfolding row
row_room zero w = tt
row_room (suc n) w = (omega arith, row_room n (w / 256))

pub low_bytes : (bs : List ℕ) → marked 0 bs ≡ 0 → All (λ b. b < 128) bs
unfolding marked
low_bytes [] e = tt
low_bytes (b ∷ bs) e = (omega arith, low_bytes bs (omega arith))

pub low_room : (k : ℕ) (bs : List ℕ) → k ≤ 128 → All (λ b. b < 128) bs → All (λ b. b + k < 256) bs
low_room k bs h = all_map (λ b. b < 128) (λ b. b + k < 256) (λ b l. omega arith) bs

-- a byte of an identifier
abbrev good : ℕ → Bool
good = takes (identifier unnamed)

-- what the bits say of the bytes of a word that are all an identifier's up to the last that is not 0
pub record Told (bs : List ℕ) : Type 0 where
  pub low : marked 0 bs ≡ 0
  pub most : marked 1 bs ≡ 0
  pub least : marked 127 bs ≡ marked 95 bs
  pub joined : bit_and (marked 127 bs / 256) (marked 127 bs) ≡ marked 127 bs / 256
  pub other : marked 4 bs ≡ marked 3 bs

-- ── the bits that a word has in common with itself one byte higher ──
common : (m t : ℕ) → t < 256 → bit_and m (t + 256 * m) ≡ bit_and (m / 256) m * 256 + bit_and (m % 256) t
common m t h =
    let e : m ≡ m / 256 * 2 ^ 8 + m % 256 = omega arith in
    let f : t + 256 * m ≡ m * 2 ^ 8 + t = omega arith in
    ap₂ bit_and e f ∙ and_block 8 (m / 256) m (m % 256) t (omega arith) h

-- a word has all its bits there only if it is 0, where nothing is put below
none_common : (n m : ℕ) → m < 256 ^ n → bit_and m (0 + 256 * m) ≡ m → m ≡ 0
none_common zero m h e = omega arith
none_common (suc n) m h e =
    let p = pow-succ' 256 n in
    let c = sym (common m 0 (omega arith)) ∙ e in
    let z = and_zero_r (m % 256) in
    let f : 0 + 256 * (m / 256) ≡ m = omega arith in
    let g : bit_and (m / 256) m ≡ m / 256 = omega arith in
    let r = none_common n (m / 256) (omega arith) (rw f g) in
    omega arith

-- the lowest byte of the highest bits has its own highest bit or none
one_bit : (k : ℕ) (bs : List ℕ) → All (λ b. b + k < 256) bs → marked k bs % 256 / 128 % 2 * 128 ≡ marked k bs % 256
unfolding marked
one_bit k [] a = refl
one_bit k (b ∷ bs) a = let l = a.0 in omega arith

marked_below : (k n w : ℕ) → All (λ b. b + k < 256) (row n w) → marked k (row n w) < 256 ^ n
unfolding marked row
marked_below k zero w a = omega arith
marked_below k (suc n) w a = let l = a.0 in omega (arith, pow-succ' 256 n, marked_below k n (w / 256) a.1)

-- ── the bytes of 0, which no other word has ──
zeros_marked : (k n : ℕ) → k < 128 → marked k (row n 0) ≡ 0
unfolding marked row
zeros_marked k zero h = refl
zeros_marked k (suc n) h = omega (arith, zeros_marked k n h)

zeros_only : (n w : ℕ) → w < 256 ^ n → marked 127 (row n w) ≡ 0 → w ≡ 0
unfolding marked row
zeros_only zero w h e = omega arith
zeros_only (suc n) w h e = omega (arith, pow-succ' 256 n, zeros_only n (w / 256) (omega (arith, pow-succ' 256 n)) (omega arith))

zeros_told : (n : ℕ) → Told (row n 0)
zeros_told n =
    let z = zeros_marked 127 n (omega arith) in
    record { low = zeros_marked 0 n (omega arith); most = zeros_marked 1 n (omega arith); least = z ∙ sym (zeros_marked 95 n (omega arith)); joined = rw z; other = zeros_marked 4 n (omega arith) ∙ sym (zeros_marked 3 n (omega arith)) }

-- ── the bits say so exactly of an identifier's bytes ──
more_told : (b : ℕ) (bs : List ℕ) → good b ≡ true → Told bs → Told (b ∷ bs)
unfolding marked
more_told b bs e t =
    let g = both e in
    let r = in_range 33 126 b g.0 in
    let n = eqb-false b 124 (not-true _ g.1) in
    let m = marked 127 bs in
    let x : (b + 127) / 128 * 128 + 256 * m ≡ 128 + 256 * m = omega (arith, r) in
    let d : (128 + 256 * m) / 256 ≡ m = omega arith in
    let o = one_bit 127 bs (low_room 127 bs (omega arith) (low_bytes bs t.low)) in
    let c = common m 128 (omega arith) in
    let h = and_high (m % 256) 1 7 in
    let j : bit_and m (128 + 256 * m) ≡ m = omega (arith, t.joined, o, c, h) in
    record { low = omega (arith, r, t.low); most = omega (arith, r, t.most); least = omega (arith, r, t.least); joined = rw (x, d) j; other = omega (arith, r, n, t.other) }

good_told : (n w : ℕ) → every good (spelt n w) ≡ true → Told (row n w)
unfolding every spelt row
good_told zero w = λ e. zeros_told 0
good_told (suc n) w = on (λ b. eqb w 0 ≡ b → every good (cond b [] (w % 256 ∷ spelt n (w / 256))) ≡ true → Told (row (suc n) w)) (eqb w 0)
    (λ e q k. rw (eqb-true w 0 q) (zeros_told (suc n)))
    (λ e q k. let f = both k in more_told (w % 256) (row n (w / 256)) f.0 (good_told n (w / 256) f.1)) refl

-- two words with the same highest bits: the lowest byte's are the same, and so are the others'
same_top : (p q m n : ℕ) → p ≤ 1 → q ≤ 1 → p * 128 + 256 * m ≡ q * 128 + 256 * n → (p ≡ q) × (m ≡ n)
same_top p q m n h k e =
    let l : m ≡ n = omega arith in
    (omega arith, l)

-- what they say of a word other than 0 holds of its lowest byte and of the rest
first_told : (b n w : ℕ) → w < 256 ^ n → (b ≡ 0 → w ≡ 0 → ⊥) → Told (b ∷ row n w) → (good b ≡ true) × Told (row n w)
unfolding marked
first_told b n w h z t =
    let bs = row n w in
    let m = marked 127 bs in
    let a = low_bytes (b ∷ bs) t.low in
    let l = a.0 in
    let x = same_top ((b + 127) / 128) ((b + 95) / 128) m (marked 95 bs) (omega arith) (omega arith) t.least in
    let y = same_top ((b + 4) / 128) ((b + 3) / 128) (marked 4 bs) (marked 3 bs) (omega arith) (omega arith) t.other in
    let d : ((b + 127) / 128 * 128 + 256 * m) / 256 ≡ m = omega arith in
    let j : bit_and m ((b + 127) / 128 * 128 + 256 * m) ≡ m = rw d at t.joined in
    let c = common m ((b + 127) / 128 * 128) (omega arith) in
    let o = and_le_l (m % 256) ((b + 127) / 128 * 128) in
    let k : bit_and (m / 256) m ≡ m / 256 = omega (arith, j, c, o) in
    let u : b ≡ 0 → ⊥ = λ e. z e (zeros_only n w h (none_common n m (marked_below 127 n w (low_room 127 bs (omega arith) a.1)) (rw e at j))) in (
      rw (le-leb 33 b (omega (arith, x.0, u)), le-leb b 126 (omega (arith, t.most)), ne_eqb b 124 (λ e. omega (arith, y.0))),
      record { low = omega (arith, t.low); most = omega (arith, t.most); least = x.1; joined = k; other = y.1 },
    )

told_good : (n w : ℕ) → w < 256 ^ n → Told (row n w) → every good (spelt n w) ≡ true
unfolding every spelt row
told_good zero w h t = refl
told_good (suc n) w h t = on (λ b. eqb w 0 ≡ b → every good (cond b [] (w % 256 ∷ spelt n (w / 256))) ≡ true) (eqb w 0) (λ e q. refl)
    (λ e q. let p = pow-succ' 256 n in
    let r = first_told (w % 256) n (w / 256) (omega arith) (λ i k. eqb-false w 0 q (omega arith)) t in
    rw (r.0, told_good n (w / 256) (omega arith) r.1)) refl

-- THEOREM. A word of whose bytes the bits say otherwise has a byte that no identifier has
pub untold : (n w : ℕ) → (Told (row n w) → ⊥) → false ≡ every (takes (identifier unnamed)) (spelt n w)
untold n w f = on (λ b. false ≡ b) (every good (spelt n w)) (λ e. absurd (f (good_told n w e))) (λ e. refl)

-- THEOREM. Where they say all the rest, the bytes are an identifier's exactly where 4 more and 3 more give the same bits
pub told : (n w : ℕ) → w < 256 ^ n → (marked 4 (row n w) ≡ marked 3 (row n w) → Told (row n w)) → eqb (marked 4 (row n w)) (marked 3 (row n w)) ≡ every (takes (identifier unnamed)) (spelt n w)
told n w h t =
    let four = marked 4 (row n w) in
    let three = marked 3 (row n w) in
    on (λ b. eqb four three ≡ b → b ≡ every good (spelt n w)) (eqb four three)
    (λ e q. sym (told_good n w h (t (eqb-true four three q))))
    (λ e q. untold n w (λ k. eqb-false four three q k.other)) refl
