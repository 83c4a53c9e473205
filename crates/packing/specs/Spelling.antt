-- A word and its bytes: packed bytes are found again in the word, and the word's size says how many there are.
use Rattle.std.specs.Prelude.{◌≡◌, refl, Bool, cond, ◌&&◌, List, [], ◌∷◌, ◌++◌, ℕ, zero, suc, ◌+◌, ◌-◌, ◌*◌, ◌/◌, ◌%◌, ◌^◌, ◌≤◌, ◌<◌, length, take, drop, get_or, eqb}
use Rattle.std.proofs.Common.{sym, ap, subst, ⊎_elim, arith, length-take, length-drop, drop-cons, take-take, eq-eqb, ne_eqb, eqb-true}
use Rattle.std.proofs.Math.Bool.{and_assoc}
use Rattle.std.proofs.Math.Nat.{pow-succ', pow-le-pow_right}
use Rattle.std.proofs.Math.Seq.{take-nil}
use Rattle.laws.specs.Tests.{on}
use Rattle.laws.specs.Tables.{All}
use Rattle.rulebook.specs.Names.{word, ident_of}
use Rattle.fields.specs.Parts.{every}
use Rattle.fields.specs.Numbers.{below}
use Rattle.fields.specs.Packing.{Solid, all_take, all_drop, thirds}
use Rattle.packing.specs.Words.{spelt, unpacked}

-- THEOREM. Bytes other than 0 that are packed are found again
pub spelt_word : (n : ℕ) (cs : List ℕ) → All Solid cs → length cs ≤ n → spelt n (word cs) ≡ cs
unfolding spelt word
spelt_word zero [] a h = refl
spelt_word (suc n) [] a h = refl
spelt_word zero (c ∷ cs) a h = absurd (omega arith)
spelt_word (suc n) (c ∷ cs) a h =
    let m : (c + 256 * word cs) % 256 ≡ c = omega (arith, a.0) in
    let d : (c + 256 * word cs) / 256 ≡ word cs = omega (arith, a.0) in
    rw (ne_eqb (c + 256 * word cs) 0 (λ e. omega (arith, a.0)), m, d, spelt_word n cs a.1 (omega arith))

pub spelt_none : (n : ℕ) → spelt n 0 ≡ []
unfolding spelt
spelt_none zero = refl
spelt_none (suc n) = refl

-- a word below a power of 256 has no more bytes, and any other has
pub spelt_most : (n k w : ℕ) → w < 256 ^ n → length (spelt k w) ≤ n
unfolding spelt
spelt_most n zero w h = omega arith
spelt_most zero (suc k) w h = rw (eq-eqb w 0 (omega arith)) (omega arith)
spelt_most (suc n) (suc k) w h = on (λ b. length (cond b [] (w % 256 ∷ spelt k (w / 256))) ≤ suc n) (eqb w 0) (λ e. omega arith)
    (λ e. let p = pow-succ' 256 n in omega (arith, spelt_most n k (w / 256) (omega arith)))

pub spelt_more : (n k w : ℕ) → n < k → 256 ^ n ≤ w → n < length (spelt k w)
unfolding spelt
spelt_more n zero w l h = absurd (omega arith)
spelt_more zero (suc k) w l h = rw (ne_eqb w 0 (λ e. omega arith)) (omega arith)
spelt_more (suc n) (suc k) w l h =
    let p = pow-succ' 256 n in
    let r = spelt_more n k (w / 256) (omega arith) (omega arith) in
    let o : 256 ^ 0 ≤ 256 ^ suc n = pow-le-pow_right (omega arith) {i = 0} (omega arith) in
    rw (ne_eqb w 0 (λ e. omega arith)) (omega arith)

-- a word is packed from its bytes
pub word_spelt : (n w : ℕ) → w < 256 ^ n → word (spelt n w) ≡ w
unfolding spelt word
word_spelt zero w h = omega arith
word_spelt (suc n) w h = on (λ b. eqb w 0 ≡ b → word (cond b [] (w % 256 ∷ spelt n (w / 256))) ≡ w) (eqb w 0) (λ e q. omega (arith, eqb-true w 0 q))
    (λ e q. let p = pow-succ' 256 n in omega (arith, word_spelt n (w / 256) (omega arith))) refl

-- room for a byte more than a word has adds none
spelt_room : (n w : ℕ) → w < 256 ^ n → spelt (suc n) w ≡ spelt n w
unfolding spelt
spelt_room zero w h = rw (eq-eqb w 0 (omega arith))
spelt_room (suc n) w h = let p = pow-succ' 256 n in rw (spelt_room n (w / 256) (omega arith))

-- so a word's bytes are its lowest and those of the rest
pub spelt_next : (n w : ℕ) → w < 256 ^ suc n → (w ≡ 0 → ⊥) → spelt (suc n) w ≡ w % 256 ∷ spelt (suc n) (w / 256)
unfolding spelt
spelt_next n w h z = let p = pow-succ' 256 n in rw (ne_eqb w 0 z) (ap (λ l. w % 256 ∷ l) (sym (spelt_room n (w / 256) (omega arith))))

-- the word of so many bytes is above a power of 256, and of no more is below
pub word_more : (n : ℕ) (cs : List ℕ) → All Solid cs → n < length cs → length cs ≤ 8 → 256 ^ n ≤ word cs
word_more n cs a l m = ⊎_elim (λ b. absurd (omega (arith, spelt_most n 8 (word cs) b, ap length (spelt_word 8 cs a m)))) (λ b. b) (below (word cs) (256 ^ n))

pub word_most : (n : ℕ) (cs : List ℕ) → All Solid cs → length cs ≤ n → n < 8 → word cs < 256 ^ n
word_most n cs a l m = ⊎_elim (λ b. b) (λ b. absurd (omega (arith, spelt_more n 8 (word cs) m b, ap length (spelt_word 8 cs a (omega arith))))) (below (word cs) (256 ^ n))

-- a text's word from a place on, from the word of the place after
pub word_step : (cs : List ℕ) (i : ℕ) → 1 ≤ i → i ≤ length cs → word (drop (i - 1) cs) ≡ get_or cs (i - 1) 0 + 256 * word (drop i cs)
unfolding word
word_step cs i l m = let e : suc (i - 1) ≡ i = omega arith in ap word (subst (λ n. drop (i - 1) cs ≡ get_or cs (i - 1) 0 ∷ drop n cs) e (drop-cons cs (i - 1) 0 (omega arith)))

-- a byte in front of a word of few enough bytes makes a word
pub word_grows : (i w d : ℕ) → 1 ≤ i → i ≤ 8 → w < 256 ^ (8 - i) → d ≤ 255 → (d + 256 * w < 256 ^ (8 - (i - 1))) × (d + 256 * w < 256 ^ 8)
word_grows i w d l m h b =
    let e : 8 - (i - 1) ≡ suc (8 - i) = omega arith in
    let g : d + 256 * w < 256 ^ (8 - (i - 1)) = rw (e, pow-succ' 256 (8 - i)) (omega arith) in
    (g, omega (arith, pow-le-pow_right {n = 256} (omega arith) {i = 8 - (i - 1)} {j = 8} (omega arith)))

-- bytes one after the other pass a test exactly if both parts do
pub every_append : (t : ℕ → Bool) (xs ys : List ℕ) → every t (xs ++ ys) ≡ (every t xs && every t ys)
unfolding every
every_append t [] ys = refl
every_append t (x ∷ xs) ys = rw (every_append t xs ys) (sym (and_assoc (t x) (every t xs) (every t ys)))

-- THEOREM. Packed bytes are found again in the three words
pub unpacked_ident : (cs : List ℕ) → All Solid cs → length cs ≤ 24 → unpacked (ident_of cs) ≡ cs
unfolding unpacked
unpacked_ident cs a h =
    let n = length-drop 8 cs in
    let m = length-drop 16 cs in
    rw (
      spelt_word 8 (take 8 cs) (all_take Solid 8 cs a) (omega (arith, length-take 8 cs)),
      spelt_word 8 (take 8 (drop 8 cs)) (all_take Solid 8 (drop 8 cs) (all_drop Solid 8 cs a)) (omega (arith, length-take 8 (drop 8 cs))),
      spelt_word 8 (drop 16 cs) (all_drop Solid 16 cs a) (omega arith),
    ) (sym (thirds cs))

-- the first 24 bytes of a text, packed
drop_take : (n m : ℕ) (cs : List ℕ) → drop n (take (n + m) cs) ≡ take m (drop n cs)
drop_take zero m cs = let e : 0 + m ≡ m = omega arith in rw e
drop_take (suc n) m [] = let e : suc n + m ≡ suc (n + m) = omega arith in rw (e, take-nil)
drop_take (suc n) m (c ∷ cs) = let e : suc n + m ≡ suc (n + m) = omega arith in rw e (drop_take n m cs)

pub first_packed : (cs : List ℕ) → record { head = word (take 8 cs); middle = word (take 8 (drop 8 cs)); tail = word (take 8 (drop 16 cs)) } ≡ ident_of (take 24 cs)
first_packed cs = sym (rw (take-take 8 24 cs (omega arith), drop_take 8 16 cs, take-take 8 16 (drop 8 cs) (omega arith), drop_take 16 8 cs))
