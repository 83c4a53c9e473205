-- How many bytes a packed text has, told from the sizes of its words: the tests that the code makes are the form's.
use Rattle.std.specs.Prelude.{◌≡◌, refl, Bool, true, false, ◌&&◌, ◌||◌, ◌↔◌, List, [], ◌++◌, ℕ, zero, suc, ◌/◌, ◌%◌, ◌^◌, ◌≤◌, ◌<◌, leb, ltb, eqb, length, take, drop}
use Rattle.std.proofs.Common.{sym, ap, ◌∙◌, subst, ⊎_elim, append-nil, arith, length-append, length-take, length-drop, drop_of_length-le, take_all, take_at, drop_at, drop-drop, le-leb, lt-ltb, le-ltb, ne_eqb, leb-true, ltb-true, eqb-true}
use Rattle.std.proofs.Math.Bool.{and-eq-true_iff, and-false, or-true}
use Rattle.std.proofs.Math.Nat.{pow-succ', pow-le-pow_right}
use Rattle.std.proofs.lemmas.Bool.{eqb-false, lt-leb, not-true}
use Rattle.std.specs.Int.{w32, to_le_bytes}
use Rattle.laws.specs.Tests.{on, both}
use Rattle.laws.specs.Tables.{All, all_map}
use Rattle.rulebook.specs.Names.{word, Ident, ident_of}
use Rattle.rulebook.specs.Lines.{identifier, mpid}
use Rattle.fields.specs.Parts.{unnamed, unlisted, takes, every, has_form}
use Rattle.fields.specs.Numbers.{below}
use Rattle.fields.specs.Packing.{Solid, all_take, all_drop}
use Rattle.fields.specs.Trips.{all_every}
use Rattle.fields.specs.Values.{every_all, identifier_solid, mpid_solid, short_packed}
use Rattle.packing.specs.Words.{spelt, row, unpacked, follows, tight}
use Rattle.packing.specs.Fitting.{fits}
use Rattle.packing.specs.Spelling.{spelt_none, spelt_word, spelt_most, spelt_more, word_spelt, word_more, word_most, unpacked_ident}
use Rattle.packing.specs.Exactly.{identifier_exactly, mpid_exactly}

-- two tests that are true in the same cases
same_test : (a b : Bool) → (a ≡ true) ↔ (b ≡ true) → a ≡ b
same_test true b f = sym (f.0 refl)
same_test false true f = f.1 refl
same_test false false f = refl

-- ── from a packed text to its words ──
packed_follows : (cs ds : List ℕ) → All Solid cs → length cs ≤ 8 → (length cs < 8 → ds ≡ []) → follows (word cs) (word ds) ≡ true
unfolding follows word
packed_follows cs ds a m h = ⊎_elim (λ b. rw (h b)) (λ b. rw (le-leb (256 ^ 7) (word cs) (word_more 7 cs a (omega arith) m)) (or-true (eqb (word ds) 0))) (below (length cs) 8)

packed_tight : (cs : List ℕ) → All Solid cs → 1 ≤ length cs → length cs ≤ 20 → tight (ident_of cs) ≡ true
unfolding tight
packed_tight cs a l m =
    let n = length-drop 8 cs in
    let k = length-take 8 cs in
    let j = length-take 8 (drop 8 cs) in
    let s = all_take Solid 8 (drop 8 cs) (all_drop Solid 8 cs a) in
    let h : 256 ^ 0 ≤ word (take 8 cs) = word_more 0 (take 8 cs) (all_take Solid 8 cs a) (omega arith) (omega arith) in
    let t = word_most 4 (drop 16 cs) (all_drop Solid 16 cs a) (omega (arith, length-drop 16 cs)) (omega arith) in
    rw (
      ne_eqb (word (take 8 cs)) 0 (λ e. omega arith),
      lt-ltb (word (drop 16 cs)) (256 ^ 4) t,
      packed_follows (take 8 cs) (take 8 (drop 8 cs)) (all_take Solid 8 cs a) (omega arith) (λ b. rw (drop_of_length-le cs {i = 8} (omega arith))),
    )
    (packed_follows (take 8 (drop 8 cs)) (drop 16 cs) s (omega arith) (λ b. drop_of_length-le cs {i = 16} (omega arith)))

-- ── from words to a packed text ──
-- a word that is not full ends the text
ends_text : (w next : ℕ) → follows w next ≡ true → length (spelt 8 w) < 8 → spelt 8 next ≡ []
unfolding follows
ends_text w next f l = on (λ b. (b || leb (256 ^ 7) w) ≡ true → eqb next 0 ≡ b → spelt 8 next ≡ []) (eqb next 0)
    (λ e k q. rw (eqb-true next 0 q) (spelt_none 8))
    (λ e k q. absurd (omega (arith, spelt_more 7 8 w (omega arith) (leb-true (256 ^ 7) w k)))) f refl

-- bytes of which eight stand in front, or all
cut : (a r : List ℕ) → length a ≤ 8 → (length a < 8 → r ≡ []) → (take 8 (a ++ r) ≡ a) × (drop 8 (a ++ r) ≡ r)
cut a r l h = ⊎_elim (λ b. rw (h b, append-nil a, take_all 8 a l, drop_of_length-le a {i = 8} l) (refl, refl)) (λ b. (take_at a r 8 (omega arith), drop_at a r 8 (omega arith))) (below (length a) 8)

tight_text : (x : Ident) → x.head < 256 ^ 8 → x.middle < 256 ^ 8 → tight x ≡ true → (ident_of (unpacked x) ≡ x) × (1 ≤ length (unpacked x)) × (length (unpacked x) ≤ 20)
unfolding tight unpacked
tight_text x hh hm t =
    let f = both t in
    let g = both f.1 in
    let k = both g.1 in
    let a = spelt 8 x.head in
    let b = spelt 8 x.middle in
    let c = spelt 8 x.tail in
    let ht : x.tail < 256 ^ 4 = ltb-true x.tail (256 ^ 4) g.0 in
    let n : 0 < length a = spelt_more 0 8 x.head (omega arith) (omega (arith, eqb-false x.head 0 (not-true _ f.0))) in
    let la : length a ≤ 8 = spelt_most 8 8 x.head hh in
    let lb : length b ≤ 8 = spelt_most 8 8 x.middle hm in
    let lc : length c ≤ 4 = spelt_most 4 8 x.tail ht in
    let q = cut b c lb (ends_text x.middle x.tail k.1) in
    let p = cut a (b ++ c) la (λ l. let z = ends_text x.head x.middle k.0 l in rw (z, ends_text x.middle x.tail k.1 (rw z (omega arith)))) in (
      rw (p.0, ← drop-drop 8 8 (a ++ (b ++ c)), p.1, q.0, q.1, word_spelt 8 x.head hh, word_spelt 8 x.middle hm, word_spelt 8 x.tail (omega arith)),
      rw length-append (omega arith),
      rw (length-append a (b ++ c), length-append b c) (omega arith),
    )

-- THEOREM. Three words of the machine are an identifier's exactly where they are tight and the form takes each byte
pub identifier_told : (x : Ident) → x.head < 256 ^ 8 → x.middle < 256 ^ 8 → fits (identifier x) ≡ (tight x && every (takes (identifier unnamed)) (unpacked x))
identifier_told x hh hm = same_test _ _ (
  λ e. let f = (identifier_exactly x).0 e in
      let cs = f.0 in
      let s = all_map _ Solid identifier_solid cs f.4 in
      let u : unpacked x ≡ cs = subst (λ y. unpacked y ≡ cs) f.1 (unpacked_ident cs s (omega (arith, f.3))) in
      (and-eq-true_iff _ _).1 (subst (λ y. tight y ≡ true) f.1 (packed_tight cs s f.2 f.3), rw u (all_every (takes (identifier unnamed)) cs f.4)),
  λ e. let k = both e in
      let w = tight_text x hh hm k.0 in
      (identifier_exactly x).1 (unpacked x, w.0, w.1, w.2, every_all (takes (identifier unnamed)) (unpacked x) k.1),
)

-- THEOREM. A word of the machine is an MPID's exactly where it has four bytes and the form takes each
pub mpid_told : (w : ℕ) → w < 256 ^ 8 → fits (mpid (record { code = w })) ≡ (leb (256 ^ 3) w && (ltb w (256 ^ 4) && every (takes (mpid unlisted)) (spelt 8 w)))
mpid_told w h = same_test _ _ (
  λ e. let f = (mpid_exactly (record { code = w })).0 e in
      let cs = f.0 in
      let s = all_map _ Solid mpid_solid cs f.4 in
      let p : word cs ≡ w = ap (λ (i : Ident). i.head) (sym (short_packed cs f.3) ∙ f.1) in
      rw (← p, le-leb (256 ^ 3) (word cs) (word_more 3 cs s f.2 (omega (arith, f.3))), lt-ltb (word cs) (256 ^ 4) (word_most 4 cs s f.3 (omega arith)), spelt_word 8 cs s (omega (arith, f.3)))
      (all_every (takes (mpid unlisted)) cs f.4),
  λ e. let k = both e in
      let j = both k.1 in
      let hi : 256 ^ 3 ≤ w = leb-true (256 ^ 3) w k.0 in
      let lo : w < 256 ^ 4 = ltb-true w (256 ^ 4) j.0 in
      let l : length (spelt 8 w) ≤ 4 = spelt_most 4 8 w lo in
      (mpid_exactly (record { code = w })).1 (spelt 8 w, short_packed (spelt 8 w) l ∙ rw (word_spelt 8 w h), spelt_more 3 8 w (omega arith) hi, l, every_all (takes (mpid unlisted)) (spelt 8 w) j.1),
)

-- a word of so many bytes has no zero before its last
spelt_row : (m k w : ℕ) → m < k → 256 ^ m ≤ w → w < 256 ^ suc m → spelt k w ≡ row (suc m) w
unfolding spelt row
spelt_row m zero w l h g = absurd (omega arith)
spelt_row zero (suc k) w l h g = let z : w / 256 ≡ 0 = omega arith in rw (ne_eqb w 0 (λ e. omega arith), z, spelt_none k)
spelt_row (suc m) (suc k) w l h g =
    let p = pow-succ' 256 m in
    let q = pow-succ' 256 (suc m) in
    let o : 256 ^ 0 ≤ 256 ^ suc m = pow-le-pow_right (omega arith) {i = 0} (omega arith) in
    rw (ne_eqb w 0 (λ e. omega arith), spelt_row m k (w / 256) (omega arith) (omega arith) (omega arith))

-- so where a test takes no 0, it takes four bytes of a word exactly if these are all that it has
four_taken : (t : ℕ → Bool) (w : ℕ) → t 0 ≡ false → w < 256 ^ 4 → every t (row 4 w) ≡ (leb (256 ^ 3) w && every t (spelt 8 w))
unfolding every row
four_taken t w z h = ⊎_elim
    (λ b. let e : w / 256 / 256 / 256 % 256 ≡ 0 = omega arith in rw (lt-leb (256 ^ 3) w b, e, z, and-false, and-false, and-false))
    (λ b. rw (le-leb (256 ^ 3) w b, spelt_row 3 8 w (omega arith) b h))
    (below w (256 ^ 3))

-- the bytes of a word of four
le_row : (w : ℕ) → to_le_bytes w32 w ≡ row 4 w
unfolding row
le_row w =
    let two : w / 256 ^ 2 % 256 ≡ w / 256 / 256 % 256 = omega arith in
    let three : w / 256 ^ 3 % 256 ≡ w / 256 / 256 / 256 % 256 = omega arith in
    rw (two, three)

-- an MPID's word is told by its four bytes
pub mpid_bytes : (w : ℕ) → w < 256 ^ 4 → has_form (mpid unlisted) (to_le_bytes w32 w) ≡ fits (mpid (record { code = w }))
unfolding has_form
mpid_bytes w h = rw (mpid_told w (omega arith), lt-ltb w (256 ^ 4) h, ← four_taken (takes (mpid unlisted)) w refl h, ← le_row w)

-- and a word with more bytes is none
pub mpid_large : (w : ℕ) → 256 ^ 4 ≤ w → w < 256 ^ 8 → fits (mpid (record { code = w })) ≡ false
mpid_large w h g = rw (mpid_told w g, le-ltb w (256 ^ 4) h, and-false)
