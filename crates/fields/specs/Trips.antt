-- The two ways of a list of fields, for every list of forms at once: read then written, and written then read.
use Rattle.std.specs.Prelude.{◌≡◌, refl, Bool, true, false, cond, ◌&&◌, not, ℕ, suc, ◌+◌, ◌-◌, ◌<◌, ◌≤◌, length, drop, get_or, leb, eqb}
use Rattle.std.proofs.Common.{sym, ap, ◌∙◌, subst, ⊎_elim, arith, length-append, drop_of_length-le, drop-cons, take_all, le-leb, leb-true, ne_eqb, eqb-true}
use Rattle.std.proofs.lemmas.Bool.{false≢true, lt-leb}
use Rattle.std.proofs.Math.Bool.{and-false}
use mathlib.Core.List.{List, [], ◌∷◌, ◌++◌, map, foldl, append_assoc}
use Rattle.std.proofs.Math.Seq.{drop-append-add, get_or-append_seam, take-append_seam}
use Rattle.laws.specs.Tests.{on, both}
use Rattle.laws.specs.Tables.{All, Each}
use Rattle.rulebook.specs.Names.{word, Ident, ident_of}
use Rattle.rulebook.specs.Lines.{ceiling, Field, text, letter, number}
use Rattle.fields.specs.Digits.{digit_step, number_of, empty}
use Rattle.fields.specs.Parts.{blank, stretch, said, ends, span, field_at, takes, every, has_form, end_at, text_at}
use Rattle.fields.specs.Series.{Value, value_of, values, end_of, bytes_of, all_bytes, tails}
use Rattle.fields.specs.Forms.{Says}
use Rattle.fields.specs.Numbers.{digits_number, number_digits, not_bad, alike}
use Rattle.fields.specs.Seams.{tab_by, field_stretch, seam}

-- a form that takes neither tab nor LF, no empty field, and no number above the ceiling
abbrev pub filled : Field → Bool
filled (text least most t x) = leb 1 least
filled (letter set c) = true
filled (number low high n) = leb high ceiling

abbrev pub good : Field → Bool
good t = not (takes t 9) && (not (takes t 10) && filled t)

abbrev pub goods : List Field → Bool
goods [] = true
goods (t ∷ ts) = good t && goods ts

off : (b : Bool) → not b ≡ true → b ≡ false
off true h = absurd (false≢true h)
off false h = refl

record Good (t : Field) : Type 0 where
  no_tab : takes t 9 ≡ false
  no_lf : takes t 10 ≡ false
  is_filled : filled t ≡ true

good_parts : (t : Field) → good t ≡ true → Good t
good_parts t g = let w = both g in let v = both w.1 in record { no_tab = off (takes t 9) w.0; no_lf = off (takes t 10) v.0; is_filled = v.1 }

pub goods_parts : (t : Field) (ts : List Field) → goods (t ∷ ts) ≡ true → (good t ≡ true) × (goods ts ≡ true)
goods_parts t ts g = both {a = good t} {b = goods ts} g

-- a field that is empty has no form
none_has : (t : Field) → good t ≡ true → has_form t [] ≡ false
unfolding has_form number_of
none_has (text least most t x) g = rw (lt-leb least 0 (leb-true 1 least (good_parts (text least most t x) g).is_filled))
none_has (letter set c) g = refl
none_has (number low high n) g =
    let h : high ≤ ceiling = leb-true high ceiling (good_parts (number low high n) g).is_filled in
    rw (lt-leb empty high (omega arith)) (and-false (leb low empty))

-- so a field that has its form has a tab before it
tab_of : (t : Field) (l : List ℕ) (at : ℕ) → good t ≡ true → has_form t (field_at l at) ≡ true → get_or l at 0 ≡ 9
tab_of t l at g ok = tab_by (λ f. has_form t f ≡ true) l at ok (λ z. false≢true (sym (none_has t g) ∙ z))

one_byte : (f : List ℕ) → eqb (length f) 1 ≡ true → get_or f 0 0 ∷ [] ≡ f
one_byte [] h = absurd (false≢true h)
one_byte (x ∷ []) h = refl
one_byte (x ∷ y ∷ ys) h = let g : ◌≡◌ {A = ℕ} (suc (suc (length ys))) 1 = eqb-true _ 1 h in absurd (omega arith)

-- the value of a field that has its form, written, is the field
abbrev value_at : Field → List ℕ → ℕ → Value
value_at t l at = record { place = text_at t l at; value = value_of t (field_at l at) }

-- what a form says of its bytes
pub text_has : (least most : ℕ) (t : ℕ → Bool) (x : Ident) (f : List ℕ) → has_form (text least most t x) f ≡ true → (least ≤ length f) × (length f ≤ most) × (every t f ≡ true)
unfolding has_form
text_has least most t x f ok = let w = both ok in let v = both w.1 in (leb-true least (length f) w.0, leb-true (length f) most v.0, v.1)

pub letter_has : (set : List ℕ) (c : ℕ) (f : List ℕ) → has_form (letter set c) f ≡ true → (eqb (length f) 1 ≡ true) × (takes (letter set c) (get_or f 0 0) ≡ true)
unfolding has_form
letter_has set c f ok = both ok

pub number_has : (low high n : ℕ) (f : List ℕ) → has_form (number low high n) f ≡ true → (low ≤ number_of f) × (number_of f ≤ high)
unfolding has_form
number_has low high n f ok = let w = both ok in (leb-true low (number_of f) w.0, leb-true (number_of f) high w.1)

high_of : (low high n : ℕ) → good (number low high n) ≡ true → high ≤ ceiling
high_of low high n g = leb-true high ceiling (good_parts (number low high n) g).is_filled

bytes_part : (t : Field) (l : List ℕ) (at : ℕ) → good t ≡ true → has_form t (field_at l at) ≡ true → bytes_of t l (value_at t l at) ≡ field_at l at
unfolding end_at
bytes_part (text least most t x) l at g ok = rw ok (field_stretch l at (tab_of (text least most t x) l at g ok))
bytes_part (letter set c) l at g ok = one_byte (field_at l at) (letter_has set c (field_at l at) ok).0
bytes_part (number low high n) l at g ok =
    let h = number_has low high n (field_at l at) ok in
    digits_number (field_at l at) (omega (arith, h.1, high_of low high n g))

-- ── read then written ──
-- past the line there is no way back
end_past : (t : Field) (l : List ℕ) (at : ℕ) → length l < at → length l < end_at t l at
unfolding end_at
end_past t l at h = on (λ b. length l < cond b (at + 1 + length (field_at l at)) (length l + 1)) (has_form t (field_at l at)) (λ e. omega arith) (λ e. omega arith)

past : (ts : List Field) (l : List ℕ) (at : ℕ) → length l < at → length l < end_of ts l at
past [] l at h = h
past (t ∷ ts) l at h = past ts l (end_at t l at) (end_past t l at h)

end_has : (t : Field) (l : List ℕ) (at : ℕ) → has_form t (field_at l at) ≡ true → end_at t l at ≡ at + 1 + length (field_at l at)
unfolding end_at
end_has t l at ok = rw ok

end_not : (t : Field) (l : List ℕ) (at : ℕ) → has_form t (field_at l at) ≡ false → end_at t l at ≡ length l + 1
unfolding end_at
end_not t l at ok = rw ok

-- a value that its form takes
abbrev pub Fit : List ℕ → Field → Value → Type 0
Fit l (text least most t x) v = has_form (text least most t x) (said l v.place) ≡ true
Fit l (letter set c) v = takes (letter set c) v.value ≡ true
Fit l (number low high n) v = (low ≤ v.value) × (v.value ≤ high)

value_fits : (t : Field) (l : List ℕ) (at : ℕ) → good t ≡ true → has_form t (field_at l at) ≡ true → Fit l t (value_at t l at)
unfolding end_at
value_fits (text least most t x) l at g ok = rw (bytes_part (text least most t x) l at g ok) ok
value_fits (letter set c) l at g ok = (letter_has set c (field_at l at) ok).1
value_fits (number low high n) l at g ok = number_has low high n (field_at l at) ok

-- fields that end before the last byte have their forms, and lie one after the other up to it
pub back : (ts : List Field) (l : List ℕ) (at : ℕ) → goods ts ≡ true → length l - end_of ts l at ≡ 1 → get_or l (length l - 1) 0 ≡ 10
    → (tails (all_bytes ts l (values ts l at)) ≡ drop at l) × Each (Fit l) ts (values ts l at)
unfolding tails
back [] l at g h z =
    let k : length l - 1 ≡ at = omega arith in
    (rw (drop-cons l at 0 (omega arith), rw k at z, drop_of_length-le l {i = suc at} (omega arith)), tt)
back (t ∷ ts) l at g h z = on (λ b. has_form t (field_at l at) ≡ b → Goal) (has_form t (field_at l at)) (λ e. yes_form (back ts l (end_at t l at) (goods_parts t ts g).1 h z)) (λ e. no_form) refl
  where
    Goal : Type 0
    Goal = (9 ∷ (bytes_of t l (value_at t l at) ++ tails (all_bytes ts l (values ts l (end_at t l at)))) ≡ drop at l)
        × (Fit l t (value_at t l at) × Each (Fit l) ts (values ts l (end_at t l at)))

    yes_form : (tails (all_bytes ts l (values ts l (end_at t l at))) ≡ drop (end_at t l at) l) × Each (Fit l) ts (values ts l (end_at t l at)) → has_form t (field_at l at) ≡ true → Goal
    yes_form rest ok =
        let x = tab_of t l at (goods_parts t ts g).0 ok in
        let p = bytes_part t l at (goods_parts t ts g).0 ok in
        (rw (p, rest.0, end_has t l at ok) (sym (seam l at x)), (value_fits t l at (goods_parts t ts g).0 ok, rest.1))

    no_form : has_form t (field_at l at) ≡ false → Goal
    no_form ok =
        let k : length l < end_of ts l (end_at t l at) = past ts l (end_at t l at) (rw (end_not t l at ok) (omega arith)) in
        absurd (omega arith)

-- ── written then read ──
-- a field in its form has neither tab nor LF
abbrev pub clear : ℕ → Bool
clear c = not (ends c)

class_clear : (t : ℕ → Bool) (c : ℕ) → t 9 ≡ false → t 10 ≡ false → t c ≡ true → clear c ≡ true
class_clear t c a b h =
    ⊎_elim (λ e. absurd (false≢true (sym a ∙ rw e at h)))
    (λ n. ⊎_elim (λ e. absurd (false≢true (sym b ∙ rw e at h))) (λ m. rw (ne_eqb c 9 n, ne_eqb c 10 m)) (alike c 10))
    (alike c 9)

every_clear : (t : ℕ → Bool) (f : List ℕ) → t 9 ≡ false → t 10 ≡ false → every t f ≡ true → every clear f ≡ true
unfolding every
every_clear t [] a b h = refl
every_clear t (c ∷ cs) a b h = let w = both h in rw (class_clear t c a b w.0) (every_clear t cs a b w.1)

digits_clear : (f : List ℕ) (v : ℕ) → foldl digit_step v f ≤ ceiling → every clear f ≡ true
unfolding every digit_step
digits_clear [] v h = refl
digits_clear (c ∷ cs) v h =
    ⊎_elim (λ e. absurd (not_bad cs (digit_step v c) (rw e) h))
    (λ n. ⊎_elim (λ e. absurd (not_bad cs (digit_step v c) (rw e) h)) (λ m. rw (ne_eqb c 9 n, ne_eqb c 10 m) (digits_clear cs (digit_step v c) h)) (alike c 10))
    (alike c 9)

one_clear : (t : ℕ → Bool) (f : List ℕ) → t 9 ≡ false → t 10 ≡ false → eqb (length f) 1 ≡ true → t (get_or f 0 0) ≡ true → every clear f ≡ true
unfolding every
one_clear t [] a b e h = refl
one_clear t (c ∷ []) a b e h = rw (class_clear t c a b h)
one_clear t (c ∷ d ∷ ds) a b e h = let g : ◌≡◌ {A = ℕ} (suc (suc (length ds))) 1 = eqb-true _ 1 e in absurd (omega arith)

has_clear : (t : Field) (f : List ℕ) → good t ≡ true → has_form t f ≡ true → every clear f ≡ true
unfolding number_of
has_clear (text least most t x) f g ok = let w = good_parts (text least most t x) g in every_clear t f w.no_tab w.no_lf (text_has least most t x f ok).2
has_clear (letter set c) f g ok =
    let w = good_parts (letter set c) g in
    let h = letter_has set c f ok in
    one_clear (takes (letter set c)) f w.no_tab w.no_lf h.0 h.1
has_clear (number low high n) f g ok = digits_clear f empty (omega (arith, (number_has low high n f ok).1, high_of low high n g))

span_field : (f : List ℕ) (fs : List (List ℕ)) → every clear f ≡ true → span (f ++ tails fs) ≡ length f
unfolding span tails every
span_field [] [] h = refl
span_field [] (g ∷ gs) h = refl
span_field (c ∷ cs) fs h = let w = both h in rw (off (ends c) w.0, span_field cs fs w.1)

-- a field that was written is the field that is read at its place
field_written : (pre f : List ℕ) (fs : List (List ℕ)) (l : List ℕ) → every clear f ≡ true → l ≡ pre ++ (9 ∷ (f ++ tails fs)) → field_at l (length pre) ≡ f
unfolding field_at stretch
field_written pre f fs l h q =
    let x : get_or l (length pre) 0 ≡ 9 = rw q (get_or-append_seam pre 9 (f ++ tails fs) 0) in
    let s : drop (length pre + 1) l ≡ f ++ tails fs = rw q (drop-append-add pre (9 ∷ (f ++ tails fs)) 1) in
    let k : length pre + 1 + length f - (length pre + 1) ≡ length f = omega arith in
    rw (x, s, span_field f fs h, k) (take-append_seam f (tails fs))

-- a value as a field has it
abbrev pub Holds : List ℕ → Field → Value → Type 0
Holds l (text least most t x) v = (ident_of (said l v.place) ≡ x) × (most ≤ 8 → word (said l v.place) ≡ x.head)
Holds l (letter set c) v = v.value ≡ c
Holds l (number low high n) v = v.value ≡ n

-- bytes that say a field have its form
pub all_every : (t : ℕ → Bool) (f : List ℕ) → All (λ c. t c ≡ true) f → every t f ≡ true
unfolding every
all_every t [] a = refl
all_every t (c ∷ cs) a = rw a.0 (all_every t cs a.1)

pub says_has : (t : Field) (f : List ℕ) → good t ≡ true → Says t f → has_form (blank t) f ≡ true
unfolding has_form
says_has (text least most t x) f g s = rw (le-leb least (length f) s.1, le-leb (length f) most s.2) (all_every t f s.3)
says_has (letter set c) f g s = rw (s.0, s.1)
says_has (number low high n) f g s = let h = high_of low high n g in rw (s.0, number_digits n (omega (arith, s.2)), le-leb low n s.1, le-leb n high s.2)

value_holds : (t : Field) (l : List ℕ) (at : ℕ) → good t ≡ true → Says t (field_at l at) → has_form (blank t) (field_at l at) ≡ true → get_or l at 0 ≡ 9 → Holds l t (value_at (blank t) l at)
unfolding end_at
value_holds (text least most t x) l at g s ok y = rw (ok, field_stretch l at y) (s.0, λ h. ap word (sym (take_all 8 (field_at l at) (omega (arith, s.2)))) ∙ ap (λ (i : Ident). i.head) s.0)
value_holds (letter set c) l at g s ok y = rw s.0
value_holds (number low high n) l at g s ok y = rw s.0 (number_digits n (omega (arith, s.2, high_of low high n g)))

good_blank : (t : Field) → good (blank t) ≡ good t
good_blank (text least most t x) = refl
good_blank (letter set c) = refl
good_blank (number low high n) = refl

-- and so neither tab nor LF
pub says_clear : (t : Field) (f : List ℕ) → good t ≡ true → Says t f → every clear f ≡ true
says_clear t f g s = has_clear (blank t) f (good_blank t ∙ g) (says_has t f g s)

-- fields that are written are read: they end before the last byte, and each value is the field's own
pub forth : (ys : List Field) (fs : List (List ℕ)) (pre l : List ℕ) → goods ys ≡ true → Each Says ys fs → l ≡ pre ++ tails fs
    → (length l - end_of (map blank ys) l (length pre) ≡ 1) × Each (Holds l) ys (values (map blank ys) l (length pre))
unfolding tails
forth [] [] pre l g s q = (rw (q, length-append) (omega arith), tt)
forth [] (f ∷ fs) pre l g s q = absurd s
forth (y ∷ ys) [] pre l g s q = absurd s
forth (y ∷ ys) (f ∷ fs) pre l g s q =
    let gs = goods_parts y ys g in
    let gb : good (blank y) ≡ true = good_blank y ∙ gs.0 in
    let ok : has_form (blank y) f ≡ true = says_has y f gs.0 s.0 in
    let w : field_at l (length pre) ≡ f = field_written pre f fs l (says_clear y f gs.0 s.0) q in
    let okp : has_form (blank y) (field_at l (length pre)) ≡ true = rw w ok in
    let e : end_at (blank y) l (length pre) ≡ length (pre ++ (9 ∷ f)) = end_has (blank y) l (length pre) okp ∙ rw (w, length-append) (omega arith) in
    let ih = forth ys fs (pre ++ (9 ∷ f)) l gs.1 s.1 (q ∙ sym (append_assoc pre (9 ∷ f) (tails fs))) in
    (subst (λ n. length l - end_of (map blank ys) l n ≡ 1) (sym e) ih.0, (value_holds y l (length pre) gs.0 (rw w s.0) okp (tab_of (blank y) l (length pre) gb okp), subst (λ n. Each (Holds l) ys (values (map blank ys) l n)) (sym e) ih.1))

-- the last byte of a line that is written is its LF
pub last_byte : (fs : List (List ℕ)) (pre : List ℕ) → get_or (pre ++ tails fs) (length (pre ++ tails fs) - 1) 0 ≡ 10
unfolding tails
last_byte [] pre = let k : length (pre ++ (10 ∷ [])) - 1 ≡ length pre = rw length-append (omega arith) in rw k (get_or-append_seam pre 10 [] 0)
last_byte (f ∷ fs) pre = rw (← append_assoc pre (9 ∷ f) (tails fs)) (last_byte fs (pre ++ (9 ∷ f)))
