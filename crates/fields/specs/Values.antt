-- Field by field, what a value in its form says, and what a field's value is read as: the forms of document 01 with the rulebook's values.
use Rattle.std.specs.Prelude.{◌≡◌, refl, Bool, true, false, cond, not, ◌||◌, List, [], ◌∷◌, ℕ, ◌≤◌, eqb, length}
use Rattle.std.proofs.Common.{sym, ◌∙◌, arith, drop_of_length-le, take_all, eqb-true}
use Rattle.std.proofs.lemmas.Bool.{false≢true}
use Rattle.std.proofs.Math.Option.{some}
use Prim.Native.Char.{code}
use Rattle.laws.specs.Tests.{on, is_none, both}
use Rattle.laws.specs.Tables.{find, All, all_map, Each}
use Rattle.rulebook.specs.Names.{bytes, word, ident_of, mpid_of}
use Rattle.rulebook.specs.Lines.{Side, buy, sell, short, exempt, side_letter, Field, text, letter, number, Fits, from_to, identifier, mpid, side, yes_no}
use Rattle.rulebook.proofs.Cases.{in_range}
use Rattle.fields.specs.Parts.{unnamed, unlisted, blank, takes, every, has_form}
use Rattle.fields.specs.Series.{side_of}
use Rattle.fields.specs.Forms.{Says}
use Rattle.fields.specs.Digits.{digits}
use Rattle.fields.specs.Packing.{Solid, ident_same}
use Rattle.fields.specs.Trips.{text_has}

-- ── bytes in a form say the value that is read from them ──
pub every_all : (t : ℕ → Bool) (f : List ℕ) → every t f ≡ true → All (λ c. t c ≡ true) f
unfolding every
every_all t [] h = tt
every_all t (c ∷ cs) h = let w = both h in (w.0, every_all t cs w.1)

pub says_identifier : (f : List ℕ) → has_form (identifier unnamed) f ≡ true → Says (identifier (ident_of f)) f
says_identifier f ok = let h = text_has 1 20 (takes (identifier unnamed)) unnamed f ok in (refl, h.0, h.1, every_all (takes (identifier unnamed)) f h.2)

-- four bytes fill half a word
pub short_packed : (f : List ℕ) → length f ≤ 4 → ident_of f ≡ record { head = word f; middle = 0; tail = 0 }
unfolding word
short_packed f h = rw (take_all 8 f (omega arith), drop_of_length-le f {i = 8} (omega arith), drop_of_length-le f {i = 16} (omega arith))

pub says_mpid : (f : List ℕ) → has_form (mpid unlisted) f ≡ true → Says (mpid (mpid_of f)) f
says_mpid f ok = let h = text_has 4 4 (takes (mpid unlisted)) unnamed f ok in (short_packed f h.1, h.0, h.1, every_all (takes (mpid unlisted)) f h.2)

-- one of a set of letters is the first, or one of the rest
among : (c d : ℕ) (ds : List ℕ) → takes (letter (d ∷ ds) 0) c ≡ true → (P : ℕ → Type 0) → P d → (takes (letter ds 0) c ≡ true → P c) → P c
among c d ds h P p q = on (λ b. not (is_none (cond b (some d) (find (eqb c) ds))) ≡ true → eqb c d ≡ b → P c) (eqb c d) (λ e k z. rw (eqb-true c d z) p) (λ e k z. q k) h refl

pub says_side : (c : ℕ) → takes (blank (side buy)) c ≡ true → Says (side (side_of c)) (c ∷ [])
says_side c h =
    let P : ℕ → Type 0 = λ c. Says (side (side_of c)) (c ∷ []) in
    among c 66 (bytes "SHE") h P (refl, refl) (λ h. among c 83 (bytes "HE") h P (refl, refl) (λ h. among c 72 (bytes "E") h P (refl, refl) (λ h. among c 69 [] h P (refl, refl) (λ h. absurd (false≢true h)))))

pub says_yes_no : (c : ℕ) → takes (blank (yes_no true)) c ≡ true → Says (yes_no (eqb c (code "Y"))) (c ∷ [])
says_yes_no c h =
    let P : ℕ → Type 0 = λ c. Says (yes_no (eqb c (code "Y"))) (c ∷ []) in
    among c 89 (bytes "N") h P (refl, refl) (λ h. among c 78 [] h P (refl, refl) (λ h. absurd (false≢true h)))

-- ── and a field's value is read from its bytes ──
pub side_told : (x : Side) (c : ℕ) → c ≡ side_letter x → side_of c ≡ x
side_told buy c e = rw e
side_told sell c e = rw e
side_told short c e = rw e
side_told exempt c e = rw e

pub yes_no_told : (b : Bool) (c : ℕ) → c ≡ cond b (code "Y") (code "N") → eqb c (code "Y") ≡ b
yes_no_told true c e = rw e
yes_no_told false c e = rw e

-- ── texts are kept whole in words ──
abbrev pub Packs : Field → Type 0
Packs (text least most t x) = (c : ℕ) → t c ≡ true → Solid c
Packs (letter set c) = Unit {0}
Packs (number low high n) = Unit {0}

pub identifier_solid : (c : ℕ) → takes (identifier unnamed) c ≡ true → Solid c
identifier_solid c h = let w = in_range 33 126 c (both {a = from_to 33 126 c} h).0 in (omega (arith, w.0), omega (arith, w.1))

pub mpid_solid : (c : ℕ) → takes (mpid unlisted) c ≡ true → Solid c
mpid_solid c h = on (λ b. (b || from_to 48 57 c) ≡ true → from_to 65 90 c ≡ b → Solid c) (from_to 65 90 c)
    (λ e k z. let w = in_range 65 90 c z in (omega (arith, w.0), omega (arith, w.1))) (λ e k z. let w = in_range 48 57 c k in (omega (arith, w.0), omega (arith, w.1))) h refl

-- two texts in one form that pack alike are the same bytes, and so are two letters and two numbers with one value
pub says_same : (t : Field) (f g : List ℕ) → Packs t → Says t f → Says t g → f ≡ g
says_same (text least most t x) f g p a b = ident_same f g (all_map _ Solid p f a.3) (all_map _ Solid p g b.3) (a.0 ∙ sym b.0)
says_same (letter set c) f g p a b = a.0 ∙ sym b.0
says_same (number low high n) f g p a b = a.0 ∙ sym b.0

pub each_same : (ts : List Field) (fs gs : List (List ℕ)) → All Packs ts → Each Says ts fs → Each Says ts gs → fs ≡ gs
each_same [] [] [] p a b = refl
each_same [] [] (g ∷ gs) p a b = absurd b
each_same [] (f ∷ fs) gs p a b = absurd a
each_same (t ∷ ts) [] gs p a b = absurd a
each_same (t ∷ ts) (f ∷ fs) [] p a b = absurd b
each_same (t ∷ ts) (f ∷ fs) (g ∷ gs) p a b = rw (says_same t f g p.0 a.0 b.0, each_same ts fs gs p.1 a.1 b.1)

-- ── a field has bytes exactly where it fits its form ──
pub says_fits : (t : Field) (f : List ℕ) → Says t f → Fits t
says_fits (text least most t x) f s = (f, s.0, s.1, s.2, s.3)
says_fits (letter set c) f s = s.1
says_fits (number low high n) f s = (s.1, s.2)

pub fits_says : (t : Field) → Fits t → (f : List ℕ) × Says t f
fits_says (text least most t x) (f, a, b, c, d) = (f, (a, b, c, d))
fits_says (letter set c) h = (c ∷ [], (refl, h))
fits_says (number low high n) h = (digits n, (refl, h.0, h.1))

pub each_fits : (ts : List Field) (fs : List (List ℕ)) → Each Says ts fs → All Fits ts
each_fits [] [] s = tt
each_fits [] (f ∷ fs) s = absurd s
each_fits (t ∷ ts) [] s = absurd s
each_fits (t ∷ ts) (f ∷ fs) s = (says_fits t f s.0, each_fits ts fs s.1)

pub fits_each : (ts : List Field) → All Fits ts → (fs : List (List ℕ)) × Each Says ts fs
fits_each [] a = ([], tt)
fits_each (t ∷ ts) a = let h = fits_says t a.0 in let r = fits_each ts a.1 in (h.0 ∷ r.0, (h.1, r.1))
