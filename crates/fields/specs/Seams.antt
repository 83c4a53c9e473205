-- What stands around a field: the tab before it, the tab or LF after it, and that it lies within the line.
use Rattle.std.specs.Prelude.{◌≡◌, refl, Bool, true, false, ◌&&◌, List, [], ◌∷◌, ◌++◌, ℕ, suc, ◌+◌, ◌-◌, ◌<◌, ◌≤◌, length, take, drop, get_or, eqb}
use Rattle.std.proofs.Common.{sym, ◌∙◌, subst, ⊎_elim, arith, add-one, length-drop, length-take, take-append-drop, drop-cons, drop-drop, le-leb, leb-true, ne_eqb, eqb-true}
use Rattle.std.proofs.Math.Bool.{and-eq-true_iff, and-true}
use Rattle.std.proofs.lemmas.Bool.{lt-leb}
use Rattle.std.proofs.Math.ListN.{get_or-eq_default}
use Rattle.laws.specs.Tests.{on, split}
use Rattle.rulebook.specs.Names.{Ident}
use Rattle.rulebook.specs.Lines.{ceiling, text}
use Rattle.fields.specs.Digits.{number_of}
use Rattle.fields.specs.Parts.{stretch, ends, span, field_at, takes, every, has_form, form, IsLetter}
use Rattle.fields.specs.declared.Form.{Form}
use Rattle.fields.specs.declared.Form.TheVariants.{Identifier, Mpid, Side, YesNo}
use Rattle.fields.specs.Numbers.{below}

pub in_line : (l : List ℕ) (at : ℕ) → get_or l at 0 ≡ 9 → at < length l
in_line l at x =
    ⊎_elim (λ h. h) (λ h. let z : ◌≡◌ {A = ℕ} 0 9 = sym (get_or-eq_default l 0 {n = at} h) ∙ x in absurd (omega arith)) (below at (length l))

pub span_le : (l : List ℕ) → span l ≤ length l
unfolding span
span_le [] = omega arith
span_le (c ∷ cs) = let h = span_le cs in split (λ n. n ≤ suc (length cs)) (ends c) 0 (suc (span cs)) (λ e. omega arith) (λ e. omega arith)

-- the place where a field that has no tab before it would be is empty
pub field_none : (l : List ℕ) (at : ℕ) → eqb (get_or l at 0) 9 ≡ false → field_at l at ≡ []
unfolding field_at
field_none l at e = rw e

-- so where something is said of a field that is not true of an empty one, a tab stands before it
pub tab_by : (P : List ℕ → Type 0) (l : List ℕ) (at : ℕ) → P (field_at l at) → (P [] → ⊥) → get_or l at 0 ≡ 9
tab_by P l at h no_empty = eqb-true (get_or l at 0) 9 (on (λ b. b ≡ true) (eqb (get_or l at 0) 9) (λ e. refl) (λ e. absurd (no_empty (subst P (field_none l at e) h))))

pub field_tab : (l : List ℕ) (at : ℕ) → 1 ≤ length (field_at l at) → get_or l at 0 ≡ 9
field_tab l at h = tab_by (λ f. 1 ≤ length f) l at h (λ z. omega arith)

pub field_is : (l : List ℕ) (at : ℕ) → get_or l at 0 ≡ 9 → field_at l at ≡ take (span (drop (at + 1) l)) (drop (at + 1) l)
unfolding field_at stretch
field_is l at x = let k : at + 1 + span (drop (at + 1) l) - (at + 1) ≡ span (drop (at + 1) l) = omega arith in rw (x, k)

pub field_length : (l : List ℕ) (at : ℕ) → get_or l at 0 ≡ 9 → length (field_at l at) ≡ span (drop (at + 1) l)
field_length l at x = rw (field_is l at x, length-take) (omega (arith, span_le (drop (at + 1) l)))

pub field_in : (l : List ℕ) (at : ℕ) → get_or l at 0 ≡ 9 → at + 1 + length (field_at l at) ≤ length l
field_in l at x = omega (arith, in_line l at x, field_length l at x, span_le (drop (at + 1) l), length-drop (at + 1) l)

-- a field is the stretch that its reader says
pub field_stretch : (l : List ℕ) (at : ℕ) → get_or l at 0 ≡ 9 → stretch l (at + 1) (at + 1 + length (field_at l at)) ≡ field_at l at
unfolding stretch
field_stretch l at x =
    let k : at + 1 + length (field_at l at) - (at + 1) ≡ span (drop (at + 1) l) = omega (arith, field_length l at x) in
    rw k (sym (field_is l at x))

pub seam : (l : List ℕ) (at : ℕ) → get_or l at 0 ≡ 9 → drop at l ≡ 9 ∷ (field_at l at ++ drop (at + 1 + length (field_at l at)) l)
seam l at x =
    let n = span (drop (at + 1) l) in
    rw (drop-cons l at 0 (in_line l at x), x, field_length l at x, field_is l at x, ← drop-drop n (at + 1) l, take-append-drop n (drop (at + 1) l), add-one)

-- a text that may not be empty has a tab before it
pub text_tab : (least most : ℕ) (t : ℕ → Bool) (x : Ident) (l : List ℕ) (at : ℕ) → 1 ≤ least → has_form (text least most t x) (field_at l at) ≡ true → get_or l at 0 ≡ 9
unfolding has_form
text_tab least most t x l at h ok = field_tab l at (omega (arith, leb-true least _ ((and-eq-true_iff _ _).0 ok).0))

pub number_tab : (l : List ℕ) (at : ℕ) → number_of (field_at l at) ≤ ceiling → get_or l at 0 ≡ 9
unfolding number_of
number_tab l at h = tab_by (λ f. number_of f ≤ ceiling) l at h (λ z. omega arith)

-- the forms of letters
pub letter_form : (k : Form) (f : List ℕ) → IsLetter k → has_form (form k) f ≡ (eqb (length f) 1 && takes (form k) (get_or f 0 0))
unfolding has_form
letter_form Identifier f h = absurd h
letter_form Mpid f h = absurd h
letter_form Side f h = refl
letter_form YesNo f h = refl

-- a letter is a text of one byte
pub letter_text : (t : ℕ → Bool) (x : Ident) (f : List ℕ) → has_form (text 1 1 t x) f ≡ (eqb (length f) 1 && t (get_or f 0 0))
unfolding has_form every
letter_text t x [] = refl
letter_text t x (b ∷ []) = and-true (t b)
letter_text t x (b ∷ c ∷ bs) = let n : suc (suc (length bs)) ≡ 1 → ⊥ = λ e. omega arith in rw (le-leb 1 (suc (suc (length bs))) (omega arith), lt-leb (suc (suc (length bs))) 1 (omega arith), ne_eqb (suc (suc (length bs))) 1 n)
