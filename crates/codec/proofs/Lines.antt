-- Document 01: "Each line has one reading and each record one line", and "A line that is read and written again is the same line".
-- `IsLine` says which bytes are the line of a record. The reading of bytes says a record exactly where they are its line.
use Rattle.std.specs.Prelude.{◌≡◌, refl, Bool, true, cond, ◌&&◌, ◌↔◌, List, [], ◌∷◌, map, ℕ, ◌-◌, ◌≤◌, leb, eqb, length, drop, get_or}
use Rattle.std.proofs.Common.{sym, ap, ◌∙◌, ⊎_elim, arith, le-leb, eq-eqb, eqb-true}
use Rattle.std.proofs.lemmas.Bool.{false≢true}
use Rattle.laws.specs.Tests.{opt, split, both}
use Rattle.laws.specs.Tables.{find, find_true, all_find, All}
use Rattle.rulebook.specs.Lines.{Record, broken, line_of, Formed}
use Rattle.fields.specs.Parts.{blank, ended}
use Rattle.fields.specs.Series.{values, end_of, tails}
use Rattle.fields.specs.Forms.{IsLine}
use Rattle.fields.specs.Trips.{back, forth, last_byte}
use Rattle.fields.specs.Values.{Packs, each_same, each_fits, fits_each}
use Rattle.fields.specs.Widths.{line_width}
use Rattle.codec.specs.Readings.{record_of, Maker, makers, letter_of, forms_of, form_number, read_as, read_by, read_line, reading}
use Rattle.codec.specs.Writing.{fields_of, record_line}
use Rattle.codec.proofs.EachKind.{read_values, Kind, kinds, Home, home}
use Rattle.codec.specs.declared.Reading.{Reading}
use Rattle.codec.specs.declared.Reading.TheVariants.{Broken, Group, Symbol, Open, New, Change, Cancel, Block, Unblock, Quote, Fill, Reduction, CancelRefused}
use Rattle.codec.specs.Lines.{InForm}

-- what is read: nothing, or a line of some kind whose fields end before its LF
record Taken (l : List ℕ) (make : Maker) : Type 0 where
  kind : Kind make
  first : get_or l 0 0 ≡ letter_of (make [])
  last : get_or l (length l - 1) 0 ≡ 10
  end : length l - end_of (forms_of (make [])) l 1 ≡ 1

read_cases : (l : List ℕ) (P : Reading → Type 0) → P Broken → ((make : Maker) → Taken l make → P (make (read_values make l))) → P (reading l)
unfolding reading ended read_line read_as
read_cases l P p q = taken (leb (length l) 161 && eqb (get_or l (length l - 1) 0) 10) (read_by l (find test makers)) λ h.
    opt (λ o. P (read_by l o)) (find test makers) (λ e. p) λ make e.
    taken (eqb (length l - end_of (forms_of (make [])) l 1) 1) (make (read_values make l)) λ k.
    q make (record { kind = all_find Kind test makers kinds e; first = eqb-true _ _ (find_true test makers e); last = eqb-true _ 10 (both {a = leb (length l) 161} h).1; end = eqb-true _ 1 k })
  where
    test : Maker → Bool
    test make = eqb (get_or l 0 0) (letter_of (make []))

    taken : (b : Bool) (r : Reading) → (b ≡ true → P r) → P (cond b r Broken)
    taken b r f = split P b r Broken f (λ e. p)

-- ── from a line to its record ──
cut : (l : List ℕ) → 1 ≤ length l → l ≡ get_or l 0 0 ∷ drop 1 l
cut [] h = absurd (omega arith)
cut (x ∷ xs) h = refl

written : (l : List ℕ) (make : Maker) → Taken l make → record_line l (make (read_values make l)) ≡ l
written l make k =
    let b = back (forms_of (make [])) l 1 k.kind.good k.end k.last in
    rw (k.kind.letter [] (read_values make l), k.kind.same l, b.0, ← k.first) (sym (cut l (omega (arith, k.end))))

-- THEOREM. A line that is read and written again is the same line, LF included
pub same_line : (l : List ℕ) → (reading l ≡ Broken → ⊥) → record_line l (reading l) ≡ l
same_line l = read_cases l (λ r. (r ≡ Broken → ⊥) → record_line l r ≡ l) (λ h. absurd (h refl)) (λ make k h. written l make k)

-- THEOREM. What is read is the line of the record that it is read as
taken_line : (l : List ℕ) (make : Maker) → Taken l make → IsLine (line_of (record_of l (make (read_values make l)))) l
taken_line l make k =
    let b = back (forms_of (make [])) l 1 k.kind.good k.end k.last in
    (fields_of l (make (read_values make l)), rw (k.kind.letter l (read_values make l), ← k.kind.letter [] (read_values make l)) (sym (written l make k)), k.kind.told l b.1)

pub read_line_of : (l : List ℕ) → (reading l ≡ Broken → ⊥) → IsLine (line_of (record_of l (reading l))) l
read_line_of l = read_cases l (λ r. (r ≡ Broken → ⊥) → IsLine (line_of (record_of l r)) l) (λ h. absurd (h refl)) (λ make k h. taken_line l make k)

-- ── from a record to its line ──
line_of_broken : (l : List ℕ) → IsLine (line_of broken) l → reading l ≡ Broken
unfolding reading ended read_line read_as tails
line_of_broken l ([], q, s) = rw q
line_of_broken l (f ∷ fs, q, s) = absurd s

found_read : (x : Record) (h : Home x) (l : List ℕ) → get_or l 0 0 ≡ (line_of x).kind → ended l ≡ true → length l - end_of (map blank (line_of x).fields) l 1 ≡ 1
    → reading l ≡ h.make (values (map blank (line_of x).fields) l 1)
unfolding reading read_line read_as
found_read x h l first last end = rw (last, first, h.found, h.forms, end)

home_read : (x : Record) → Home x → (l : List ℕ) → IsLine (line_of x) l → record_of l (reading l) ≡ x
unfolding ended
home_read x h l (fs, q, s) =
    let w = forth (line_of x).fields fs ((line_of x).kind ∷ []) l h.good s q in
    let short : length l ≤ 161 = omega (arith, line_width (line_of x) l (fs, q, s), h.width) in
    let last : get_or l (length l - 1) 0 ≡ 10 = rw q (last_byte fs ((line_of x).kind ∷ [])) in
    rw (found_read x h l (rw q) (rw (le-leb (length l) 161 short, last)) w.0) (h.rebuilt l w.1)

-- THEOREM. The line of a record is read as that record
pub reads : (x : Record) (l : List ℕ) → IsLine (line_of x) l → record_of l (reading l) ≡ x
reads x l i = ⊎_elim (λ (e : x ≡ broken). rw (line_of_broken l (rw e at i)) (sym e)) (λ (h : Home x). home_read x h l i) (home x)

-- only a broken reading says a broken record
taken_whole : (l : List ℕ) (make : Maker) → Taken l make → record_of l (make (read_values make l)) ≡ broken → ⊥
taken_whole l make k e = false≢true (sym k.kind.named ∙ eq-eqb _ _ (sym (k.kind.letter l (read_values make l)) ∙ ap (λ (x : Record). (line_of x).kind) e))

-- some record has this line
abbrev pub SomeRecord : List ℕ → Type 0
SomeRecord l = (x : Record) × (x ≡ broken → ⊥) × IsLine (line_of x) l

-- THEOREM. Bytes are taken exactly where they are the line of a record
pub exactly : (l : List ℕ) → (reading l ≡ Broken → ⊥) ↔ SomeRecord l
exactly l = (
  read_cases l (λ r. (r ≡ Broken → ⊥) → SomeRecord l) (λ h. absurd (h refl)) (λ make k h. (record_of l (make (read_values make l)), taken_whole l make k, taken_line l make k)),
  λ w e. w.1 (sym (reads w.0 l w.2) ∙ ap (record_of l) e),
)

-- THEOREM. Number 1 is given exactly where they are not
pub number_one : (l : List ℕ) → (form_number (reading l) ≡ 1) ↔ (SomeRecord l → ⊥)
number_one l = (
  λ e w. (exactly l).1 w (read_cases l (λ r. form_number r ≡ 1 → r ≡ Broken) (λ e. refl) (λ make k. rw (k.kind.letter [] (read_values make l), k.kind.named) (λ e. absurd (omega arith))) e),
  λ h. read_cases l (λ r. form_number r ≡ 1) refl (λ make k. absurd (h (record_of l (make (read_values make l)), taken_whole l make k, taken_line l make k))),
)

-- THEOREM. Each line has one reading: no line is that of two records, and so no kind's line is read as another kind
pub one_reading : (x y : Record) (l : List ℕ) → IsLine (line_of x) l → IsLine (line_of y) l → x ≡ y
one_reading x y l a b = sym (reads x l a) ∙ reads y l b

pub same_kind : (x : Record) (l : List ℕ) → IsLine (line_of x) l → (line_of (record_of l (reading l))).kind ≡ (line_of x).kind
same_kind x l i = ap (λ (y : Record). (line_of y).kind) (reads x l i)

-- THEOREM. Each record has one line, if its fields are in their forms, and none otherwise
pub has_line : (x : Record) → Formed x → (l : List ℕ) × IsLine (line_of x) l
has_line x f = let h = fits_each (line_of x).fields f in ((line_of x).kind ∷ tails h.0, (h.0, refl, h.1))

pub line_formed : (x : Record) (l : List ℕ) → IsLine (line_of x) l → Formed x
line_formed x l (fs, q, s) = each_fits (line_of x).fields fs s

pub one_line : (x : Record) (l m : List ℕ) → IsLine (line_of x) l → IsLine (line_of x) m → l ≡ m
one_line x l m (fs, p, a) (gs, q, b) = p ∙ rw (each_same (line_of x).fields fs gs (packs x) a b) (sym q)
  where
    packs : (x : Record) → All Packs (line_of x).fields
    packs x = ⊎_elim (λ (e : x ≡ broken). rw e tt) (λ (h : Home x). h.solid) (home x)

-- so what is read is in its forms
pub read_formed : (l : List ℕ) → Formed (record_of l (reading l))
read_formed l = read_cases l (λ r. Formed (record_of l r)) tt λ make k.
    let b = back (forms_of (make [])) l 1 k.kind.good k.end k.last in
    each_fits (line_of (record_of l (make (read_values make l)))).fields (fields_of l (make (read_values make l))) (k.kind.told l b.1)

pub letter_same : (l : List ℕ) (r : Reading) → (line_of (record_of l r)).kind ≡ letter_of r
letter_same l Broken = refl
letter_same l (Group m l1 l2 l3 l4 l5 l6 z x) = refl
letter_same l (Symbol s) = refl
letter_same l Open = refl
letter_same l (New i m s x z p) = refl
letter_same l (Change i m t z p) = refl
letter_same l (Cancel i m t) = refl
letter_same l (Block i m) = refl
letter_same l (Unblock i m) = refl
letter_same l (Quote n s b o) = refl
letter_same l (Fill n m t z p) = refl
letter_same l (Reduction n m t z) = refl
letter_same l (CancelRefused n m t) = refl

pub written_line : (l : List ℕ) (r : Reading) → InForm l r → IsLine (line_of (record_of l r)) (record_line l r)
written_line l r i = (fields_of l r, rw (letter_same l r), i)

-- THEOREM. A record that is written and read again is the same record
pub same_record : (l : List ℕ) (r : Reading) → InForm l r → record_of (record_line l r) (reading (record_line l r)) ≡ record_of l r
same_record l r i = reads (record_of l r) (record_line l r) (written_line l r i)

-- and what is read is in its forms where it stands
pub read_in_form : (l : List ℕ) → InForm l (reading l)
read_in_form l = read_cases l (InForm l) tt λ make k. k.kind.told l (back (forms_of (make [])) l 1 k.kind.good k.end k.last).1
