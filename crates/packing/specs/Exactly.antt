-- The test of a form is true exactly where the form holds: for a field, for a list of fields and for a record.
use Rattle.std.specs.Prelude.{◌≡◌, refl, Bool, true, ◌↔◌, List, [], ◌∷◌, ℕ, ◌≤◌, eqb, length}
use Rattle.std.proofs.Common.{subst, arith, le-leb}
use Rattle.std.proofs.Math.Bool.{and-eq-true_iff}
use Rattle.std.proofs.lemmas.Bool.{not-true}
use Rattle.laws.specs.Tests.{is_none, both}
use Rattle.laws.specs.Tables.{find, All, all_map, ◌also◌}
use Rattle.rulebook.specs.Names.{Ident, ident_of, Mpid, same_ident, ident_exact}
use Rattle.rulebook.specs.Lines.{Field, text, letter, number, Fits, identifier, mpid, new, change, cancel, block, unblock, Deal, quote, fill, reduction, cancel_refused, News, Record, broken, open_day, group, symbol, ask, tell, request_line, notice_line, line_of, Formed}
use Rattle.rulebook.proofs.Cases.{in_range}
use Rattle.fields.specs.Parts.{has_form}
use Rattle.fields.specs.Packing.{Solid}
use Rattle.fields.specs.Trips.{text_has, all_every}
use Rattle.fields.specs.Values.{Packs, every_all, identifier_solid, mpid_solid}
use Rattle.packing.specs.Words.{unpacked}
use Rattle.packing.specs.Fitting.{fits, every_fits, formed}
use Rattle.packing.specs.Spelling.{unpacked_ident}

-- a form whose texts three words keep whole
abbrev pub Whole : Field → Type 0
Whole (text least most t x) = (most ≤ 24) × Packs (text least most t x)
Whole (letter set c) = Unit {0}
Whole (number low high n) = Unit {0}

-- bytes in a text's form
has_text : (least most : ℕ) (t : ℕ → Bool) (x : Ident) (cs : List ℕ) → least ≤ length cs → length cs ≤ most → All (λ c. t c ≡ true) cs → has_form (text least most t x) cs ≡ true
unfolding has_form
has_text least most t x cs l m a = rw (le-leb least (length cs) l, le-leb (length cs) most m) (all_every t cs a)

pub text_exactly : (least most : ℕ) (t : ℕ → Bool) (x : Ident) → Whole (text least most t x) → (fits (text least most t x) ≡ true) ↔ Fits (text least most t x)
unfolding fits
text_exactly least most t x w = (
  λ h. let f = both h in
      let k = text_has least most t x (unpacked x) f.0 in
      (unpacked x, ident_exact.only (ident_of (unpacked x)) x f.1, k.0, k.1, every_all t (unpacked x) k.2),
  λ (f : Fits (text least most t x)).
      let cs = f.0 in
      let u : unpacked x ≡ cs = subst (λ y. unpacked y ≡ cs) f.1 (unpacked_ident cs (all_map _ Solid w.1 cs f.4) (omega (arith, w.0, f.3))) in
      rw u ((and-eq-true_iff _ _).1 (has_text least most t x cs f.2 f.3 f.4, subst (λ y. same_ident (ident_of cs) y ≡ true) f.1 (ident_exact.self (ident_of cs)))),
)

pub letter_exactly : (set : List ℕ) (c : ℕ) → (fits (letter set c) ≡ true) ↔ Fits (letter set c)
unfolding fits
letter_exactly set c = (not-true (is_none (find (eqb c) set)), λ e. rw e)

pub number_exactly : (low high n : ℕ) → (fits (number low high n) ≡ true) ↔ Fits (number low high n)
unfolding fits
number_exactly low high n = (in_range low high n, λ f. rw (le-leb low n f.0, le-leb n high f.1))

-- THEOREM. A field passes the test exactly where it fits its form
pub fits_exactly : (t : Field) → Whole t → (fits t ≡ true) ↔ Fits t
fits_exactly (text least most t x) w = text_exactly least most t x w
fits_exactly (letter set c) w = letter_exactly set c
fits_exactly (number low high n) w = number_exactly low high n

-- an identifier, a target and an MPID are kept whole
pub identifier_whole : (x : Ident) → Whole (identifier x)
identifier_whole x = (omega arith, identifier_solid)

pub mpid_whole : (m : Mpid) → Whole (mpid m)
mpid_whole m = (omega arith, mpid_solid)

pub identifier_exactly : (x : Ident) → (fits (identifier x) ≡ true) ↔ Fits (identifier x)
identifier_exactly x = fits_exactly (identifier x) (identifier_whole x)

pub mpid_exactly : (m : Mpid) → (fits (mpid m) ≡ true) ↔ Fits (mpid m)
mpid_exactly m = fits_exactly (mpid m) (mpid_whole m)

-- THEOREM. So do fields, one after the other
pub every_exactly : (ts : List Field) → All Whole ts → (every_fits ts ≡ true) ↔ All Fits ts
unfolding every_fits
every_exactly [] w = (λ h. tt, λ a. refl)
every_exactly (t ∷ ts) w =
    let f = fits_exactly t w.0 in
    let r = every_exactly ts w.1 in
    (λ h. let k = both h in (f.0 k.0, r.0 k.1), λ a. (and-eq-true_iff _ _).1 (f.1 a.0, r.1 a.1))

-- every field of every record is kept whole
whole_ask : (i : Ident) (m : Mpid) (d : Deal) → All Whole (request_line i m d).fields
whole_ask i m (new s x z p) = identifier_whole i also mpid_whole m also tt also tt also tt also tt also tt
whole_ask i m (change t z p) = identifier_whole i also mpid_whole m also identifier_whole t also tt also tt also tt
whole_ask i m (cancel t) = identifier_whole i also mpid_whole m also identifier_whole t also tt
whole_ask i m block = identifier_whole i also mpid_whole m also tt
whole_ask i m unblock = identifier_whole i also mpid_whole m also tt

whole_tell : (n : ℕ) (w : News) → All Whole (notice_line n w).fields
whole_tell n (quote s b o) = tt also tt also tt also tt also tt
whole_tell n (fill k z p) = tt also mpid_whole k.owner.mpid also identifier_whole k.name also tt also tt also tt
whole_tell n (reduction k z) = tt also mpid_whole k.owner.mpid also identifier_whole k.name also tt also tt
whole_tell n (cancel_refused k) = tt also mpid_whole k.owner.mpid also identifier_whole k.name also tt

pub record_whole : (x : Record) → All Whole (line_of x).fields
record_whole broken = tt
record_whole (group m t) = mpid_whole m also tt also tt also tt also tt also tt also tt also tt also tt also tt
record_whole (symbol s) = tt also tt
record_whole open_day = tt
record_whole (ask r) = whole_ask r.key.name r.key.owner.mpid r.deal
record_whole (tell n w) = whole_tell n w

-- THEOREM. A record passes the test exactly where its fields have their forms
pub formed_exactly : (x : Record) → (formed x ≡ true) ↔ Formed x
unfolding formed
formed_exactly x = every_exactly (line_of x).fields (record_whole x)
