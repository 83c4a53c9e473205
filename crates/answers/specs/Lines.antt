-- What is written as an answer line or a closing line is the rulebook's line, and fits into 32 and 96 bytes.
use Rattle.std.specs.Prelude.{◌≡◌, refl, List, [], ◌∷◌, ℕ, ◌+◌, ◌*◌, ◌/◌, ◌%◌, ◌≤◌, length, take}
use Rattle.std.proofs.Common.{sym, ap, ◌∙◌, subst, arith, take_all}
use Rattle.std.proofs.Math.Option.{some, map}
use Prim.Native.Char.{code}
use Rattle.std.proofs.Math.ListN.{get_elem?}
use Rattle.laws.specs.Tables.{All, all_map}
use Rattle.rulebook.specs.Names.{word, Ident, Mpid}
use Rattle.rulebook.specs.Lines.{Fits, Record, broken, open_day, group, symbol, ask, tell, mpid}
use Rattle.rulebook.specs.Kept.{Group as Listed, Books, Tally, tally}
use Rattle.rulebook.specs.Outcomes.{Answer, name_of, answer_line, closing_line}
use Rattle.rulebook.specs.Judging.{judge}
use Rattle.rulebook.specs.Rules.{Sound}
use Rattle.rulebook.proofs.Forms.{answer_formed, closing_formed}
use Rattle.fields.specs.Digits.{digits, digits_in}
use Rattle.fields.specs.Forms.{Says, IsLine}
use Rattle.fields.specs.Widths.{widths, line_width}
use Rattle.fields.specs.Values.{mpid_solid}
use Rattle.fields.specs.Packing.{Solid}
use Rattle.codec.specs.Readings.{record_of, reading}
use Rattle.codec.specs.Lines.{InForm}
use Rattle.codec.proofs.Lines.{letter_same, read_formed, read_in_form}
use Rattle.codec.specs.declared.Reading.{Reading}
use Rattle.codec.specs.declared.Reading.TheVariants.{Broken, Group, Symbol, Open, New, Change, Cancel, Block, Unblock, Quote, Fill, Reduction, CancelRefused}
use Rattle.answers.specs.Answering.{name_bytes, answer_fields, answer_bytes, low_bytes, closing_fields, closing_bytes}

-- ── the answer line ──
name_said : (l : List ℕ) (r : Reading) → InForm l r → Says (name_of (record_of l r)) (name_bytes l r)
name_said l Broken i = (refl, refl)
name_said l (Group m l1 l2 l3 l4 l5 l6 z x) i = i.0
name_said l (Symbol s) i = i.0
name_said l Open i = (refl, refl)
name_said l (New n m s x z p) i = i.0
name_said l (Change n m t z p) i = i.0
name_said l (Cancel n m t) i = i.0
name_said l (Block n m) i = i.0
name_said l (Unblock n m) i = i.0
name_said l (Quote n s b o) i = i.0
name_said l (Fill n m t z p) i = i.0
name_said l (Reduction n m t z) i = i.0
name_said l (CancelRefused n m t) i = i.0

-- THEOREM. The answer's bytes are the rulebook's answer line
pub answered : (l : List ℕ) (r : Reading) (a : Answer) → InForm l r → All Fits (answer_line (record_of l r) a).fields → IsLine (answer_line (record_of l r) a) (answer_bytes l r (code a.outcome) a.number a.sent)
answered l r a i f = (
  answer_fields l r (code a.outcome) a.number a.sent,
  rw (letter_same l r),
  (name_said l r i, ((refl, f.1.0), ((refl, f.1.1.0.0, f.1.1.0.1), ((refl, f.1.1.1.0.0, f.1.1.1.0.1), tt)))),
)

answer_width : (x : Record) (a : Answer) → 1 + widths (answer_line x a).fields ≤ 32
unfolding digits digits_in
answer_width broken a = omega arith
answer_width (group m t) a = omega arith
answer_width (symbol s) a = omega arith
answer_width open_day a = omega arith
answer_width (ask r) a = omega arith
answer_width (tell n w) a = omega arith

-- THEOREM. It has at most 32 bytes
pub answer_short : (l : List ℕ) (r : Reading) (a : Answer) → InForm l r → All Fits (answer_line (record_of l r) a).fields → length (answer_bytes l r (code a.outcome) a.number a.sent) ≤ 32
answer_short l r a i f = omega (arith, line_width (answer_line (record_of l r) a) _ (answered l r a i f), answer_width (record_of l r) a)

-- ── the closing line ──
-- bytes come back from their word
unpacked : (f : List ℕ) → All Solid f → low_bytes (length f) (word f) ≡ f
unfolding word
unpacked [] s = refl
unpacked (c ∷ cs) s =
    let p : (c + 256 * word cs) % 256 ≡ c = omega (arith, s.0) in
    let q : (c + 256 * word cs) / 256 ≡ word cs = omega (arith, s.0) in
    rw (p, q, unpacked cs s.1)

mpid_said : (m : Mpid) → Fits (mpid m) → Says (mpid m) (low_bytes 4 m.code)
mpid_said m (f, packed, least, most, taken) =
    let e : word (take 8 f) ≡ m.code = ap (λ (i : Ident). i.head) packed in
    let n : length f ≡ 4 = omega arith in
    let u : low_bytes 4 (word f) ≡ f = subst (λ k. low_bytes k (word f) ≡ f) n (unpacked f (all_map _ Solid mpid_solid f taken)) in
    let g : f ≡ low_bytes 4 m.code = sym u ∙ ap (low_bytes 4) (ap word (sym (take_all 8 f (omega arith))) ∙ e) in
    subst (Says (mpid m)) g (packed, least, most, taken)

-- THEOREM. The closing line's bytes are the rulebook's closing line
pub closed : (g : Listed) (t : Tally) → All Fits (closing_line g t).fields → IsLine (closing_line g t) (closing_bytes g.mpid.code t.tb t.ts t.ob t.os g.blocked)
closed g t f = (
  closing_fields g.mpid.code t.tb t.ts t.ob t.os g.blocked,
  refl,
  (mpid_said g.mpid f.0, ((refl, f.1.0.0, f.1.0.1), ((refl, f.1.1.0.0, f.1.1.0.1), ((refl, f.1.1.1.0.0, f.1.1.1.0.1), ((refl, f.1.1.1.1.0.0, f.1.1.1.1.0.1), ((refl, f.1.1.1.1.1.0), tt)))))),
)

closing_width : (g : Listed) (t : Tally) → 1 + widths (closing_line g t).fields ≤ 96
unfolding digits digits_in
closing_width g t = omega arith

-- THEOREM. It has at most 96 bytes
pub closing_short : (g : Listed) (t : Tally) → All Fits (closing_line g t).fields → length (closing_bytes g.mpid.code t.tb t.ts t.ob t.os g.blocked) ≤ 96
closing_short g t f = omega (arith, line_width (closing_line g t) _ (closed g t f), closing_width g t)

-- ── what the gate writes ──
-- THEOREM. Over books that meet the state rules, every line's answer is the rulebook's answer line, and has at most 32 bytes
pub gate_answer : (b : Books) (l : List ℕ) → Sound b → let x = record_of l (reading l) in let a = (judge b x).answer in let cs = answer_bytes l (reading l) (code a.outcome) a.number a.sent in
    IsLine (answer_line x a) cs × (length cs ≤ 32)
gate_answer b l s =
    let x = record_of l (reading l) in
    let f = answer_formed b x s (read_formed l) in
    (answered l (reading l) (judge b x).answer (read_in_form l) f, answer_short l (reading l) (judge b x).answer (read_in_form l) f)

-- THEOREM. And so is every group's closing line, with at most 96
pub gate_closing : (b : Books) (i : ℕ) (g : Listed) → Sound b → get_elem? b.ledger.groups i ≡ some g → let t = tally g b.ledger.orders in let cs = closing_bytes g.mpid.code t.tb t.ts t.ob t.os g.blocked in
    IsLine (closing_line g t) cs × (length cs ≤ 96)
gate_closing b i g s e =
    let t = tally g b.ledger.orders in
    let f : All Fits (closing_line g t).fields = closing_formed b i s (ap (map (λ (g : Listed). closing_line g (tally g b.ledger.orders))) e) in
    (closed g t f, closing_short g t f)
