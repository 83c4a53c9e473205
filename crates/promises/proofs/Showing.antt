-- What an answer line and a closing line show is what they were written from: no field has a tab or an LF in it, and digits say their number.
use Rattle.std.specs.Prelude.{◌≡◌, refl, Bool, true, false, not, cond, List, [], ◌∷◌, ◌++◌, ℕ, zero, suc, ◌≤◌, get_or, eqb}
use Rattle.std.proofs.Common.{sym, ap, ◌∙◌, subst, append-nil, append_assoc, arith}
use Rattle.std.proofs.Math.Option.{Option, none, some}
use Prim.Native.Char.{code}
use Rattle.std.proofs.Math.ListN.{get_elem?}
use Rattle.laws.specs.Tests.{both, neither}
use Rattle.laws.specs.Tables.{All, Each}
use Rattle.laws.specs.Checks.{first}
use Rattle.rulebook.specs.Names.{Ident}
use Rattle.rulebook.specs.Lines.{ceiling, highest, News, quote, fill, reduction, cancel_refused, Record, broken, open_day, group, symbol, ask, tell, Field, number, serial, Line, line_of}
use Rattle.rulebook.specs.Kept.{Group, Books, Tally}
use Rattle.rulebook.specs.Outcomes.{Answer, record_numbers, answer_line, closing_line}
use Rattle.rulebook.specs.Judging.{judge}
use Rattle.fields.specs.Digits.{number_of}
use Rattle.fields.specs.Numbers.{number_digits}
use Rattle.fields.specs.Parts.{every}
use Rattle.fields.specs.Series.{tails}
use Rattle.fields.specs.Forms.{Says, IsLine}
use Rattle.fields.specs.Trips.{clear, goods, goods_parts, says_clear}
use Rattle.fields.specs.Values.{short_packed}
use Rattle.promises.specs.Kinds.{deal_kinds, news_kinds}
use Rattle.promises.specs.Day.{parts, field, number_in, Shown, shown, desk_shown, totals_shown}

-- ── the fields of a line ──
parts_held : (held f t : List ℕ) → every clear f ≡ true → parts held (f ++ t) ≡ parts (held ++ f) t
unfolding parts every
parts_held held [] t h = rw append-nil
parts_held held (c ∷ cs) t h = let w = both h in let n = neither (eqb c 9) (eqb c 10) w.0 in rw (n.0, n.1) (parts_held (held ++ (c ∷ [])) cs t w.1 ∙ rw append_assoc)

parts_tails : (held : List ℕ) (fs : List (List ℕ)) → All (λ f. every clear f ≡ true) fs → parts held (tails fs) ≡ held ∷ fs
unfolding parts tails
parts_tails held [] a = refl
parts_tails held (f ∷ fs) a = ap (λ l. held ∷ l) (parts_held [] f (tails fs) a.0 ∙ parts_tails f fs a.1)

fields_clear : (ts : List Field) (fs : List (List ℕ)) → goods ts ≡ true → Each Says ts fs → All (λ f. every clear f ≡ true) fs
fields_clear [] [] g s = tt
fields_clear [] (f ∷ fs) g s = absurd s
fields_clear (t ∷ ts) [] g s = absurd s
fields_clear (t ∷ ts) (f ∷ fs) g s = let w = goods_parts t ts g in (says_clear t f w.0 s.0, fields_clear ts fs w.1 s.1)

-- the bytes are the field at a place, if there is one
abbrev SaysAt : Option Field → List ℕ → Type 0
SaysAt none f = Unit {0}
SaysAt (some t) f = Says t f

field_said : (ts : List Field) (fs : List (List ℕ)) → Each Says ts fs → (i : ℕ) → SaysAt (get_elem? ts i) (get_or fs i [])
field_said [] fs s i = tt
field_said (t ∷ ts) [] s i = absurd s
field_said (t ∷ ts) (f ∷ fs) s zero = s.0
field_said (t ∷ ts) (f ∷ fs) s (suc i) = field_said ts fs s.1 i

-- THEOREM. A line's field is the one that it was written with
field_of : (y : Line) (l : List ℕ) → clear y.kind ≡ true → goods y.fields ≡ true → IsLine y l → (i : ℕ) → SaysAt (get_elem? y.fields i) (field (suc i) l)
unfolding every
field_of y l k g (fs, q, s) i =
    let p : parts [] l ≡ (y.kind ∷ []) ∷ fs = ap (parts []) q ∙ parts_held [] (y.kind ∷ []) (tails fs) (rw k refl) ∙ parts_tails (y.kind ∷ []) fs (fields_clear y.fields fs g s) in
    rw p (field_said y.fields fs s i)

number_said : (low high n : ℕ) (f : List ℕ) → high ≤ ceiling → Says (number low high n) f → number_of f ≡ n
number_said low high n f h s = rw s.0 (number_digits n (omega (arith, s.2)))

-- ── answer lines ──
kind_clear : (x : Record) → clear (line_of x).kind ≡ true
kind_clear broken = refl
kind_clear open_day = refl
kind_clear (group m t) = refl
kind_clear (symbol s) = refl
kind_clear (ask r) = (deal_kinds r).3
kind_clear (tell n w) = (news_kinds n w).3

answer_good : (x : Record) (a : Answer) → goods (answer_line x a).fields ≡ true
answer_good broken a = refl
answer_good open_day a = refl
answer_good (group m t) a = refl
answer_good (symbol s) a = refl
answer_good (ask r) a = refl
answer_good (tell n w) a = refl

-- what an answer shows
abbrev pub shows : Answer → Shown
shows a = record { outcome = code a.outcome; number = a.number; sent = a.sent }

-- THEOREM. An answer line shows its answer
pub answer_shown : (x : Record) (a : Answer) (l : List ℕ) → IsLine (answer_line x a) l → shown l ≡ shows a
answer_shown x a l w =
    let f = field_of (answer_line x a) l (kind_clear x) (answer_good x a) w in
    let o : get_or (field 2 l) 0 0 ≡ code a.outcome = ap (λ f. get_or f 0 0) (f 1).0 in
    let n : number_of (field 3 l) ≡ a.number = number_said 0 (highest record_numbers) a.number (field 3 l) (omega arith) (f 2) in
    let s : number_of (field 4 l) ≡ a.sent = number_said 0 1 a.sent (field 4 l) (omega arith) (f 3) in
    λ i. record { outcome = o i; number = n i; sent = s i }

-- an O shows P where the day is not open, and 2 where it is
pub open_shown : (b : Books) (t : Bool) → b.opened ≡ not t → shows (judge b open_day).answer ≡ cond t (record { outcome = code "P"; number = 0; sent = 0 }) (record { outcome = code "R"; number = 2; sent = 0 })
unfolding judge first
open_shown b true e = rw e refl
open_shown b false e = rw e refl

-- ── notices ──
notice_first : (n : ℕ) (w : News) → (goods (line_of (tell n w)).fields ≡ true) × (get_elem? (line_of (tell n w)).fields 0 ≡ some (serial n))
notice_first n (quote s x y) = (refl, refl)
notice_first n (fill k z p) = (refl, refl)
notice_first n (reduction k z) = (refl, refl)
notice_first n (cancel_refused k) = (refl, refl)

-- THEOREM. A notice's number is its line's second field
pub notice_number : (n : ℕ) (w : News) (l : List ℕ) → IsLine (line_of (tell n w)) l → number_in 1 l ≡ n
notice_number n w l i = let f = notice_first n w in number_said 1 4_294_967_295 n (field 1 l) (omega arith) (subst (λ o. SaysAt o (field 1 l)) f.1 (field_of (line_of (tell n w)) l (kind_clear (tell n w)) f.0 i 0))

-- ── closing lines ──
-- THEOREM. A closing line shows its desk and its totals
pub closing_shown : (g : Group) (t : Tally) (l : List ℕ) → IsLine (closing_line g t) l → (desk_shown l ≡ g.mpid) × (totals_shown l ≡ t)
closing_shown g t l w =
    let f = field_of (closing_line g t) l refl refl w in
    let d = f 0 in
    let m : desk_shown l ≡ g.mpid = ap (λ (i : Ident). record { code = i.head }) (sym (short_packed (field 1 l) d.2) ∙ d.0) in
    let tb = number_said 0 ceiling t.tb (field 2 l) (omega arith) (f 1) in
    let ts = number_said 0 ceiling t.ts (field 3 l) (omega arith) (f 2) in
    let ob = number_said 0 ceiling t.ob (field 4 l) (omega arith) (f 3) in
    let os = number_said 0 ceiling t.os (field 5 l) (omega arith) (f 4) in
    (m, λ i. record { tb = tb i; ts = ts i; ob = ob i; os = os i })
