-- Kind by kind, all that the theorems on lines need of it: its forms are the rulebook's, its values say its record, its record's fields give its values.
use Rattle.std.specs.Prelude.{◌≡◌, refl, true, false, ◌⊎◌, List, [], map, ℕ, ◌+◌, ◌≤◌, eqb}
use Rattle.std.proofs.Common.{inl, inr, arith}
use Rattle.std.proofs.Math.Option.{some}
use Rattle.laws.specs.Tables.{find, All, ◌also◌, Each}
use Rattle.rulebook.specs.Lines.{number, Side, Terms, Deal, News, new, change, cancel, block, unblock, quote, fill, reduction, cancel_refused, Record, broken, open_day, group, symbol, ask, tell, line_of}
use Rattle.rulebook.specs.Names.{Ident, Mpid, Key}
use Rattle.fields.specs.Parts.{blank}
use Rattle.fields.specs.Digits.{digits, digits_in}
use Rattle.fields.specs.Series.{Value, values, all_bytes}
use Rattle.fields.specs.Forms.{Says}
use Rattle.fields.specs.Trips.{goods, Fit, Holds}
use Rattle.fields.specs.Widths.{widths}
use Rattle.fields.specs.Values.{Packs, identifier_solid, mpid_solid, says_identifier, says_mpid, says_side, says_yes_no, side_told, yes_no_told}
use Rattle.codec.specs.Readings.{record_of, Maker, to_group, to_symbol, to_open, to_new, to_change, to_cancel, to_block, to_unblock, to_quote, to_fill, to_reduction, to_cancel_refused, makers, letter_of, forms_of}
use Rattle.codec.specs.Writing.{fields_of}

plain : {low high n : ℕ} → (low ≤ n) × (n ≤ high) → Says (number low high n) (digits n)
plain h = (refl, h.0, h.1)

-- ── from a line to its record ──
abbrev pub read_values : Maker → List ℕ → List Value
read_values make l = values (forms_of (make [])) l 1

-- values in their forms say the record's fields
abbrev Told : Maker → Type 0
Told make = (l : List ℕ) → Each (Fit l) (forms_of (make [])) (read_values make l) → Each Says (line_of (record_of l (make (read_values make l)))).fields (fields_of l (make (read_values make l)))

pub record Kind (make : Maker) : Type 0 where
  pub good : goods (forms_of (make [])) ≡ true
  pub named : eqb (letter_of (make [])) (line_of broken).kind ≡ false
  pub letter : (l : List ℕ) (vs : List Value) → (line_of (record_of l (make vs))).kind ≡ letter_of (make [])
  pub same : (l : List ℕ) → fields_of l (make (read_values make l)) ≡ all_bytes (forms_of (make [])) l (read_values make l)
  pub told : Told make

told_group : Told to_group
told_group l (m, (a, (b, (c, (d, (e, (f, (z, (x, u))))))))) = says_mpid _ m also plain a also plain b also plain c also plain d also plain e also plain f also plain z also says_yes_no _ x also tt

told_symbol : Told to_symbol
told_symbol l (s, u) = plain s also tt

told_open : Told to_open
told_open l u = tt

told_new : Told to_new
told_new l (i, (m, (s, (x, (z, (p, u)))))) = says_identifier _ i also says_mpid _ m also plain s also says_side _ x also plain z also plain p also tt

told_change : Told to_change
told_change l (i, (m, (t, (z, (p, u))))) = says_identifier _ i also says_mpid _ m also says_identifier _ t also plain z also plain p also tt

told_cancel : Told to_cancel
told_cancel l (i, (m, (t, u))) = says_identifier _ i also says_mpid _ m also says_identifier _ t also tt

told_block : Told to_block
told_block l (i, (m, u)) = says_identifier _ i also says_mpid _ m also tt

told_unblock : Told to_unblock
told_unblock l (i, (m, u)) = says_identifier _ i also says_mpid _ m also tt

told_quote : Told to_quote
told_quote l (n, (s, (b, (o, u)))) = plain n also plain s also plain b also plain o also tt

told_fill : Told to_fill
told_fill l (n, (m, (t, (z, (p, u))))) = plain n also says_mpid _ m also says_identifier _ t also plain z also plain p also tt

told_reduction : Told to_reduction
told_reduction l (n, (m, (t, (z, u)))) = plain n also says_mpid _ m also says_identifier _ t also plain z also tt

told_cancel_refused : Told to_cancel_refused
told_cancel_refused l (n, (m, (t, u))) = plain n also says_mpid _ m also says_identifier _ t also tt

pub kinds : All Kind makers
kinds =
    record { good = refl; named = refl; letter = λ l vs. refl; same = λ l. refl; told = told_group } also
    record { good = refl; named = refl; letter = λ l vs. refl; same = λ l. refl; told = told_symbol } also
    record { good = refl; named = refl; letter = λ l vs. refl; same = λ l. refl; told = told_open } also
    record { good = refl; named = refl; letter = λ l vs. refl; same = λ l. refl; told = told_new } also
    record { good = refl; named = refl; letter = λ l vs. refl; same = λ l. refl; told = told_change } also
    record { good = refl; named = refl; letter = λ l vs. refl; same = λ l. refl; told = told_cancel } also
    record { good = refl; named = refl; letter = λ l vs. refl; same = λ l. refl; told = told_block } also
    record { good = refl; named = refl; letter = λ l vs. refl; same = λ l. refl; told = told_unblock } also
    record { good = refl; named = refl; letter = λ l vs. refl; same = λ l. refl; told = told_quote } also
    record { good = refl; named = refl; letter = λ l vs. refl; same = λ l. refl; told = told_fill } also
    record { good = refl; named = refl; letter = λ l vs. refl; same = λ l. refl; told = told_reduction } also
    record { good = refl; named = refl; letter = λ l vs. refl; same = λ l. refl; told = told_cancel_refused } also tt

-- ── from a record to its line ──
-- a record's fields, read from a line, say the record
abbrev Rebuilt : Record → Maker → Type 0
Rebuilt x make = (l : List ℕ) → Each (Holds l) (line_of x).fields (values (map blank (line_of x).fields) l 1) → record_of l (make (values (map blank (line_of x).fields) l 1)) ≡ x

pub record Home (x : Record) : Type 0 where
  pub make : Maker
  pub found : find (λ m. eqb (line_of x).kind (letter_of (m []))) makers ≡ some make
  pub forms : forms_of (make []) ≡ map blank (line_of x).fields
  pub good : goods (line_of x).fields ≡ true
  pub width : 1 + widths (line_of x).fields ≤ 161
  pub rebuilt : Rebuilt x make
  pub solid : All Packs (line_of x).fields

key_told : {w : ℕ} {n : Ident} {k : Key} → w ≡ k.owner.mpid.code → n ≡ k.name → record { owner = record { mpid = record { code = w } }; name = n } ≡ k
key_told p q = λ j. record { owner = record { mpid = record { code = p j } }; name = q j }

rebuilt_group : (g : Mpid) (t : Terms) → Rebuilt (group g t) to_group
rebuilt_group g t l (m, (a, (b, (c, (d, (e, (f, (z, (x, u))))))))) = λ j. group (record { code = m.1 (omega arith) j }) (record { limits = record { gross_trade = a j; net_trade = b j; gross_open = c j; net_open = d j; gross_both = e j; net_both = f j }; max_size = z j; short_sales = yes_no_told t.short_sales _ x j })

rebuilt_symbol : (id : ℕ) → Rebuilt (symbol id) to_symbol
rebuilt_symbol id l (s, u) = λ j. symbol (s j)

rebuilt_open : Rebuilt (open_day) to_open
rebuilt_open l u = λ j. open_day

rebuilt_new : (k : Key) (sy : ℕ) (si : Side) (sz pr : ℕ) → Rebuilt (ask (record { key = k; deal = new sy si sz pr })) to_new
rebuilt_new k sy si sz pr l (i, (m, (s, (x, (z, (p, u)))))) = λ j. ask (record { key = key_told (m.1 (omega arith)) i.0 j; deal = new (s j) (side_told si _ x j) (z j) (p j) })

rebuilt_change : (k : Key) (ta : Ident) (sz pr : ℕ) → Rebuilt (ask (record { key = k; deal = change ta sz pr })) to_change
rebuilt_change k ta sz pr l (i, (m, (t, (z, (p, u))))) = λ j. ask (record { key = key_told (m.1 (omega arith)) i.0 j; deal = change (t.0 j) (z j) (p j) })

rebuilt_cancel : (k : Key) (ta : Ident) → Rebuilt (ask (record { key = k; deal = cancel ta })) to_cancel
rebuilt_cancel k ta l (i, (m, (t, u))) = λ j. ask (record { key = key_told (m.1 (omega arith)) i.0 j; deal = cancel (t.0 j) })

rebuilt_block : (k : Key) → Rebuilt (ask (record { key = k; deal = block })) to_block
rebuilt_block k l (i, (m, u)) = λ j. ask (record { key = key_told (m.1 (omega arith)) i.0 j; deal = block })

rebuilt_unblock : (k : Key) → Rebuilt (ask (record { key = k; deal = unblock })) to_unblock
rebuilt_unblock k l (i, (m, u)) = λ j. ask (record { key = key_told (m.1 (omega arith)) i.0 j; deal = unblock })

rebuilt_quote : (nr sy bi of : ℕ) → Rebuilt (tell nr (quote sy bi of)) to_quote
rebuilt_quote nr sy bi of l (n, (s, (b, (o, u)))) = λ j. tell (n j) (quote (s j) (b j) (o j))

rebuilt_fill : (nr : ℕ) (k : Key) (sz pr : ℕ) → Rebuilt (tell nr (fill k sz pr)) to_fill
rebuilt_fill nr k sz pr l (n, (m, (t, (z, (p, u))))) = λ j. tell (n j) (fill (key_told (m.1 (omega arith)) t.0 j) (z j) (p j))

rebuilt_reduction : (nr : ℕ) (k : Key) (sz : ℕ) → Rebuilt (tell nr (reduction k sz)) to_reduction
rebuilt_reduction nr k sz l (n, (m, (t, (z, u)))) = λ j. tell (n j) (reduction (key_told (m.1 (omega arith)) t.0 j) (z j))

rebuilt_cancel_refused : (nr : ℕ) (k : Key) → Rebuilt (tell nr (cancel_refused k)) to_cancel_refused
rebuilt_cancel_refused nr k l (n, (m, (t, u))) = λ j. tell (n j) (cancel_refused (key_told (m.1 (omega arith)) t.0 j))

home_ask : (k : Key) (d : Deal) → Home (ask (record { key = k; deal = d }))
unfolding digits digits_in
home_ask k (new sy si sz pr) = record { make = to_new; found = refl; forms = refl; good = refl; width = omega arith; rebuilt = rebuilt_new k sy si sz pr; solid = identifier_solid also mpid_solid also tt also tt also tt also tt also tt }
home_ask k (change ta sz pr) = record { make = to_change; found = refl; forms = refl; good = refl; width = omega arith; rebuilt = rebuilt_change k ta sz pr; solid = identifier_solid also mpid_solid also identifier_solid also tt also tt also tt }
home_ask k (cancel ta) = record { make = to_cancel; found = refl; forms = refl; good = refl; width = omega arith; rebuilt = rebuilt_cancel k ta; solid = identifier_solid also mpid_solid also identifier_solid also tt }
home_ask k block = record { make = to_block; found = refl; forms = refl; good = refl; width = omega arith; rebuilt = rebuilt_block k; solid = identifier_solid also mpid_solid also tt }
home_ask k unblock = record { make = to_unblock; found = refl; forms = refl; good = refl; width = omega arith; rebuilt = rebuilt_unblock k; solid = identifier_solid also mpid_solid also tt }

home_tell : (nr : ℕ) (w : News) → Home (tell nr w)
unfolding digits digits_in
home_tell nr (quote sy bi of) = record { make = to_quote; found = refl; forms = refl; good = refl; width = omega arith; rebuilt = rebuilt_quote nr sy bi of; solid = tt also tt also tt also tt also tt }
home_tell nr (fill k sz pr) = record { make = to_fill; found = refl; forms = refl; good = refl; width = omega arith; rebuilt = rebuilt_fill nr k sz pr; solid = tt also mpid_solid also identifier_solid also tt also tt also tt }
home_tell nr (reduction k sz) = record { make = to_reduction; found = refl; forms = refl; good = refl; width = omega arith; rebuilt = rebuilt_reduction nr k sz; solid = tt also mpid_solid also identifier_solid also tt also tt }
home_tell nr (cancel_refused k) = record { make = to_cancel_refused; found = refl; forms = refl; good = refl; width = omega arith; rebuilt = rebuilt_cancel_refused nr k; solid = tt also mpid_solid also identifier_solid also tt }

pub home : (x : Record) → (x ≡ broken) ⊎ Home x
unfolding digits digits_in
home broken = inl refl
home (group g t) = inr (record { make = to_group; found = refl; forms = refl; good = refl; width = omega arith; rebuilt = rebuilt_group g t; solid = mpid_solid also tt also tt also tt also tt also tt also tt also tt also tt also tt })
home (symbol id) = inr (record { make = to_symbol; found = refl; forms = refl; good = refl; width = omega arith; rebuilt = rebuilt_symbol id; solid = tt also tt })
home open_day = inr (record { make = to_open; found = refl; forms = refl; good = refl; width = omega arith; rebuilt = rebuilt_open; solid = tt })
home (ask r) = inr (home_ask r.key r.deal)
home (tell nr w) = inr (home_tell nr w)
