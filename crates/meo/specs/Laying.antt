-- The message as it is written: the house message, and over it the fields of N, zeros and a space.
use Rattle.std.specs.Prelude.{◌≡◌, refl, true, List, [], ◌∷◌, ◌++◌, map, ℕ, suc, ◌-◌, ◌≤◌, length, take, drop, replicate, eqb}
use Rattle.std.proofs.Common.{sym, ap, ◌∙◌, append-nil, arith, length-take, eqb-true}
use Rattle.std.proofs.lemmas.Bool.{false≢true}
use Rattle.laws.specs.Checks.{rules_read}
use Rattle.laws.specs.Tests.{both, split}
use Rattle.laws.specs.Tables.{All, all_both}
use Rattle.rulebook.specs.Names.{bytes, word}
use Rattle.rulebook.specs.Lines.{Side, buy, sell, short, exempt, identifier, mpid, letter}
use Rattle.rulebook.proofs.Cases.{in_range}
use Rattle.fields.specs.Parts.{unnamed, unlisted, stretch, said, takes, every}
use Rattle.fields.specs.Trips.{text_has}
use Rattle.fields.specs.Puts.{puts_then}
use Rattle.packing.specs.Words.{row}
use Rattle.packing.specs.Fitting.{fits}
use Rattle.fields.specs.Out.{Out, puts}
use Rattle.meo.specs.Table.{filled, Row, alphanumeric, binary, house, lay, side_bits, instructions, Order, table}
use Rattle.meo.specs.Messages.{order_said, in_form, is_message, message, text_width}
use Rattle.meo.specs.Parts.{stretch_add, Fits, length_lay, lay_append, lay_house}
use Rattle.meo.specs.declared.NewOrder.{NewOrder}

-- ── an N in its forms ──
pub record Formed (l : List ℕ) (n : NewOrder) : Type 0 where
  pub name_most : length (said l n.name) ≤ 20
  pub name_takes : every (takes (identifier unnamed)) (said l n.name) ≡ true
  pub mpid_four : length (said l n.mpid) ≡ 4
  pub symbol_in : (1 ≤ n.symbol) × (n.symbol ≤ 4_294_967_295)
  pub side_in : takes (letter (bytes "BSHE") n.side) n.side ≡ true
  pub size_in : (1 ≤ n.size) × (n.size ≤ 1_000_000)
  pub price_in : (1 ≤ n.price) × (n.price ≤ 999_999_999_999)

pub formed : (l : List ℕ) (n : NewOrder) → in_form l n ≡ true → Formed l n
unfolding in_form fits
formed l n e =
    let w = rules_read _ e in
    let i = text_has 1 20 (takes (identifier unnamed)) unnamed (said l n.name) w.0 in
    let m = text_has 4 4 (takes (mpid unlisted)) _ (said l n.mpid) w.1.0 in
    record {
      name_most = i.1;
      name_takes = i.2;
      mpid_four = omega (arith, m.0, m.1);
      symbol_in = in_range _ _ _ w.1.1.0;
      side_in = w.1.1.1.0;
      size_in = in_range _ _ _ w.1.1.1.1.0;
      price_in = in_range _ _ _ w.1.1.1.1.1.0;
    }

pub bits_small : (x : Side) → side_bits x ≤ 7
bits_small buy = omega arith
bits_small sell = omega arith
bits_small short = omega arith
bits_small exempt = omega arith

-- ── a message's length and type ──
pub message_long : (m : List ℕ) → is_message m ≡ true → length m ≡ 131
unfolding is_message
message_long m e = eqb-true (length m) 131 (both e).0

message_type : (m : List ℕ) → is_message m ≡ true → stretch m 0 2 ≡ bytes "N1"
unfolding is_message stretch
message_type [] e = absurd (false≢true e)
message_type (x ∷ []) e = absurd (false≢true e)
message_type (x ∷ y ∷ m) e = let w = both {a = eqb x 78} (both {a = eqb (length (x ∷ y ∷ m)) 131} e).1 in rw (eqb-true x 78 w.0, eqb-true y 49 w.1)

-- ── the table in parts ──
-- the rows of N's fields, from MPID to Order Instructions
abbrev pub own : Order → List Row
own o = take 6 (drop 2 (table o))

abbrev front : List Row
front = alphanumeric 2 (bytes "N1") ∷ house 8 ∷ []

abbrev middle : List ℕ
middle = 1 ∷ 1 ∷ 1 ∷ 1 ∷ 1 ∷ 1 ∷ 8 ∷ 1 ∷ 16 ∷ 4 ∷ []

abbrev fixed : List Row
fixed = binary 4 0 ∷ binary 4 0 ∷ binary 4 0 ∷ binary 8 0 ∷ []

abbrev end : List Row
end = house 4 ∷ alphanumeric 1 [] ∷ house 19 ∷ []

abbrev back : List Row
back = map house middle ++ (fixed ++ end)

-- an N in its forms has room in its rows
own_fits : (l : List ℕ) (n : NewOrder) → in_form l n ≡ true → All Fits (own (order_said l n))
own_fits l n e = let f = formed l n e in (omega (arith, f.mpid_four), (f.name_most, (tt, (tt, (tt, (tt, tt))))))

house_fits : (ws : List ℕ) → All Fits (map house ws)
house_fits [] = tt
house_fits (w ∷ ws) = (tt, house_fits ws)

pub table_fits : (l : List ℕ) (n : NewOrder) → in_form l n ≡ true → All Fits (table (order_said l n))
table_fits l n e =
    all_both Fits front (own (order_said l n) ++ back) (omega arith, (tt, tt))
    (all_both Fits (own (order_said l n)) back (own_fits l n e)
    (all_both Fits (map house middle) (fixed ++ end) (house_fits middle)
    (all_both Fits fixed end (tt, (tt, (tt, (tt, tt)))) (tt, (omega arith, (tt, tt))))))

pub message_length : (l : List ℕ) (n : NewOrder) (h : List ℕ) → in_form l n ≡ true → length h ≡ 131 → length (message h (order_said l n)) ≡ 131
unfolding message
message_length l n h e k = length_lay h 0 (table (order_said l n)) (table_fits l n e) (omega arith)

pub own_length : (l : List ℕ) (n : NewOrder) (h : List ℕ) → in_form l n ≡ true → length h ≡ 131 → length (lay h 10 (own (order_said l n))) ≡ 42
own_length l n h e k = length_lay h 10 (own (order_said l n)) (own_fits l n e) (omega arith)

pub zero_rows : (h : List ℕ) → lay h 87 fixed ≡ replicate 20 0
unfolding lay row
zero_rows h = refl

end_is : (h : List ℕ) → lay h 107 end ≡ stretch h 107 111 ++ (32 ∷ stretch h 112 131)
unfolding lay
end_is h = rw append-nil

front_is : (h : List ℕ) → is_message h ≡ true → lay h 0 front ≡ stretch h 0 10
unfolding lay
front_is h e =
    ap (λ (x : List ℕ). bytes "N1" ++ x) (append-nil (stretch h 2 10)) ∙ ap (λ (x : List ℕ). x ++ stretch h 2 10) (sym (message_type h e)) ∙ stretch_add h 0 2 8

-- the message: stretches of the house message, and between them the fields of N, zeros and a space
pub in_parts : (h : List ℕ) (o : Order) → is_message h ≡ true
    → message h o ≡ stretch h 0 10 ++ (lay h 10 (own o) ++ (stretch h 52 87 ++ (replicate 20 0 ++ (stretch h 107 111 ++ (32 ∷ stretch h 112 131)))))
unfolding message
in_parts h o e =
    let a : lay h 0 (table o) ≡ lay h 0 front ++ lay h 10 (own o ++ back) = lay_append h 0 front (own o ++ back) in
    let b : lay h 10 (own o ++ back) ≡ lay h 10 (own o) ++ lay h 52 back = lay_append h 10 (own o) back in
    let c : lay h 52 back ≡ stretch h 52 87 ++ lay h 87 (fixed ++ end) = lay_append h 52 (map house middle) (fixed ++ end) ∙ ap (λ (x : List ℕ). x ++ lay h 87 (fixed ++ end)) (lay_house h 52 middle) in
    let d : lay h 87 (fixed ++ end) ≡ replicate 20 0 ++ lay h 107 end = lay_append h 87 fixed end ∙ ap (λ (x : List ℕ). x ++ lay h 107 end) (zero_rows h) in
    rw (a, b, c, d, front_is h e, end_is h)

-- ── what is laid over a house message is the message ──
-- the fields of N put one after the other
pub own_puts : (s : Out) (h : List ℕ) (o : Order)
    → puts (puts (puts (puts (puts (puts s (filled 32 4 o.mpid)) (filled 0 20 o.name)) (row 4 o.symbol)) (row 8 o.price)) (row 4 o.size)) (row 2 (instructions o.side (word (stretch h 50 52)))) ≡ puts s (lay h 10 (own o))
unfolding lay
own_puts s h o = rw (append-nil) (simp puts_then)

text_width_le : (cs : List ℕ) → text_width cs ≤ length cs
unfolding text_width
text_width_le [] = omega arith
text_width_le (c ∷ cs) = split (λ n. n ≤ suc (length cs)) (eqb c 0) 0 (suc (text_width cs)) (λ e. omega arith) (λ e. omega (arith, text_width_le cs))

pub text_width_most : (m : List ℕ) (a b : ℕ) → text_width (stretch m a b) ≤ b - a
unfolding stretch
text_width_most m a b = omega (arith, text_width_le (take (b - a) (drop a m)), length-take (b - a) (drop a m))
