-- Document 01, "A record is a kind with its own numbers": what a reading says, with the line beside it, and the reading of a line.
use Rattle.std.specs.Prelude.{cond, List, [], ◌∷◌, map, ℕ, zero, suc, ◌-◌, eqb, length, get_or}
use Rattle.std.proofs.Math.Option.{Option, none, some}
use Prim.Native.Char.{code}
use Rattle.laws.specs.Tables.{find}
use Rattle.rulebook.specs.Names.{ident_of, mpid_of, Key}
use Rattle.rulebook.specs.Lines.{new, change, cancel, block, unblock, quote, fill, reduction, cancel_refused, Record, broken, open_day, group, symbol, ask, tell, Field, line_of}
use Rattle.fields.specs.Parts.{blank, said, ended}
use Rattle.fields.specs.Series.{Value, side_of, values, end_of}
use Rattle.fields.specs.declared.Place.{Place}
use Rattle.codec.specs.declared.Reading.{Reading}
use Rattle.codec.specs.declared.Reading.TheVariants.{Broken, Group, Symbol, Open, New, Change, Cancel, Block, Unblock, Quote, Fill, Reduction, CancelRefused}

-- the key that an MPID and an identifier make
abbrev pub key_of : List ℕ → Place → Place → Key
key_of l m i = record { owner = record { mpid = mpid_of (said l m) }; name = ident_of (said l i) }

-- the record that a reading says
abbrev pub record_of : List ℕ → Reading → Record
record_of l Broken = broken
record_of l (Group m l1 l2 l3 l4 l5 l6 z x) = group (mpid_of (said l m)) (record {
  limits = record { gross_trade = l1; net_trade = l2; gross_open = l3; net_open = l4; gross_both = l5; net_both = l6 };
  max_size = z;
  short_sales = eqb x (code "Y");
})
record_of l (Symbol s) = symbol s
record_of l Open = open_day
record_of l (New i m s x z p) = ask (record { key = key_of l m i; deal = new s (side_of x) z p })
record_of l (Change i m t z p) = ask (record { key = key_of l m i; deal = change (ident_of (said l t)) z p })
record_of l (Cancel i m t) = ask (record { key = key_of l m i; deal = cancel (ident_of (said l t)) })
record_of l (Block i m) = ask (record { key = key_of l m i; deal = block })
record_of l (Unblock i m) = ask (record { key = key_of l m i; deal = unblock })
record_of l (Quote n s b o) = tell n (quote s b o)
record_of l (Fill n m t z p) = tell n (fill (key_of l m t) z p)
record_of l (Reduction n m t z) = tell n (reduction (key_of l m t) z)
record_of l (CancelRefused n m t) = tell n (cancel_refused (key_of l m t))

-- a reading's values in the order of its kind's fields
abbrev pub text_value : Place → Value
text_value p = record { place = p; value = 0 }

abbrev pub nowhere : Place
nowhere = record { from = 0; to = 0 }

abbrev pub plain_value : ℕ → Value
plain_value n = record { place = nowhere; value = n }

abbrev pub values_of : Reading → List Value
values_of Broken = []
values_of (Group m l1 l2 l3 l4 l5 l6 z x) = text_value m ∷ plain_value l1 ∷ plain_value l2 ∷ plain_value l3 ∷ plain_value l4 ∷ plain_value l5 ∷ plain_value l6 ∷ plain_value z ∷ plain_value x ∷ []
values_of (Symbol s) = plain_value s ∷ []
values_of Open = []
values_of (New i m s x z p) = text_value i ∷ text_value m ∷ plain_value s ∷ plain_value x ∷ plain_value z ∷ plain_value p ∷ []
values_of (Change i m t z p) = text_value i ∷ text_value m ∷ text_value t ∷ plain_value z ∷ plain_value p ∷ []
values_of (Cancel i m t) = text_value i ∷ text_value m ∷ text_value t ∷ []
values_of (Block i m) = text_value i ∷ text_value m ∷ []
values_of (Unblock i m) = text_value i ∷ text_value m ∷ []
values_of (Quote n s b o) = plain_value n ∷ plain_value s ∷ plain_value b ∷ plain_value o ∷ []
values_of (Fill n m t z p) = plain_value n ∷ text_value m ∷ text_value t ∷ plain_value z ∷ plain_value p ∷ []
values_of (Reduction n m t z) = plain_value n ∷ text_value m ∷ text_value t ∷ plain_value z ∷ []
values_of (CancelRefused n m t) = plain_value n ∷ text_value m ∷ text_value t ∷ []

-- a kind: how its reading is made from values
abbrev pub nth : ℕ → List Value → Value
nth n [] = plain_value 0
nth zero (v ∷ vs) = v
nth (suc n) (v ∷ vs) = nth n vs

abbrev pub place : ℕ → List Value → Place
place n vs = (nth n vs).place

abbrev pub value : ℕ → List Value → ℕ
value n vs = (nth n vs).value

abbrev pub Maker : Type 0
Maker = List Value → Reading

abbrev pub to_group : Maker
to_group v = Group (place 0 v) (value 1 v) (value 2 v) (value 3 v) (value 4 v) (value 5 v) (value 6 v) (value 7 v) (value 8 v)

abbrev pub to_symbol : Maker
to_symbol v = Symbol (value 0 v)

abbrev pub to_open : Maker
to_open v = Open

abbrev pub to_new : Maker
to_new v = New (place 0 v) (place 1 v) (value 2 v) (value 3 v) (value 4 v) (value 5 v)

abbrev pub to_change : Maker
to_change v = Change (place 0 v) (place 1 v) (place 2 v) (value 3 v) (value 4 v)

abbrev pub to_cancel : Maker
to_cancel v = Cancel (place 0 v) (place 1 v) (place 2 v)

abbrev pub to_block : Maker
to_block v = Block (place 0 v) (place 1 v)

abbrev pub to_unblock : Maker
to_unblock v = Unblock (place 0 v) (place 1 v)

abbrev pub to_quote : Maker
to_quote v = Quote (value 0 v) (value 1 v) (value 2 v) (value 3 v)

abbrev pub to_fill : Maker
to_fill v = Fill (value 0 v) (place 1 v) (place 2 v) (value 3 v) (value 4 v)

abbrev pub to_reduction : Maker
to_reduction v = Reduction (value 0 v) (place 1 v) (place 2 v) (value 3 v)

abbrev pub to_cancel_refused : Maker
to_cancel_refused v = CancelRefused (value 0 v) (place 1 v) (place 2 v)

abbrev pub makers : List Maker
makers = to_group ∷ to_symbol ∷ to_open ∷ to_new ∷ to_change ∷ to_cancel ∷ to_block ∷ to_unblock ∷ to_quote ∷ to_fill ∷ to_reduction ∷ to_cancel_refused ∷ []

-- a reading's letter and the forms of its fields are its record's, as the rulebook has them
abbrev pub letter_of : Reading → ℕ
letter_of r = (line_of (record_of [] r)).kind

abbrev pub forms_of : Reading → List Field
forms_of r = map blank (line_of (record_of [] r)).fields

-- document 01's number for a reading: 1 where the line breaks a form
abbrev pub form_number : Reading → ℕ
form_number r = cond (eqb (letter_of r) (code "?")) 1 0

-- ── reading ──
-- a line of one kind: each field has its form, and the last ends before the line's last byte
unfoldable pub read_as : Maker → List ℕ → Reading
read_as make l = cond (eqb (length l - end_of (forms_of (make [])) l 1) 1) (make (values (forms_of (make [])) l 1)) Broken

abbrev pub read_by : List ℕ → Option Maker → Reading
read_by l none = Broken
read_by l (some make) = read_as make l

-- the reading of a lent line
unfoldable pub read_line : List ℕ → Reading
read_line l = read_by l (find (λ make. eqb (get_or l 0 0) (letter_of (make []))) makers)

unfoldable pub reading : List ℕ → Reading
reading l = cond (ended l) (read_line l) Broken
