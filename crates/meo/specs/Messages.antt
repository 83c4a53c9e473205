-- Document 02, order 2: an N written as the exchange's New Order Request, and read back. Refusals "41 .., 42 .., 43 .., in that order, nothing written".
use Rattle.std.specs.Prelude.{◌≡◌, Bool, not, ◌&&◌, cond, List, [], ◌∷◌, ℕ, suc, ◌+◌, ◌%◌, ◌<◌, ltb, eqb, length, get_or, Result, Ok, Err}
use Rattle.std.proofs.Math.Option.{Option, none, some}
use Prim.Native.Char.{code}
use Rattle.laws.specs.Tables.{find}
use Rattle.laws.specs.Checks.{Check, ◌⇒◌, first, all_hold}
use Rattle.rulebook.specs.Names.{bytes, word}
use Rattle.rulebook.specs.Lines.{Side, buy, sell, short, exempt, side_letter, letter, identifier, mpid, serial, size, price}
use Rattle.fields.specs.Parts.{unnamed, unlisted, stretch, said, every, has_form}
use Rattle.fields.specs.Series.{side_of}
use Rattle.fields.specs.Out.{Said, refuses, begun}
use Rattle.packing.specs.Fitting.{fits}
use Rattle.codec.specs.Readings.{nowhere}
use Rattle.codec.specs.declared.Reading.{Reading}
use Rattle.codec.specs.declared.Reading.TheVariants.{Broken, Group, Symbol, Open, New, Change, Cancel, Block, Unblock, Quote, Fill, Reduction, CancelRefused}
use Rattle.meo.specs.Table.{Row, string, alphanumeric, binary, house, upon, lay, side_bits, Order, table}
use Rattle.meo.specs.declared.NewOrder.{NewOrder}
use Rattle.meo.specs.declared.SendError.{SendError}
use Rattle.meo.specs.declared.ReadError.{ReadError}

-- ── the N ──
-- the N of a record; of another kind, one that has no form
abbrev pub no_order : NewOrder
no_order = record { name = nowhere; mpid = nowhere; symbol = 0; side = 0; size = 0; price = 0 }

abbrev pub order_of : Reading → NewOrder
order_of (New i m s x z p) = record { name = i; mpid = m; symbol = s; side = x; size = z; price = p }
order_of Broken = no_order
order_of (Group m l1 l2 l3 l4 l5 l6 z x) = no_order
order_of (Symbol s) = no_order
order_of Open = no_order
order_of (Change i m t z p) = no_order
order_of (Cancel i m t) = no_order
order_of (Block i m) = no_order
order_of (Unblock i m) = no_order
order_of (Quote n s b o) = no_order
order_of (Fill n m t z p) = no_order
order_of (Reduction n m t z) = no_order
order_of (CancelRefused n m t) = no_order

abbrev pub reading_of : NewOrder → Reading
reading_of n = New n.name n.mpid n.symbol n.side n.size n.price

-- what it says, with the bytes that its texts stand in
abbrev pub order_said : List ℕ → NewOrder → Order
order_said l n = record { mpid = said l n.mpid; name = said l n.name; symbol = n.symbol; price = n.price; size = n.size; side = side_of n.side }

-- each field in document 01's form for it
unfoldable pub in_form : List ℕ → NewOrder → Bool
in_form l n = all_hold
    (has_form (identifier unnamed) (said l n.name)
    ∷ has_form (mpid unlisted) (said l n.mpid)
    ∷ fits (serial n.symbol)
    ∷ fits (letter (bytes "BSHE") n.side)
    ∷ fits (size n.size)
    ∷ fits (price n.price)
    ∷ [])

-- ── the message ──
-- its length and its type
unfoldable pub is_message : List ℕ → Bool
is_message m = eqb (length m) 131 && (eqb (get_or m 0 0) (code "N") && eqb (get_or m 1 0) (code "1"))

-- "the fields that N doesn't carry come from a lent house message of the same layout"
unfoldable pub message : List ℕ → Order → List ℕ
message h o = lay h 0 (table o)

-- ── writing ──
abbrev pub write_checks : List ℕ → NewOrder → List ℕ → List ℕ → List Check
write_checks l n h b =
    (not (is_message h) ⇒ 41)
    ∷ (not (in_form l n) ⇒ 42)
    ∷ (ltb (length b) 131 ⇒ 43)
    ∷ []

abbrev pub send_number : SendError → ℕ
send_number SendError.BadMessage = 41
send_number SendError.BadOrder = 42
send_number SendError.ShortOutput = 43

abbrev pub sent_said : Result (Unit {0}) SendError → Said
sent_said (Ok u) = record { number = 0; bytes = 131 }
sent_said (Err e) = refuses (send_number e)

-- what the call says, and the output after it
unfoldable pub write_said : List ℕ → NewOrder → List ℕ → List ℕ → Said
write_said l n h b = let k = first (write_checks l n h b) in cond (eqb k 0) (sent_said (Ok tt)) (refuses k)

unfoldable pub write_left : List ℕ → NewOrder → List ℕ → List ℕ → List ℕ
write_left l n h b = cond (eqb (first (write_checks l n h b)) 0) (begun (message h (order_said l n)) b) b

-- ── reading ──
-- how many bytes of a String stand before its nulls
unfoldable pub text_width : List ℕ → ℕ
text_width [] = 0
text_width (c ∷ cs) = cond (eqb c 0) 0 (suc (text_width cs))

-- the letter of the side that has these bits, or 0
abbrev pub letter_or : Option Side → ℕ
letter_or none = 0
letter_or (some x) = side_letter x

abbrev pub side_with : ℕ → ℕ
side_with b = letter_or (find (λ x. eqb b (side_bits x)) (buy ∷ sell ∷ short ∷ exempt ∷ []))

-- the N where the table has it: numbers, and the places of its texts in the message
unfoldable pub order_at : List ℕ → NewOrder
order_at m = record {
  mpid = record { from = 10; to = 14 };
  name = record { from = 14; to = 14 + text_width (stretch m 14 34) };
  symbol = word (stretch m 34 38);
  price = word (stretch m 38 46);
  size = word (stretch m 46 50);
  side = side_with (word (stretch m 50 52) % 8);
}

unfoldable pub zeros : List ℕ → Bool
zeros cs = every (λ c. eqb c 0) cs

-- nulls up to the end of Client Order ID; MinQty, MaxFloor Qty, Display Range Qty and Peg Offset zero; Purge Group a space
unfoldable pub plain : List ℕ → ℕ → Bool
plain m end = all_hold
    (zeros (stretch m end 34)
    ∷ zeros (stretch m 87 107)
    ∷ eqb (get_or m 111 0) (code " ")
    ∷ [])

-- side bits that no side has are a field of N outside its form
abbrev pub read_checks : List ℕ → List Check
read_checks m =
    (not (is_message m) ⇒ 41)
    ∷ (not (in_form m (order_at m)) ⇒ 42)
    ∷ (not (plain m (order_at m).name.to) ⇒ 42)
    ∷ []

-- what the call says: the number of a refusal and no N, or 0 and the N
pub record Heard : Type 0 where
  pub number : ℕ
  pub order : Option NewOrder

abbrev pub read_number : ReadError → ℕ
read_number ReadError.BadMessage = 41
read_number ReadError.BadOrder = 42

abbrev pub found_said : Result NewOrder ReadError → Heard
found_said (Ok n) = record { number = 0; order = some n }
found_said (Err e) = record { number = read_number e; order = none }

unfoldable pub read_said : List ℕ → Heard
read_said m = let k = first (read_checks m) in record { number = k; order = cond (eqb k 0) (some (order_at m)) none }

-- ── "if its other fields hold the house values" ──
-- from this byte on, in each row that is the house message's; and where a row is made from its number, the same is made
abbrev pub Holds : List ℕ → List ℕ → ℕ → List Row → Type 0
Holds m h at [] = Unit {0}
Holds m h at (string w cs ∷ rs) = Holds m h (at + w) rs
Holds m h at (alphanumeric w cs ∷ rs) = Holds m h (at + w) rs
Holds m h at (binary w n ∷ rs) = Holds m h (at + w) rs
Holds m h at (house w ∷ rs) = (stretch m at (at + w) ≡ stretch h at (at + w)) × Holds m h (at + w) rs
Holds m h at (upon w f ∷ rs) = (f (word (stretch m at (at + w))) ≡ f (word (stretch h at (at + w)))) × Holds m h (at + w) rs

-- a byte
abbrev pub Byte : ℕ → Type 0
Byte c = c < 256
