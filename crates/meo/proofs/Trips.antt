-- Document 02, order 2: "Written then read gives the N back; read then written gives the message back if its other fields hold the house values."
use Rattle.std.specs.Prelude.{◌≡◌, refl, Bool, true, cond, ℕ, zero, suc, ◌+◌, ◌-◌, ◌%◌, ◌≤◌, ◌<◌, get_or, eqb, Ok}
use Rattle.std.proofs.Common.{sym, ◌∙◌, drop-cons, take_all, take_at, drop_at, eqb-true, ne_eqb}
use Rattle.std.proofs.Math.Path.{ap, subst}
use Rattle.std.proofs.lemmas.Bool.{false≢true}
use Rattle.std.proofs.Math.Option.{Option, none, some}
use mathlib.Core.List.{List, [], ◌∷◌, ◌++◌, append-nil}
use native.Mathlib.Omega.{arith}
use Rattle.std.proofs.Math.ListN.{length, take, drop, replicate, take-append-drop}
use Rattle.laws.specs.Tests.{on, both}
use Rattle.laws.specs.Tables.{All, all_map}
use Rattle.laws.specs.Checks.{first, all_hold, rules_read}
use Rattle.rulebook.specs.Names.{word}
use Rattle.rulebook.specs.Lines.{Side, buy, sell, short, exempt, side_letter, identifier, side}
use Rattle.fields.specs.Parts.{unnamed, blank, stretch, said, takes, every}
use Rattle.fields.specs.Series.{side_of}
use Rattle.fields.specs.Packing.{Solid, all_take, all_drop}
use Rattle.fields.specs.Values.{every_all, says_side, identifier_solid}
use Rattle.packing.specs.Words.{row}
use Rattle.meo.specs.Table.{filled, Row, string, alphanumeric, binary, house, upon, cell, lay, side_bits, instructions, Order, table}
use Rattle.meo.specs.Messages.{order_said, in_form, is_message, message, text_width, letter_or, side_with, order_at, zeros, plain, found_said, read_said, Holds, Byte}
use Rattle.meo.specs.Parts.{stretch_add, length_stretch, row_word, word_row, widths, Fits, lay_house, lay_rows}
use Rattle.meo.specs.Laying.{formed, message_long, table_fits, message_length, text_width_most, own, bits_small, zero_rows, in_parts}
use Rattle.meo.specs.declared.NewOrder.{NewOrder}

-- ── the house values ──
-- a message that holds them has the same rows over either
pub holds_lay : (m h : List ℕ) (at : ℕ) (rs : List Row) → Holds m h at rs → lay h at rs ≡ lay m at rs
unfolding lay
holds_lay m h at [] k = refl
holds_lay m h at (string w cs ∷ rs) k = rw (holds_lay m h (at + w) rs k)
holds_lay m h at (alphanumeric w cs ∷ rs) k = rw (holds_lay m h (at + w) rs k)
holds_lay m h at (binary w n ∷ rs) k = rw (holds_lay m h (at + w) rs k)
holds_lay m h at (house w ∷ rs) k = rw (k.0, holds_lay m h (at + w) rs k.1)
holds_lay m h at (upon w f ∷ rs) k = rw (k.0, holds_lay m h (at + w) rs k.1)

-- ── small laws ──
one_row : (h : List ℕ) (at : ℕ) (r : Row) → lay h at (r ∷ []) ≡ cell h at r
unfolding lay
one_row h at r = append-nil (cell h at r)

filled_full : (pad w : ℕ) (cs : List ℕ) → length cs ≡ w → filled pad w cs ≡ cs
filled_full pad w cs e = let z : w - length cs ≡ 0 = omega arith in rw z (append-nil cs)

width_filled : (cs : List ℕ) (k : ℕ) → All Solid cs → text_width (cs ++ replicate k 0) ≡ length cs
unfolding text_width
width_filled [] zero a = refl
width_filled [] (suc k) a = refl
width_filled (c ∷ cs) k a = rw (ne_eqb c 0 (λ e. omega (arith, a.0)), width_filled cs k a.1)

-- two lists joined from parts of the same lengths have the same parts
same_parts : (x y z w : List ℕ) → length x ≡ length z → x ++ y ≡ z ++ w → (x ≡ z) × (y ≡ w)
same_parts x y z w e q = (
  sym (take_at x y (length x) refl) ∙ ap (λ (l : List ℕ). take (length x) l) q ∙ take_at z w (length x) (sym e),
  sym (drop_at x y (length x) refl) ∙ ap (λ (l : List ℕ). drop (length x) l) q ∙ drop_at z w (length x) (sym e),
)

zeros_of : (k : ℕ) → zeros (replicate k 0) ≡ true
unfolding zeros every
zeros_of zero = refl
zeros_of (suc k) = zeros_of k

zeros_are : (cs : List ℕ) → zeros cs ≡ true → cs ≡ replicate (length cs) 0
unfolding zeros every
zeros_are [] e = refl
zeros_are (c ∷ cs) e = let w = both {a = eqb c 0} e in rw (eqb-true c 0 w.0, ← zeros_are cs w.1)

one_byte : (m : List ℕ) (a : ℕ) → a < length m → stretch m a (a + 1) ≡ get_or m a 0 ∷ []
unfolding stretch
one_byte m a h = let e : a + 1 - a ≡ 1 = omega arith in rw (e, drop-cons m a 0 h)

-- ── sides and their bits ──
bits_letter : (x : Side) → side_with (side_bits x) ≡ side_letter x
bits_letter buy = refl
bits_letter sell = refl
bits_letter short = refl
bits_letter exempt = refl

letter_back : (c : ℕ) → takes (blank (side buy)) c ≡ true → side_letter (side_of c) ≡ c
letter_back c h = sym (ap (λ (l : List ℕ). get_or l 0 0) (says_side c h).0)

low_bits : (x : Side) (w : ℕ) → word (row 2 (instructions x w)) % 8 ≡ side_bits x
unfolding word row
low_bits x w = omega (arith, bits_small x)

side_back : (b : ℕ) → takes (blank (side buy)) (side_with b) ≡ true → side_bits (side_of (side_with b)) ≡ b
side_back b = by (eqb b 0) buy _ (λ e. sym (eqb-true b 0 e)) (by (eqb b 3) sell _ (λ e. sym (eqb-true b 3 e)) (by (eqb b 5) short _ (λ e. sym (eqb-true b 5 e)) (by (eqb b 7) exempt none (λ e. sym (eqb-true b 7 e)) (λ h. absurd (false≢true h)))))
  where
    by : (t : Bool) (x : Side) (o : Option Side) → (t ≡ true → side_bits (side_of (side_letter x)) ≡ b) → (takes (blank (side buy)) (letter_or o) ≡ true → side_bits (side_of (letter_or o)) ≡ b)
        → takes (blank (side buy)) (letter_or (cond t (some x) o)) ≡ true → side_bits (side_of (letter_or (cond t (some x) o))) ≡ b
    by t x o p q = on (λ t. takes (blank (side buy)) (letter_or (cond t (some x) o)) ≡ true → side_bits (side_of (letter_or (cond t (some x) o))) ≡ b) t (λ e h. p e) (λ e h. q h)

-- ── a message that was written ──
-- the N of it, with its places there
abbrev pub again : List ℕ → NewOrder → NewOrder
again l n = record { name = record { from = 14; to = 14 + length (said l n.name) }; mpid = record { from = 10; to = 14 }; symbol = n.symbol; side = n.side; size = n.size; price = n.price }

module _ (l : List ℕ) (n : NewOrder) (h : List ℕ) (ok : in_form l n ≡ true) (long : length h ≡ 131) where
  abbrev o : Order
  o = order_said l n

  abbrev m : List ℕ
  m = message h o

  rows_at : (k j : ℕ) → stretch m (widths (take k (table o))) (widths (take k (table o)) + widths (take j (drop k (table o)))) ≡ lay h (widths (take k (table o))) (take j (drop k (table o)))
  unfolding message
  rows_at k j =
      let T = table o in
      let e : take k T ++ (take j (drop k T) ++ drop j (drop k T)) ≡ T = rw (take-append-drop j (drop k T), take-append-drop k T) in
      subst (λ (rs : List Row). stretch (lay h 0 rs) (widths (take k T)) (widths (take k T) + widths (take j (drop k T))) ≡ lay h (widths (take k T)) (take j (drop k T))) e
      (lay_rows h (take k T) (take j (drop k T)) (drop j (drop k T)) (subst (All Fits) (sym e) (table_fits l n ok)) (subst (λ (rs : List Row). widths rs ≤ length h) (sym e) (omega arith)))

  mpid_stands : stretch m 10 14 ≡ said l n.mpid
  mpid_stands = rows_at 2 1 ∙ one_row h 10 _ ∙ filled_full 32 4 (said l n.mpid) (formed l n ok).mpid_four

  name_solid : All Solid (said l n.name)
  name_solid = all_map _ Solid identifier_solid (said l n.name) (every_all (takes (identifier unnamed)) (said l n.name) (formed l n ok).name_takes)

  name_row : stretch m 14 34 ≡ filled 0 20 (said l n.name)
  name_row = rows_at 3 1 ∙ one_row h 14 (string 20 (said l n.name))

  -- the identifier, and nulls behind it
  name_parts : (stretch m 14 (14 + length (said l n.name)) ≡ said l n.name) × (stretch m (14 + length (said l n.name)) 34 ≡ replicate (20 - length (said l n.name)) 0)
  name_parts =
      let cs = said l n.name in
      let k = length cs in
      let f = formed l n ok in
      let ml = message_length l n h ok long in
      let e : 14 + k + (20 - k) ≡ 34 = omega (arith, f.name_most) in
      let g : 14 + (k + (20 - k)) ≡ 34 = omega (arith, f.name_most) in
      let j : stretch m 14 (14 + k) ++ stretch m (14 + k) 34 ≡ cs ++ replicate (20 - k) 0 = rw (e, g) at (stretch_add m 14 k (20 - k)) ∙ name_row in
      let u : length (stretch m 14 (14 + k)) ≡ k = length_stretch m 14 (14 + k) (omega arith) (omega (arith, f.name_most)) ∙ omega arith in
      same_parts (stretch m 14 (14 + k)) (stretch m (14 + k) 34) cs (replicate (20 - k) 0) u j

  symbol_stands : word (stretch m 34 38) ≡ n.symbol
  symbol_stands = ap word (rows_at 4 1 ∙ one_row h 34 (binary 4 n.symbol)) ∙ word_row 4 n.symbol (omega (arith, (formed l n ok).symbol_in.1))

  price_stands : word (stretch m 38 46) ≡ n.price
  price_stands = ap word (rows_at 5 1 ∙ one_row h 38 (binary 8 n.price)) ∙ word_row 8 n.price (omega (arith, (formed l n ok).price_in.1))

  size_stands : word (stretch m 46 50) ≡ n.size
  size_stands = ap word (rows_at 6 1 ∙ one_row h 46 (binary 4 n.size)) ∙ word_row 4 n.size (omega (arith, (formed l n ok).size_in.1))

  side_stands : side_with (word (stretch m 50 52) % 8) ≡ n.side
  side_stands =
      let r = rows_at 7 1 ∙ one_row h 50 (upon 2 (instructions (side_of n.side))) in
      let b = ap (λ (cs : List ℕ). word cs % 8) r ∙ low_bits (side_of n.side) (word (stretch h 50 52)) in
      ap side_with b ∙ bits_letter (side_of n.side) ∙ letter_back n.side (formed l n ok).side_in

  zeros_stand : stretch m 87 107 ≡ replicate 20 0
  zeros_stand = rows_at 18 4 ∙ zero_rows h

  purge_stands : get_or m 111 0 ≡ 32
  purge_stands =
      let p : stretch m 111 112 ≡ 32 ∷ [] = rows_at 23 1 ∙ one_row h 111 (alphanumeric 1 []) in
      ap (λ (cs : List ℕ). get_or cs 0 0) (sym (one_byte m 111 (omega (arith, message_length l n h ok long))) ∙ p)

  is_typed : (get_or m 0 0 ≡ 78) × (get_or m 1 0 ≡ 49)
  unfolding message lay
  is_typed = (refl, refl)

  is_one : is_message m ≡ true
  unfolding is_message
  is_one = rw (message_length l n h ok long, is_typed.0, is_typed.1)

  order_stands : order_at m ≡ again l n
  unfolding order_at
  order_stands = rw (symbol_stands, price_stands, size_stands, side_stands, name_row, width_filled (said l n.name) (20 - length (said l n.name)) name_solid)

  again_in_form : in_form m (again l n) ≡ true
  unfolding in_form
  again_in_form = rw (name_parts.0, mpid_stands) ok

  again_plain : plain m (again l n).name.to ≡ true
  unfolding plain all_hold
  again_plain = rw (name_parts.1, zeros_stand, purge_stands, zeros_of (20 - length (said l n.name)), zeros_of 20)

  -- THEOREM. Written then read: the N that is found says what the N said that was written
  pub message_read : (read_said m ≡ found_said (Ok (again l n))) × (order_said m (again l n) ≡ order_said l n)
  unfolding read_said first
  message_read = (rw (is_one, order_stands, again_in_form, again_plain), rw (name_parts.0, mpid_stands))

-- ── a message that was read ──
bytes_in : (m : List ℕ) (a b : ℕ) → All Byte m → All Byte (stretch m a b)
unfolding stretch
bytes_in m a b h = all_take Byte (b - a) (drop a m) (all_drop Byte a m h)

-- a stretch of bytes is the row of its number
number_row : (m : List ℕ) (a w : ℕ) → All Byte m → a + w ≤ length m → row w (word (stretch m a (a + w))) ≡ stretch m a (a + w)
number_row m a w b h =
    let e : length (stretch m a (a + w)) ≡ w = length_stretch m a (a + w) (omega arith) h ∙ omega arith in
    subst (λ (k : ℕ). row k (word (stretch m a (a + w))) ≡ stretch m a (a + w)) e (row_word (stretch m a (a + w)) (bytes_in m a (a + w) b))

-- stretches one after the other
joined : (m : List ℕ) → stretch m 0 10 ++ (stretch m 10 52 ++ (stretch m 52 87 ++ (stretch m 87 107 ++ (stretch m 107 111 ++ (stretch m 111 112 ++ (stretch m 112 131 ++ [])))))) ≡ stretch m 0 131
unfolding lay
joined m = lay_house m 0 (10 ∷ 42 ∷ 35 ∷ 20 ∷ 4 ∷ 1 ∷ 19 ∷ [])

stretch_all : (m : List ℕ) (n : ℕ) → length m ≡ n → stretch m 0 n ≡ m
unfolding stretch
stretch_all m n e = let z : n - 0 ≡ n = omega arith in rw z (take_all n m (omega arith))

module _ (m : List ℕ) (bytes : All Byte m) (typed : is_message m ≡ true) (ok : in_form m (order_at m) ≡ true) (bare : plain m (order_at m).name.to ≡ true) where
  long : length m ≡ 131
  long = message_long m typed

  abbrev said_there : Order
  said_there = order_said m (order_at m)

  mpid_itself : filled 32 4 (stretch m 10 14) ≡ stretch m 10 14
  mpid_itself = filled_full 32 4 (stretch m 10 14) (length_stretch m 10 14 (omega arith) (omega (arith, long)))

  name_itself : filled 0 20 (stretch m 14 (14 + text_width (stretch m 14 34))) ≡ stretch m 14 34
  unfolding plain order_at
  name_itself =
      let k = text_width (stretch m 14 34) in
      let most = text_width_most m 14 34 in
      let e : 14 + k + (20 - k) ≡ 34 = omega (arith, most) in
      let g : 14 + (k + (20 - k)) ≡ 34 = omega (arith, most) in
      let u : length (stretch m 14 (14 + k)) ≡ k = length_stretch m 14 (14 + k) (omega arith) (omega (arith, most, long)) ∙ omega arith in
      let v : length (stretch m (14 + k) 34) ≡ 20 - k = length_stretch m (14 + k) 34 (omega (arith, most)) (omega (arith, long)) ∙ omega (arith, most) in
      let z : stretch m (14 + k) 34 ≡ replicate (20 - k) 0 = zeros_are (stretch m (14 + k) 34) (rules_read _ bare).0 ∙ ap (λ (j : ℕ). replicate j 0) v in
      rw (u, ← z) (rw (e, g) at (stretch_add m 14 k (20 - k)))

  side_itself : row 2 (instructions (side_of (side_with (word (stretch m 50 52) % 8))) (word (stretch m 50 52))) ≡ stretch m 50 52
  unfolding order_at
  side_itself =
      let v = word (stretch m 50 52) in
      let b = side_back (v % 8) (formed m (order_at m) ok).side_in in
      let e : instructions (side_of (side_with (v % 8))) v ≡ v = omega (arith, b) in
      rw e (number_row m 50 2 bytes (omega (arith, long)))

  own_itself : lay m 10 (own said_there) ≡ stretch m 10 52
  unfolding lay order_at
  own_itself =
      rw (mpid_itself, name_itself, number_row m 34 4 bytes (omega (arith, long)), number_row m 38 8 bytes (omega (arith, long)), number_row m 46 4 bytes (omega (arith, long)), side_itself)
      (lay_house m 10 (4 ∷ 20 ∷ 4 ∷ 8 ∷ 4 ∷ 2 ∷ []))

  zeros_itself : stretch m 87 107 ≡ replicate 20 0
  unfolding plain
  zeros_itself = zeros_are (stretch m 87 107) (rules_read _ bare).1.0 ∙ ap (λ (j : ℕ). replicate j 0) (length_stretch m 87 107 (omega arith) (omega (arith, long)))

  purge_itself : stretch m 111 112 ≡ 32 ∷ []
  unfolding plain
  purge_itself = one_byte m 111 (omega (arith, long)) ∙ rw (eqb-true (get_or m 111 0) 32 (rules_read _ bare).1.1.0)

  -- THEOREM. Its N written over it is the message itself
  pub message_itself : message m said_there ≡ m
  message_itself = in_parts m said_there typed ∙ rw own_itself (rw (zeros_itself, purge_itself, append-nil) at (joined m)) ∙ stretch_all m 131 long
