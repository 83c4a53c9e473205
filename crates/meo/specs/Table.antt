-- Source document 000, 1.5 "Data Types" and 4.1.1 "New Order Request": the rows of the message, in the table's order. docs/MESSAGE.md says what was taken for each.
use Rattle.std.specs.Prelude.{cond, List, [], ◌∷◌, ◌++◌, ℕ, ◌+◌, ◌-◌, ◌*◌, ◌/◌, length, replicate}
use Rattle.rulebook.specs.Names.{bytes, word}
use Rattle.rulebook.specs.Lines.{Side, buy, sell, short, exempt, is_buy}
use Rattle.fields.specs.Parts.{stretch}
use Rattle.packing.specs.Words.{row}

-- ── 1.5: what stands in a row ──
-- bytes that are filled up on the right to so many
abbrev pub filled : ℕ → ℕ → List ℕ → List ℕ
filled pad width cs = cs ++ replicate (width - length cs) pad

pub data Row : Type 0 where
  -- "If less than the maximum field size, must be null terminated for all the remaining bytes of the field"
  string : (width : ℕ) (cs : List ℕ) → Row
  -- "Left justified and space-padded on to the right"
  alphanumeric : (width : ℕ) (cs : List ℕ) → Row
  -- BinaryU, Price6U and Price6S: "little-endian, binary encoded numbers"
  binary : (width n : ℕ) → Row
  -- what the house message has there
  house : (width : ℕ) → Row
  -- a number made from the one that the house message has there
  upon : (width : ℕ) (f : ℕ → ℕ) → Row

abbrev pub width : Row → ℕ
width (string w cs) = w
width (alphanumeric w cs) = w
width (binary w n) = w
width (house w) = w
width (upon w f) = w

-- the bytes of a row that begins at this byte of the message
abbrev pub cell : List ℕ → ℕ → Row → List ℕ
cell h at (string w cs) = filled 0 w cs
cell h at (alphanumeric w cs) = filled 32 w cs
cell h at (binary w n) = row w n
cell h at (house w) = stretch h at (at + w)
cell h at (upon w f) = row w (f (word (stretch h at (at + w))))

-- the bytes of rows one after the other, the first at this byte
unfoldable pub lay : List ℕ → ℕ → List Row → List ℕ
lay h at [] = []
lay h at (r ∷ rs) = cell h at r ++ lay h (at + width r) rs

-- ── 4.1.1, Order Instructions ──
-- "Bit 0 – Side: 0 - Buy, 1 - Sell"
abbrev pub side_bit : Side → ℕ
side_bit x = cond (is_buy x) 0 1

-- "Bit 1-2 Short Sale Indicator: 0 - Not Applicable (when buying), 1 - Sell Long, 2 - Sell Short, 3 - Sell Short Exempt"
abbrev pub sale_bits : Side → ℕ
sale_bits buy = 0
sale_bits sell = 1
sale_bits short = 2
sale_bits exempt = 3

-- "Bit 0 is LSB"
abbrev pub side_bits : Side → ℕ
side_bits x = side_bit x + 2 * sale_bits x

-- the side in bits 0 to 2, and bits 3 to 15 as the house message has them
abbrev pub instructions : Side → ℕ → ℕ
instructions x w = side_bits x + 8 * (w / 8)

-- ── 4.1.1: the table ──
-- what an N says, as a message has it
pub record Order : Type 0 where
  pub mpid : List ℕ
  pub name : List ℕ
  pub symbol : ℕ
  pub price : ℕ
  pub size : ℕ
  pub side : Side

-- MinQty, MaxFloor Qty, Display Range Qty and Peg Offset are zero, Purge Group a space (document 02, order 2)
abbrev pub table : Order → List Row
table o =
    alphanumeric 2 (bytes "N1")  -- Message Type
    ∷ house 8  -- Reserved
    ∷ alphanumeric 4 o.mpid  -- MPID
    ∷ string 20 o.name  -- Client Order ID
    ∷ binary 4 o.symbol  -- Symbol ID
    ∷ binary 8 o.price  -- Price
    ∷ binary 4 o.size  -- Size
    ∷ upon 2 (instructions o.side)  -- Order Instructions
    ∷ house 1  -- Time In Force(TIF)
    ∷ house 1  -- Order Type
    ∷ house 1  -- Price Sliding and Re-price Frequency
    ∷ house 1  -- Self-Trade Protection
    ∷ house 1  -- Self-Trade Protection Group
    ∷ house 1  -- Routing
    ∷ house 8  -- Trading Collar Dollar Value
    ∷ house 1  -- Capacity
    ∷ house 16  -- Account
    ∷ house 4  -- Clearing Account
    ∷ binary 4 0  -- MinQty
    ∷ binary 4 0  -- MaxFloor Qty
    ∷ binary 4 0  -- Display Range Qty
    ∷ binary 8 0  -- Peg Offset
    ∷ house 4  -- Locate Account
    ∷ alphanumeric 1 []  -- Purge Group
    ∷ house 19  -- Reserved
    ∷ []
