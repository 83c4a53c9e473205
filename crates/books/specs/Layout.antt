-- The lent words: where each thing stands. docs/STATE.md has the map, and says why words.
-- A field is a word. The regions stand one after the other; the last three have a row for each place of the table.
use Rattle.std.specs.Prelude.{List, [], ◌∷◌, ℕ, ◌+◌, ◌*◌, ◌-◌, ◌/◌, ◌≤◌, min, length}
use Rattle.laws.specs.Rows.{Shape, region, after, extent}

-- ── the regions ──
abbrev pub heads : ℕ
heads = 0

abbrev pub groups : ℕ
groups = 1

abbrev pub symbols : ℕ
symbols = 2

-- of a place: who asked under which identifier; what was asked, and its outcome; the figures of a passed N's order
abbrev pub keys : ℕ
keys = 3

abbrev pub requests : ℕ
requests = 4

abbrev pub orders : ℕ
orders = 5

abbrev rows : ℕ → ℕ → Shape
rows count width = record { width = width; count = count }

-- "up to 64 MPIDs and 256 symbols", always
abbrev pub set_up : List Shape → List Shape
set_up l = rows 1 5 ∷ rows 64 14 ∷ rows 256 3 ∷ l

-- and as many places as there is room for
abbrev pub layout : ℕ → List Shape
layout room = set_up (rows room 4 ∷ rows room 9 ∷ rows room 4 ∷ [])

-- the words of groups and symbols, and of a place
abbrev pub least_words : ℕ
least_words = extent (set_up [])

abbrev pub place_words : ℕ
place_words = extent (rows 1 4 ∷ rows 1 9 ∷ rows 1 4 ∷ [])

-- "The room, at most 65,535 places, is fixed when the memory is lent"
unfoldable pub room_for : ℕ → ℕ
room_for n = min 65_535 ((n - least_words) / place_words)

abbrev pub room_of : List ℕ → ℕ
room_of m = room_for (length m)

-- where a region's rows begin, and their words: of regions before which no number of rows goes by the room
abbrev pub base_of : ℕ → ℕ
base_of q = (region (layout 0) q).base

abbrev pub width_of : ℕ → ℕ
width_of q = (region (layout 0) q).width

-- where the request of a place begins, and where its order does
abbrev pub request_start : List ℕ → ℕ → ℕ
request_start m i = (region (layout (room_of m)) requests).base + i * width_of requests

abbrev pub order_start : List ℕ → ℕ → ℕ
order_start m i = (region (layout (room_of m)) orders).base + i * width_of orders

-- the keys of the first n places are there
pub record HasKeys (m : List ℕ) (n : ℕ) : Type 0 where
  pub few : n ≤ 65_535
  pub room : after (region (layout n) keys) ≤ length m

-- ── the cells of a row ──
-- heads: whether the day is open, the last number taken, how many groups, symbols and places are in use
abbrev pub opened_at : ℕ
opened_at = 0

abbrev pub last_at : ℕ
last_at = 1

abbrev pub groups_at : ℕ
groups_at = 2

abbrev pub symbols_at : ℕ
symbols_at = 3

abbrev pub places_at : ℕ
places_at = 4

-- groups: the MPID, the six limits in 004's order, the maximum size, short sales, the block, traded and open values
abbrev pub mpid_at : ℕ
mpid_at = 0

abbrev pub gross_trade_at : ℕ
gross_trade_at = 1

abbrev pub net_trade_at : ℕ
net_trade_at = 2

abbrev pub gross_open_at : ℕ
gross_open_at = 3

abbrev pub net_open_at : ℕ
net_open_at = 4

abbrev pub gross_both_at : ℕ
gross_both_at = 5

abbrev pub net_both_at : ℕ
net_both_at = 6

abbrev pub max_size_at : ℕ
max_size_at = 7

abbrev pub short_sales_at : ℕ
short_sales_at = 8

abbrev pub blocked_at : ℕ
blocked_at = 9

abbrev pub traded_buys_at : ℕ
traded_buys_at = 10

abbrev pub traded_sells_at : ℕ
traded_sells_at = 11

abbrev pub open_buys_at : ℕ
open_buys_at = 12

abbrev pub open_sells_at : ℕ
open_sells_at = 13

-- symbols
abbrev pub id_at : ℕ
id_at = 0

abbrev pub bid_at : ℕ
bid_at = 1

abbrev pub offer_at : ℕ
offer_at = 2

-- keys: the owner's MPID, and the three words of the identifier
abbrev pub owner_at : ℕ
owner_at = 0

abbrev pub name_at : ℕ
name_at = 1

abbrev pub name_middle_at : ℕ
name_middle_at = 2

abbrev pub name_tail_at : ℕ
name_tail_at = 3

-- requests: the kind's letter, the remembered number, the target's three words, and the other fields
abbrev pub kind_at : ℕ
kind_at = 0

abbrev pub number_at : ℕ
number_at = 1

abbrev pub target_at : ℕ
target_at = 2

abbrev pub target_middle_at : ℕ
target_middle_at = 3

abbrev pub target_tail_at : ℕ
target_tail_at = 4

abbrev pub symbol_at : ℕ
symbol_at = 5

abbrev pub side_at : ℕ
side_at = 6

abbrev pub size_at : ℕ
size_at = 7

abbrev pub price_at : ℕ
price_at = 8

-- orders
abbrev pub order_price_at : ℕ
order_price_at = 0

abbrev pub order_size_at : ℕ
order_size_at = 1

abbrev pub done_at : ℕ
done_at = 2

abbrev pub cancel_asked_at : ℕ
cancel_asked_at = 3

-- how many cells there are of limits, of marks, of totals and of a target, and of what an M, a C, and a B or R have not
abbrev pub limit_cells : ℕ
limit_cells = max_size_at - gross_trade_at

abbrev pub mark_cells : ℕ
mark_cells = traded_buys_at - short_sales_at

abbrev pub total_cells : ℕ
total_cells = width_of groups - traded_buys_at

abbrev pub target_cells : ℕ
target_cells = symbol_at - target_at

abbrev pub not_of_change : ℕ
not_of_change = size_at - symbol_at

abbrev pub not_of_cancel : ℕ
not_of_cancel = width_of requests - symbol_at

abbrev pub not_of_block : ℕ
not_of_block = width_of requests - target_at
