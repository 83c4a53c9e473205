-- What the lent words say: the rulebook's books, read off the rows.
use Rattle.std.specs.Prelude.{Bool, ◌&&◌, cond, List, ℕ, ltb, eqb}
use Prim.Native.Char.{code}
use Rattle.laws.specs.Numbered.{those, numbered}
use Rattle.laws.specs.Rows.{Row, Sheet, sheet}
use Rattle.rulebook.specs.Names.{Ident, Key, Mpid, same_key}
use Rattle.rulebook.specs.Lines.{Deal, new, change, cancel, block, unblock}
use Rattle.rulebook.specs.Kept.{Figures, Group, Symbol, Order, Asked, Books, Tally}
use Rattle.fields.specs.Series.{side_of}
use Rattle.books.specs.Layout.{heads, groups, symbols, keys, requests, orders, layout, room_of, opened_at, last_at, groups_at, symbols_at, places_at, mpid_at, gross_trade_at, net_trade_at, gross_open_at, net_open_at, gross_both_at, net_both_at, max_size_at, short_sales_at, blocked_at, traded_buys_at, traded_sells_at, open_buys_at, open_sells_at, id_at, bid_at, offer_at, owner_at, name_at, name_middle_at, name_tail_at, kind_at, number_at, target_at, target_middle_at, target_tail_at, symbol_at, side_at, size_at, price_at, order_price_at, order_size_at, done_at, cancel_asked_at}

-- a mark is set or not
abbrev pub flag : ℕ → Bool
flag n = ltb 0 n

-- ── what a row says ──
abbrev pub mpid_in : Row → Mpid
mpid_in r = record { code = r mpid_at }

abbrev pub group_in : Row → Group
group_in r = record {
  mpid = mpid_in r;
  terms = record {
    limits = record { gross_trade = r gross_trade_at; net_trade = r net_trade_at; gross_open = r gross_open_at; net_open = r net_open_at; gross_both = r gross_both_at; net_both = r net_both_at };
    max_size = r max_size_at;
    short_sales = flag (r short_sales_at);
  };
  blocked = flag (r blocked_at);
  traded_buys = r traded_buys_at;
  traded_sells = r traded_sells_at;
}

-- the totals as they are stored; the open ones are no part of the books
abbrev pub tally_in : Row → Tally
tally_in r = record { tb = r traded_buys_at; ts = r traded_sells_at; ob = r open_buys_at; os = r open_sells_at }

abbrev pub symbol_in : Row → Symbol
symbol_in r = record { id = r id_at; bid = r bid_at; offer = r offer_at }

abbrev pub key_in : Row → Key
key_in r = record { owner = record { mpid = record { code = r owner_at } }; name = record { head = r name_at; middle = r name_middle_at; tail = r name_tail_at } }

abbrev pub target_in : Row → Ident
target_in r = record { head = r target_at; middle = r target_middle_at; tail = r target_tail_at }

abbrev pub deal_in : Row → Deal
deal_in r = cond (eqb (r kind_at) (code "N")) (new (r symbol_at) (side_of (r side_at)) (r size_at) (r price_at))
    (cond (eqb (r kind_at) (code "M")) (change (target_in r) (r size_at) (r price_at))
    (cond (eqb (r kind_at) (code "C")) (cancel (target_in r))
    (cond (eqb (r kind_at) (code "B")) block unblock)))

-- a place: its key's row and its request's row
abbrev pub asked_in : Row → Row → Asked
asked_in k r = record { request = record { key = key_in k; deal = deal_in r }; number = r number_at }

-- a passed N holds an order
abbrev pub opens : Row → Bool
opens r = eqb (r kind_at) (code "N") && eqb (r number_at) 0

abbrev pub figures_in : Row → Figures
figures_in r = record { price = r order_price_at; size = r order_size_at; done = r done_at; cancel_asked = flag (r cancel_asked_at) }

abbrev pub order_in : Row → Row → Row → Order
order_in k r o = record { ticket = record { key = key_in k; sym = r symbol_at; side = side_of (r side_at) }; figures = figures_in o }

-- ── what the rows say ──
abbrev pub head_in : Sheet → Row
head_in S = S heads 0

abbrev pub group_of : Sheet → ℕ → Group
group_of S i = group_in (S groups i)

abbrev pub symbol_of : Sheet → ℕ → Symbol
symbol_of S i = symbol_in (S symbols i)

abbrev pub asked_of : Sheet → ℕ → Asked
asked_of S i = asked_in (S keys i) (S requests i)

-- two places have one key
abbrev pub same_place : Sheet → ℕ → ℕ → Bool
same_place S i j = same_key (key_in (S keys i)) (key_in (S keys j))

abbrev pub opens_of : Sheet → ℕ → Bool
opens_of S i = opens (S requests i)

abbrev pub order_of : Sheet → ℕ → Order
order_of S i = order_in (S keys i) (S requests i) (S orders i)

abbrev pub orders_in : Sheet → List Order
orders_in S = those (opens_of S) (order_of S) (head_in S places_at)

unfoldable pub books_in : ℕ → Sheet → Books
books_in room S = record {
  opened = flag (head_in S opened_at);
  last = head_in S last_at;
  room = room;
  asked = numbered (asked_of S) (head_in S places_at);
  ledger = record { groups = numbered (group_of S) (head_in S groups_at); symbols = numbered (symbol_of S) (head_in S symbols_at); orders = orders_in S };
}

-- the rows of the lent words, and the books that they say
abbrev pub rows_of : List ℕ → Sheet
rows_of m = sheet (layout (room_of m)) m

abbrev pub view : List ℕ → Books
view m = books_in (room_of m) (rows_of m)
