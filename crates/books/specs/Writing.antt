-- What an edit of the rulebook writes: the stores that it makes, each within one row of one region, by the names of the cells.
use Rattle.std.specs.Prelude.{Bool, true, false, ◌&&◌, cond, List, [], ◌∷◌, ◌++◌, ℕ, suc, eqb}
use Prim.Native.Char.{code}
use Rattle.laws.specs.Tables.{sum, Shift, stay, adds, puts, shifted}
use Rattle.laws.specs.Numbered.{least}
use Rattle.laws.specs.Rows.{Sheet, Store, run}
use Rattle.rulebook.specs.Names.{Ident, Mpid, Key, same_mpid, same_key}
use Rattle.rulebook.specs.Lines.{side_letter, Deal, new, change, cancel, block, unblock}
use Rattle.rulebook.specs.Kept.{Figures, Group, Symbol, Order, Asked, by_key, worth}
use Rattle.rulebook.specs.Judging.{Deed, Edit, nothing, opened, listed, remembered, taken}
use Rattle.books.specs.Layout.{heads, groups, symbols, keys, requests, orders, layout, room_of, opened_at, last_at, groups_at, symbols_at, places_at, mpid_at, blocked_at, open_buys_at, id_at, bid_at, owner_at, kind_at, order_price_at}
use Rattle.books.specs.View.{head_in, group_of, symbol_of, opens_of, order_of, orders_in, rows_of}

-- ── where a thing stands: at the first row that has its key ──
unfoldable pub group_index : Sheet → Mpid → ℕ
group_index S m = least (λ i. same_mpid m (group_of S i).mpid) (head_in S groups_at)

unfoldable pub symbol_index : Sheet → ℕ → ℕ
symbol_index S s = least (λ i. eqb s (symbol_of S i).id) (head_in S symbols_at)

unfoldable pub order_index : Sheet → Key → ℕ
order_index S k = least (λ i. opens_of S i && same_key k (order_of S i).ticket.key) (head_in S places_at)

-- ── the words of a thing, in the order of its row's cells ──
abbrev pub bit : Bool → ℕ
bit b = cond b 1 0

abbrev pub group_words : Group → List ℕ
group_words g = let l = g.terms.limits in
    g.mpid.code ∷ l.gross_trade ∷ l.net_trade ∷ l.gross_open ∷ l.net_open ∷ l.gross_both ∷ l.net_both ∷ g.terms.max_size ∷ bit g.terms.short_sales
    ∷ bit g.blocked ∷ g.traded_buys ∷ g.traded_sells ∷ 0 ∷ 0 ∷ []

abbrev pub mark_words : Group → List ℕ
mark_words g = bit g.blocked ∷ g.traded_buys ∷ g.traded_sells ∷ []

abbrev pub symbol_words : Symbol → List ℕ
symbol_words s = s.id ∷ s.bid ∷ s.offer ∷ []

abbrev pub key_words : Key → List ℕ
key_words k = k.owner.mpid.code ∷ k.name.head ∷ k.name.middle ∷ k.name.tail ∷ []

-- what a deal's words are: 0 for a field that its kind has not
pub record Said : Type 0 where
  pub kind : ℕ
  pub target : Ident
  pub sym : ℕ
  pub side : ℕ
  pub size : ℕ
  pub price : ℕ

abbrev pub no_target : Ident
no_target = record { head = 0; middle = 0; tail = 0 }

abbrev pub said : Deal → Said
said (new s x z p) = record { kind = code "N"; target = no_target; sym = s; side = side_letter x; size = z; price = p }
said (change n z p) = record { kind = code "M"; target = n; sym = 0; side = 0; size = z; price = p }
said (cancel n) = record { kind = code "C"; target = n; sym = 0; side = 0; size = 0; price = 0 }
said block = record { kind = code "B"; target = no_target; sym = 0; side = 0; size = 0; price = 0 }
said unblock = record { kind = code "R"; target = no_target; sym = 0; side = 0; size = 0; price = 0 }

abbrev pub request_words : Asked → List ℕ
request_words a = let d = said a.request.deal in
    d.kind ∷ a.number ∷ d.target.head ∷ d.target.middle ∷ d.target.tail ∷ d.sym ∷ d.side ∷ d.size ∷ d.price ∷ []

abbrev pub figure_words : Figures → List ℕ
figure_words f = f.price ∷ f.size ∷ f.done ∷ bit f.cancel_asked ∷ []

-- a place that opens no order has figures of 0
abbrev pub no_figures : Figures
no_figures = record { price = 0; size = 0; done = 0; cancel_asked = false }

abbrev pub new_figures : Shift Order → Figures
new_figures stay = no_figures
new_figures (adds o) = o.figures
new_figures (puts o) = no_figures

-- ── the stores ──
abbrev pub store_at : ℕ → ℕ → ℕ → List ℕ → Store
store_at region line from words = record { at = region; line = line; from = from; words = words }

abbrev pub head_store : ℕ → ℕ → Store
head_store cell v = store_at heads 0 cell (v ∷ [])

-- an order amended; one that is new comes with its place
abbrev pub order_stores : Sheet → Shift Order → List Store
order_stores S stay = []
order_stores S (adds o) = []
order_stores S (puts o) = store_at orders (order_index S o.ticket.key) order_price_at (figure_words o.figures) ∷ []

-- the open values of the desk whose order it is: the sums over the orders as they are after
abbrev pub open_store : Sheet → Mpid → List Order → Store
open_store S m os = store_at groups (group_index S m) open_buys_at (sum (worth m true) os ∷ sum (worth m false) os ∷ [])

abbrev pub open_stores : Sheet → Shift Order → List Order → List Store
open_stores S stay os = []
open_stores S (adds o) os = open_store S o.ticket.key.owner.mpid os ∷ []
open_stores S (puts o) os = open_store S o.ticket.key.owner.mpid os ∷ []

-- a group listed, or its mark and its traded values set
abbrev pub group_stores : Sheet → Shift Group → List Store
group_stores S stay = []
group_stores S (adds g) = store_at groups (head_in S groups_at) mpid_at (group_words g) ∷ head_store groups_at (suc (head_in S groups_at)) ∷ []
group_stores S (puts g) = store_at groups (group_index S g.mpid) blocked_at (mark_words g) ∷ []

-- a symbol listed, or its quotes set
abbrev pub symbol_stores : Sheet → Shift Symbol → List Store
symbol_stores S stay = []
symbol_stores S (adds s) = store_at symbols (head_in S symbols_at) id_at (symbol_words s) ∷ head_store symbols_at (suc (head_in S symbols_at)) ∷ []
symbol_stores S (puts s) = store_at symbols (symbol_index S s.id) bid_at (s.bid ∷ s.offer ∷ []) ∷ []

abbrev pub deed_stores : Sheet → Deed → List Store
deed_stores S d = order_stores S d.order ++ (open_stores S d.order (shifted by_key d.order (orders_in S)) ++ (group_stores S d.group ++ symbol_stores S d.symbol))

-- a place taken, with the order that its request opens or with none
abbrev pub place_stores : Sheet → Asked → Shift Order → List Store
place_stores S a s = let n = head_in S places_at in
    store_at keys n owner_at (key_words a.request.key) ∷ store_at requests n kind_at (request_words a) ∷ store_at orders n order_price_at (figure_words (new_figures s)) ∷ head_store places_at (suc n) ∷ []

unfoldable pub stores : Sheet → Edit → List Store
stores S nothing = []
stores S opened = head_store opened_at 1 ∷ []
stores S (listed d) = deed_stores S d
stores S (remembered a d) = deed_stores S d ++ place_stores S a d.order
stores S (taken d) = deed_stores S d ++ (head_store last_at (suc (head_in S last_at)) ∷ [])

-- the lent words after an edit
unfoldable pub write : Edit → List ℕ → List ℕ
write e m = run (layout (room_of m)) (stores (rows_of m) e) m
