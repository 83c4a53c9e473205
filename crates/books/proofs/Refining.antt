-- The words that an edit writes say the books that the edit makes.
use Rattle.std.specs.Prelude.{◌≡◌, Bool, true, false, cond, List, [], ◌∷◌, ◌++◌, ℕ, suc, ◌+◌, ◌*◌, ◌≤◌, ◌<◌, length, eqb}
use Rattle.std.proofs.Math.Path.{refl, sym, ap}
use Rattle.std.proofs.Common.{ap₂, ◌∙◌, subst, append-nil, length-append, eq-eqb, ne_eqb}
use Rattle.std.proofs.Math.Option.{some}
use native.Mathlib.Omega.{arith}
use Rattle.laws.specs.Tests.{on}
use Rattle.laws.specs.Tables.{All, all_both, Shift, stay, adds, puts, shifted, look, look_key, put, length_put, Steady}
use Rattle.laws.specs.Numbered.{those, numbered, those_same, those_more, length_numbered, put_those, found_those}
use Rattle.laws.specs.Rows.{Row, patch, Sheet, row_after, enter, enter_row, enter_append, row_append, Away, row_away, Shape, sheet, Fit, Shows, shown, length_run}
use Rattle.rulebook.specs.Names.{Mpid, Key}
use Rattle.rulebook.specs.Lines.{Side, buy, sell, short, exempt, side_letter, is_buy, Deal, new, change, cancel, block, unblock}
use Rattle.rulebook.specs.Kept.{Order, Group, Symbol, Asked, Ledger, Books, by_mpid, by_id, by_key}
use Rattle.rulebook.specs.Judging.{Deed, Edit, nothing, opened, listed, remembered, taken, enact, apply}
use Rattle.fields.specs.Series.{side_of}
use Rattle.books.specs.Layout.{heads, groups, symbols, keys, requests, orders, layout, least_words, place_words, room_for, room_of, opened_at, last_at, groups_at, symbols_at, places_at, open_buys_at}
use Rattle.books.specs.View.{flag, group_in, symbol_in, deal_in, asked_in, opens, order_in, head_in, group_of, symbol_of, asked_of, opens_of, order_of, orders_in, books_in, rows_of, view}
use Rattle.books.specs.Writing.{bit, group_index, symbol_index, order_index, group_words, key_words, Said, said, request_words, figure_words, new_figures, order_stores, open_stores, group_stores, symbol_stores, deed_stores, place_stores, stores, write}
use Rattle.books.specs.Refining.{AptOrder, AptGroup, AptSymbol, AptDeed, Born, Linked, AptPlace, AptSteady, Apt, Counted}

-- ── marks and letters are read as they are written ──
pub flag_bit : (b : Bool) → flag (bit b) ≡ b
flag_bit true = refl
flag_bit false = refl

side_back : (x : Side) → side_of (side_letter x) ≡ x
side_back buy = refl
side_back sell = refl
side_back short = refl
side_back exempt = refl

pub buy_read : (c : ℕ) → is_buy (side_of c) ≡ eqb c 66
buy_read c = on (λ t. is_buy (cond t buy (cond (eqb c 83) sell (cond (eqb c 72) short exempt))) ≡ t) (eqb c 66) (λ e. refl)
    (λ e. on (λ t. is_buy (cond t sell (cond (eqb c 72) short exempt)) ≡ false) (eqb c 83) (λ e. refl) (λ e. on (λ t. is_buy (cond t short exempt) ≡ false) (eqb c 72) (λ e. refl) (λ e. refl)))

group_back : (g : Group) (r : Row) → group_in (patch 0 (group_words g) r) ≡ g
group_back g r i = record { mpid = g.mpid; terms = record { limits = g.terms.limits; max_size = g.terms.max_size; short_sales = flag_bit g.terms.short_sales i }; blocked = flag_bit g.blocked i; traded_buys = g.traded_buys; traded_sells = g.traded_sells }

-- one row's words, as a deal
abbrev saying : Said → Row
saying q = patch 0 (q.kind ∷ 0 ∷ q.target.head ∷ q.target.middle ∷ q.target.tail ∷ q.sym ∷ q.side ∷ q.size ∷ q.price ∷ []) (λ k. 0)

deal_back : (d : Deal) → deal_in (saying (said d)) ≡ d
deal_back (new s x z p) = ap (λ y. new s y z p) (side_back x)
deal_back (change n z p) = refl
deal_back (cancel n) = refl
deal_back block = refl
deal_back unblock = refl

pub asked_back : (a : Asked) (k r : Row) → asked_in (patch 0 (key_words a.request.key) k) (patch 0 (request_words a) r) ≡ a
asked_back a k r = ap (λ d. record { request = record { key = a.request.key; deal = d }; number = a.number }) (deal_back a.request.deal)

order_same : {k k' r r' o o' : Row} → k ≡ k' → r ≡ r' → o ≡ o' → order_in k r o ≡ order_in k' r' o'
order_same a b c i = order_in (a i) (b i) (c i)

pub books_same : {room : ℕ} {o o' : Bool} {l l' : ℕ} {a a' : List Asked} {g g' : List Group} {y y' : List Symbol} {z z' : List Order} → o ≡ o' → l ≡ l' → a ≡ a' → g ≡ g' → y ≡ y' → z ≡ z' →
    ◌≡◌ {A = Books} (record { opened = o; last = l; room = room; asked = a; ledger = record { groups = g; symbols = y; orders = z } })
    (record { opened = o'; last = l'; room = room; asked = a'; ledger = record { groups = g'; symbols = y'; orders = z' } })
books_same {room = room} a b c d e f i = record { opened = a i; last = b i; room = room; asked = c i; ledger = record { groups = d i; symbols = e i; orders = f i } }

-- ── a table after a shift ──
-- how many entries there are
abbrev pub grown : {A : Type 0} → Shift A → ℕ → ℕ
grown stay n = n
grown (adds y) n = suc n
grown (puts y) n = n

module _ (room : ℕ) (S : Sheet) where
  abbrev ng : ℕ
  ng = head_in S groups_at

  abbrev ns : ℕ
  ns = head_in S symbols_at

  abbrev np : ℕ
  np = head_in S places_at

  abbrev ledger : Ledger
  ledger = record { groups = numbered (group_of S) ng; symbols = numbered (symbol_of S) ns; orders = orders_in S }

  -- ── which regions each part of a deed leaves ──
  order_away : (q : ℕ) (s : Shift Order) → eqb orders q ≡ false → Away q (order_stores S s)
  order_away q stay e = tt
  order_away q (adds o) e = tt
  order_away q (puts o) e = (e, tt)

  open_away : (q : ℕ) (s : Shift Order) (os : List Order) → eqb groups q ≡ false → Away q (open_stores S s os)
  open_away q stay os e = tt
  open_away q (adds o) os e = (e, tt)
  open_away q (puts o) os e = (e, tt)

  group_away : (q : ℕ) (s : Shift Group) → eqb groups q ≡ false → eqb heads q ≡ false → Away q (group_stores S s)
  group_away q stay e h = tt
  group_away q (adds g) e h = (e, (h, tt))
  group_away q (puts g) e h = (e, tt)

  symbol_away : (q : ℕ) (s : Shift Symbol) → eqb symbols q ≡ false → eqb heads q ≡ false → Away q (symbol_stores S s)
  symbol_away q stay e h = tt
  symbol_away q (adds y) e h = (e, (h, tt))
  symbol_away q (puts y) e h = (e, tt)

  module _ (d : Deed) where
    abbrev after : List Order
    after = shifted by_key d.order (orders_in S)

    -- a row after a deed: the parts in turn
    deed_row : (q j : ℕ) (r : Row) → row_after (deed_stores S d) q j r ≡ row_after (symbol_stores S d.symbol) q j (row_after (group_stores S d.group) q j (row_after (open_stores S d.order after) q j (row_after (order_stores S d.order) q j r)))
    deed_row q j r =
        row_append (order_stores S d.order) _ q j r
        ∙ row_append (open_stores S d.order after) _ q j (row_after (order_stores S d.order) q j r)
        ∙ row_append (group_stores S d.group) _ q j (row_after (open_stores S d.order after) q j (row_after (order_stores S d.order) q j r))

    pub key_row : (q j : ℕ) (r : Row) → eqb heads q ≡ false → eqb groups q ≡ false → eqb symbols q ≡ false → eqb orders q ≡ false → row_after (deed_stores S d) q j r ≡ r
    key_row q j r h g y o = deed_row q j r ∙ rw (row_away (order_stores S d.order) q j r (order_away q d.order o), row_away (open_stores S d.order after) q j r (open_away q d.order after g), row_away (group_stores S d.group) q j r (group_away q d.group g h)) (row_away (symbol_stores S d.symbol) q j r (symbol_away q d.symbol y h))

    pub order_row : (j : ℕ) (r : Row) → row_after (deed_stores S d) orders j r ≡ row_after (order_stores S d.order) orders j r
    order_row j r = let x = row_after (order_stores S d.order) orders j r in
        deed_row orders j r ∙ rw (row_away (open_stores S d.order after) orders j x (open_away orders d.order after refl), row_away (group_stores S d.group) orders j x (group_away orders d.group refl refl)) (row_away (symbol_stores S d.symbol) orders j x (symbol_away orders d.symbol refl refl))

    pub group_row : (j : ℕ) (r : Row) → row_after (deed_stores S d) groups j r ≡ row_after (group_stores S d.group) groups j (row_after (open_stores S d.order after) groups j r)
    group_row j r = deed_row groups j r ∙ rw (row_away (order_stores S d.order) groups j r (order_away groups d.order refl)) (row_away (symbol_stores S d.symbol) groups j _ (symbol_away groups d.symbol refl refl))

    pub symbol_row : (j : ℕ) (r : Row) → row_after (deed_stores S d) symbols j r ≡ row_after (symbol_stores S d.symbol) symbols j r
    symbol_row j r = deed_row symbols j r ∙ ap (row_after (symbol_stores S d.symbol) symbols j) (rw (row_away (order_stores S d.order) symbols j r (order_away symbols d.order refl), row_away (open_stores S d.order after) symbols j r (open_away symbols d.order after refl)) (row_away (group_stores S d.group) symbols j r (group_away symbols d.group refl refl)))

    pub head_row : (r : Row) → row_after (deed_stores S d) heads 0 r ≡ row_after (symbol_stores S d.symbol) heads 0 (row_after (group_stores S d.group) heads 0 r)
    head_row r = deed_row heads 0 r ∙ rw (row_away (order_stores S d.order) heads 0 r (order_away heads d.order refl)) (ap (λ x. row_after (symbol_stores S d.symbol) heads 0 (row_after (group_stores S d.group) heads 0 x)) (row_away (open_stores S d.order after) heads 0 r (open_away heads d.order after refl)))

  -- the head after a deed: the counts of what is listed may have grown
  pub record HeadAfter (h : Row) (g s p : ℕ) : Type 0 where
    pub opened_kept : h opened_at ≡ head_in S opened_at
    pub last_kept : h last_at ≡ head_in S last_at
    pub group_count : h groups_at ≡ g
    pub symbol_count : h symbols_at ≡ s
    pub place_count : h places_at ≡ p

  head_parts : (g : Shift Group) (s : Shift Symbol) → HeadAfter (row_after (symbol_stores S s) heads 0 (row_after (group_stores S g) heads 0 (head_in S))) (grown g ng) (grown s ns) np
  head_parts stay stay = record { opened_kept = refl; last_kept = refl; group_count = refl; symbol_count = refl; place_count = refl }
  head_parts stay (adds y) = record { opened_kept = refl; last_kept = refl; group_count = refl; symbol_count = refl; place_count = refl }
  head_parts stay (puts y) = record { opened_kept = refl; last_kept = refl; group_count = refl; symbol_count = refl; place_count = refl }
  head_parts (adds g) stay = record { opened_kept = refl; last_kept = refl; group_count = refl; symbol_count = refl; place_count = refl }
  head_parts (adds g) (adds y) = record { opened_kept = refl; last_kept = refl; group_count = refl; symbol_count = refl; place_count = refl }
  head_parts (adds g) (puts y) = record { opened_kept = refl; last_kept = refl; group_count = refl; symbol_count = refl; place_count = refl }
  head_parts (puts g) stay = record { opened_kept = refl; last_kept = refl; group_count = refl; symbol_count = refl; place_count = refl }
  head_parts (puts g) (adds y) = record { opened_kept = refl; last_kept = refl; group_count = refl; symbol_count = refl; place_count = refl }
  head_parts (puts g) (puts y) = record { opened_kept = refl; last_kept = refl; group_count = refl; symbol_count = refl; place_count = refl }

  pub deed_head : (d : Deed) → HeadAfter (row_after (deed_stores S d) heads 0 (head_in S)) (grown d.group ng) (grown d.symbol ns) np
  deed_head d = subst (λ r. HeadAfter r (grown d.group ng) (grown d.symbol ns) np) (sym (head_row d (head_in S))) (head_parts d.group d.symbol)

  -- ── groups ──
  -- open values are no part of the books
  open_unread : (b : Bool) (x y : ℕ) (r : Row) → group_in (cond b (patch open_buys_at (x ∷ y ∷ []) r) r) ≡ group_in r
  open_unread true x y r = refl
  open_unread false x y r = refl

  open_quiet : (s : Shift Order) (os : List Order) (j : ℕ) (r : Row) → group_in (row_after (open_stores S s os) groups j r) ≡ group_in r
  open_quiet stay os j r = refl
  open_quiet (adds o) os j r = open_unread (eqb (group_index S o.ticket.key.owner.mpid) j) _ _ r
  open_quiet (puts o) os j r = open_unread (eqb (group_index S o.ticket.key.owner.mpid) j) _ _ r

  -- a group with the mark and the traded values of another
  abbrev marked : Group → Group → Group
  marked g x = record { mpid = x.mpid; terms = x.terms; blocked = flag (bit g.blocked); traded_buys = g.traded_buys; traded_sells = g.traded_sells }

  marked_is : (g x : Group) → x.mpid ≡ g.mpid → x.terms ≡ g.terms → marked g x ≡ g
  marked_is g x p q i = record { mpid = p i; terms = q i; blocked = flag_bit g.blocked i; traded_buys = g.traded_buys; traded_sells = g.traded_sells }

  -- where the group of an MPID stands
  pub group_found : (m : Mpid) {x : Group} → look by_mpid m ledger.groups ≡ some x → (group_index S m < ng) × (group_of S (group_index S m) ≡ x)
  unfolding look group_index
  group_found m e = found_those _ (λ i. true) (group_of S) ng e

  pub symbol_found : (s : ℕ) {x : Symbol} → look by_id s ledger.symbols ≡ some x → (symbol_index S s < ns) × (symbol_of S (symbol_index S s) ≡ x)
  unfolding look symbol_index
  symbol_found s e = found_those _ (λ i. true) (symbol_of S) ns e

  pub order_found : (k : Key) {x : Order} → look by_key k ledger.orders ≡ some x → (order_index S k < np) × (order_of S (order_index S k) ≡ x)
  unfolding look order_index
  order_found k e = found_those _ (opens_of S) (order_of S) np e

  -- the rows after a shift of groups, if what is read is as it was
  abbrev group_after : Shift Group → (ℕ → Row) → ℕ → Group
  group_after s R j = group_in (row_after (group_stores S s) groups j (R j))

  groups_put : (g : Group) (R : ℕ → Row) → ((j : ℕ) → group_in (R j) ≡ group_of S j) → AptGroup ledger (puts g) → numbered (group_after (puts g) R) ng ≡ put by_mpid g ledger.groups
  unfolding group_index
  groups_put g R h a =
      let i = group_index S g.mpid in
      let x : group_in (R i) ≡ a.0 = h i ∙ (group_found g.mpid a.1).1 in
      put_those by_mpid (λ i. true) (group_of S) (group_after (puts g) R) g ng
      (rw (eq-eqb i i refl) (marked_is g (group_in (R i)) (ap (λ (x : Group). x.mpid) x ∙ sym (look_key by_mpid g.mpid ledger.groups a.1)) (ap (λ (x : Group). x.terms) x ∙ a.2)))
      (λ j lt ne. rw (ne_eqb i j (λ e. ne (sym e))) (h j))

  groups_after : (s : Shift Group) (R : ℕ → Row) → ((j : ℕ) → group_in (R j) ≡ group_of S j) → AptGroup ledger s →
      numbered (group_after s R) (grown s ng) ≡ shifted by_mpid s ledger.groups
  groups_after stay R h a = those_same _ _ _ _ ng (λ j lt. (refl, h j))
  groups_after (adds g) R h a = those_more _ (group_after (adds g) R) ng ∙ ap₂ {C = List Group} (λ l x. l ++ (x ∷ []))
      (those_same _ _ (group_after (adds g) R) (group_of S) ng (λ j lt. (refl, rw (ne_eqb ng j (λ e. omega arith)) (h j))))
      (rw (eq-eqb ng ng refl) (group_back g (R ng)))
  groups_after (puts g) R h a = groups_put g R h a

  -- ── symbols ──
  abbrev symbol_after : Shift Symbol → ℕ → Symbol
  symbol_after s j = symbol_in (row_after (symbol_stores S s) symbols j (S symbols j))

  symbols_put : (y : Symbol) → AptSymbol ledger (puts y) → numbered (symbol_after (puts y)) ns ≡ put by_id y ledger.symbols
  unfolding symbol_index
  symbols_put y a =
      let i = symbol_index S y.id in
      let k : (symbol_of S i).id ≡ y.id = ap (λ (x : Symbol). x.id) (symbol_found y.id a.1).1 ∙ sym (look_key by_id y.id ledger.symbols a.1) in
      put_those by_id (λ i. true) (symbol_of S) (symbol_after (puts y)) y ns
      (rw (eq-eqb i i refl) (λ t. record { id = k t; bid = y.bid; offer = y.offer }))
      (λ j lt ne. rw (ne_eqb i j (λ e. ne (sym e))) refl)

  symbols_after : (s : Shift Symbol) → AptSymbol ledger s → numbered (symbol_after s) (grown s ns) ≡ shifted by_id s ledger.symbols
  symbols_after stay a = refl
  symbols_after (adds y) a = those_more _ (symbol_after (adds y)) ns ∙ ap₂ {C = List Symbol} (λ l x. l ++ (x ∷ []))
      (those_same _ _ (symbol_after (adds y)) (symbol_of S) ns (λ j lt. (refl, rw (ne_eqb ns j (λ e. omega arith)) refl)))
      (rw (eq-eqb ns ns refl) refl)
  symbols_after (puts y) a = symbols_put y a

  -- ── orders ──
  -- the orders that stand, after a deed; one that is new comes with its place
  abbrev standing : Shift Order → List Order → List Order
  standing stay os = os
  standing (adds o) os = os
  standing (puts o) os = put by_key o os

  abbrev order_after : Shift Order → ℕ → Order
  order_after s j = order_in (S keys j) (S requests j) (row_after (order_stores S s) orders j (S orders j))

  orders_put : (o : Order) → AptOrder ledger (puts o) → those (opens_of S) (order_after (puts o)) np ≡ put by_key o ledger.orders
  unfolding order_index
  orders_put o a =
      let i = order_index S o.ticket.key in
      let k : (order_of S i).ticket ≡ o.ticket = ap (λ (x : Order). x.ticket) (order_found o.ticket.key a.1.1).1 ∙ a.1.2 in
      put_those by_key (opens_of S) (order_of S) (order_after (puts o)) o np
      (rw (eq-eqb i i refl) (λ t. record { ticket = k t; figures = record { price = o.figures.price; size = o.figures.size; done = o.figures.done; cancel_asked = flag_bit o.figures.cancel_asked t } }))
      (λ j lt ne. rw (ne_eqb i j (λ e. ne (sym e))) refl)

  orders_after : (s : Shift Order) → AptOrder ledger s → those (opens_of S) (order_after s) np ≡ standing s ledger.orders
  orders_after stay a = refl
  orders_after (adds o) a = refl
  orders_after (puts o) a = orders_put o a

  -- ── a deed, and then the rest of an edit ──
  -- the ledger after a deed, but for an order that comes with its place
  abbrev ledger_after : Deed → Ledger
  ledger_after d = record { groups = shifted by_mpid d.group ledger.groups; symbols = shifted by_id d.symbol ledger.symbols; orders = standing d.order ledger.orders }

  -- what a sheet says after a deed, whatever its head has become besides
  pub record After (d : Deed) (S' : Sheet) : Type 0 where
    pub head : HeadAfter (head_in S') (grown d.group ng) (grown d.symbol ns) np
    pub key_same : (j : ℕ) → S' keys j ≡ S keys j
    pub request_same : (j : ℕ) → S' requests j ≡ S requests j
    pub order_rows : (j : ℕ) → S' orders j ≡ row_after (order_stores S d.order) orders j (S orders j)
    pub group_rows : (j : ℕ) → S' groups j ≡ row_after (group_stores S d.group) groups j (row_after (open_stores S d.order (shifted by_key d.order (orders_in S))) groups j (S groups j))
    pub symbol_rows : (j : ℕ) → S' symbols j ≡ row_after (symbol_stores S d.symbol) symbols j (S symbols j)

  pub deed_after : (d : Deed) → After d (enter (deed_stores S d) S)
  deed_after d = record {
    head = subst (λ r. HeadAfter r (grown d.group ng) (grown d.symbol ns) np) (sym (enter_row (deed_stores S d) S heads 0)) (deed_head d);
    key_same = λ j. enter_row (deed_stores S d) S keys j ∙ key_row d keys j (S keys j) refl refl refl refl;
    request_same = λ j. enter_row (deed_stores S d) S requests j ∙ key_row d requests j (S requests j) refl refl refl refl;
    order_rows = λ j. enter_row (deed_stores S d) S orders j ∙ order_row d j (S orders j);
    group_rows = λ j. enter_row (deed_stores S d) S groups j ∙ group_row d j (S groups j);
    symbol_rows = λ j. enter_row (deed_stores S d) S symbols j ∙ symbol_row d j (S symbols j);
  }

  module _ (d : Deed) (a : AptDeed ledger d) (S' : Sheet) (w : After d S') where
    groups_then : numbered (group_of S') (grown d.group ng) ≡ (ledger_after d).groups
    groups_then = those_same _ _ _ _ (grown d.group ng) (λ j lt. (refl, ap group_in (w.group_rows j)))
        ∙ groups_after d.group (λ j. row_after (open_stores S d.order (shifted by_key d.order (orders_in S))) groups j (S groups j)) (λ j. open_quiet d.order _ j (S groups j)) a.group

    symbols_then : numbered (symbol_of S') (grown d.symbol ns) ≡ (ledger_after d).symbols
    symbols_then = those_same _ _ _ _ (grown d.symbol ns) (λ j lt. (refl, ap symbol_in (w.symbol_rows j))) ∙ symbols_after d.symbol a.symbol

    asked_then : numbered (asked_of S') np ≡ numbered (asked_of S) np
    asked_then = those_same _ _ _ _ np (λ j lt. (refl, ap₂ asked_in (w.key_same j) (w.request_same j)))

    orders_then : those (opens_of S') (order_of S') np ≡ (ledger_after d).orders
    orders_then = those_same _ _ _ (order_after d.order) np (λ j lt. (ap opens (w.request_same j), order_same (w.key_same j) (w.request_same j) (w.order_rows j))) ∙ orders_after d.order a.order

    -- the books after a deed alone
    deed_books : books_in room S' ≡ record { opened = flag (head_in S opened_at); last = head_in S last_at; room = room; asked = numbered (asked_of S) np; ledger = ledger_after d }
    unfolding books_in
    deed_books = let h = w.head in books_same (ap flag h.opened_kept) h.last_kept (ap (numbered (asked_of S')) h.place_count ∙ asked_then)
        (ap (numbered (group_of S')) h.group_count ∙ groups_then) (ap (numbered (symbol_of S')) h.symbol_count ∙ symbols_then) (ap (those (opens_of S') (order_of S')) h.place_count ∙ orders_then)

  -- ── the edits ──
  still : (s : Shift Order) (os : List Order) → Steady s → standing s os ≡ shifted by_key s os
  still stay os h = refl
  still (adds o) os h = absurd h
  still (puts o) os h = refl

  -- the order of a place that is taken, if it opens one
  born : (k : Key) (d : Deal) (n : ℕ) (o : Order) (x y z : Row) → n ≡ 0 → Born (record { key = k; deal = d }) o d → let a : Asked = record { request = record { key = k; deal = d }; number = n } in
      cond (opens (patch 0 (request_words a) y)) (order_in (patch 0 (key_words k) x) (patch 0 (request_words a) y) (patch 0 (figure_words o.figures) z) ∷ []) [] ≡ o ∷ []
  born k (new s e v p) n o x y z q t = rw (eq-eqb n 0 q)
      (ap (λ o. o ∷ []) (ap₂ (λ t f. record { ticket = t; figures = f }) (ap (λ e. record { key = k; sym = s; side = e }) (side_back e) ∙ t)
      (ap (λ c. record { price = o.figures.price; size = o.figures.size; done = o.figures.done; cancel_asked = c }) (flag_bit o.figures.cancel_asked))))
  born k (change m v p) n o x y z q t = absurd t
  born k (cancel m) n o x y z q t = absurd t
  born k block n o x y z q t = absurd t
  born k unblock n o x y z q t = absurd t

  holding : (a : Asked) (s : Shift Order) (os : List Order) (x y z : Row) → Linked a s →
      standing s os ++ cond (opens (patch 0 (request_words a) y)) (order_in (patch 0 (key_words a.request.key) x) (patch 0 (request_words a) y) (patch 0 (figure_words (new_figures s)) z) ∷ []) [] ≡ shifted by_key s os
  holding a stay os x y z l = rw l (append-nil os)
  holding a (adds o) os x y z l = ap (λ t. os ++ t) (born a.request.key a.request.deal a.number o x y z l.0 l.1)
  holding a (puts o) os x y z l = rw l (append-nil (put by_key o os))

  nothing_books : books_in room (enter (stores S nothing) S) ≡ apply nothing (books_in room S)
  unfolding stores apply books_in
  nothing_books = refl

  opened_books : books_in room (enter (stores S opened) S) ≡ apply opened (books_in room S)
  unfolding stores apply books_in
  opened_books = refl

  taken_books : (d : Deed) → AptSteady (books_in room S) d → books_in room (enter (stores S (taken d)) S) ≡ apply (taken d) (books_in room S)
  unfolding stores apply enact books_in
  taken_books d a = let w = deed_after d in let h = w.head in let S₁ = enter (deed_stores S d) S in
      ap (books_in room) (enter_append (deed_stores S d) _ S)
      ∙ books_same (ap flag h.opened_kept) refl (ap (numbered (asked_of S₁)) h.place_count ∙ asked_then d a.deed S₁ w)
      (ap (numbered (group_of S₁)) h.group_count ∙ groups_then d a.deed S₁ w) (ap (numbered (symbol_of S₁)) h.symbol_count ∙ symbols_then d a.deed S₁ w)
      (ap (those (opens_of S₁) (order_of S₁)) h.place_count ∙ orders_then d a.deed S₁ w ∙ still d.order (orders_in S) a.steady)

  listed_books : (d : Deed) → AptSteady (books_in room S) d → books_in room (enter (stores S (listed d)) S) ≡ apply (listed d) (books_in room S)
  unfolding stores apply enact books_in
  listed_books d a = deed_books d a.deed (enter (deed_stores S d) S) (deed_after d) ∙ books_same refl refl refl refl refl (still d.order (orders_in S) a.steady)

  -- the rows of a place that is taken, after those that were: at the new number the words, at the others nothing
  module _ (x : Asked) (s : Shift Order) (S₁ : Sheet) where
    abbrev placed : Sheet
    placed = enter (place_stores S x s) S₁

    at_old : (vs : List ℕ) (r : Row) (j : ℕ) → j < np → cond (eqb np j) (patch 0 vs r) r ≡ r
    at_old vs r j lt = rw (ne_eqb np j (λ e. omega arith)) refl

    at_new : (vs : List ℕ) (r : Row) → cond (eqb np np) (patch 0 vs r) r ≡ patch 0 vs r
    at_new vs r = rw (eq-eqb np np refl) refl

    place_asked : numbered (asked_of placed) (suc np) ≡ numbered (asked_of S₁) np ++ (x ∷ [])
    place_asked = those_more _ (asked_of placed) np ∙ ap₂ {C = List Asked} (λ l x. l ++ (x ∷ []))
        (those_same _ _ (asked_of placed) (asked_of S₁) np (λ j lt. (refl, ap₂ asked_in (at_old (key_words x.request.key) (S₁ keys j) j lt) (at_old (request_words x) (S₁ requests j) j lt))))
        (ap₂ asked_in (at_new (key_words x.request.key) (S₁ keys np)) (at_new (request_words x) (S₁ requests np)) ∙ asked_back x (S₁ keys np) (S₁ requests np))

    place_orders : Linked x s → those (opens_of S₁) (order_of S₁) np ≡ standing s (orders_in S) → those (opens_of placed) (order_of placed) (suc np) ≡ shifted by_key s (orders_in S)
    place_orders l e =
        let f : (j : ℕ) → j < np → order_of placed j ≡ order_of S₁ j = λ j lt. order_same (at_old (key_words x.request.key) (S₁ keys j) j lt) (at_old (request_words x) (S₁ requests j) j lt) (at_old (figure_words (new_figures s)) (S₁ orders j) j lt) in
        those_more (opens_of placed) (order_of placed) np ∙ ap₂ {C = List Order} (λ l k. l ++ k)
        (those_same _ _ (order_of placed) (order_of S₁) np (λ j lt. (ap opens (at_old (request_words x) (S₁ requests j) j lt), f j lt)) ∙ e)
        (rw (at_new (key_words x.request.key) (S₁ keys np), at_new (request_words x) (S₁ requests np), at_new (figure_words (new_figures s)) (S₁ orders np)) refl)
        ∙ holding x s (orders_in S) (S₁ keys np) (S₁ requests np) (S₁ orders np) l

  remembered_books : (x : Asked) (d : Deed) → AptPlace (books_in room S) x d → books_in room (enter (stores S (remembered x d)) S) ≡ apply (remembered x d) (books_in room S)
  unfolding stores apply enact books_in
  remembered_books x d a = let w = deed_after d in let h = w.head in let S₁ = enter (deed_stores S d) S in
      ap (books_in room) (enter_append (deed_stores S d) _ S)
      ∙ books_same (ap flag h.opened_kept) h.last_kept (place_asked x d.order S₁ ∙ ap (λ l. l ++ (x ∷ [])) (asked_then d a.deed S₁ w))
      (ap (numbered (group_of S₁)) h.group_count ∙ groups_then d a.deed S₁ w) (ap (numbered (symbol_of S₁)) h.symbol_count ∙ symbols_then d a.deed S₁ w)
      (place_orders x d.order S₁ a.linked (orders_then d a.deed S₁ w))

  -- on the rows, an edit does what the rulebook says
  entered : (e : Edit) → Apt (books_in room S) e → books_in room (enter (stores S e) S) ≡ apply e (books_in room S)
  entered nothing a = nothing_books
  entered opened a = opened_books
  entered (listed d) a = listed_books d a
  entered (remembered x d) a = remembered_books x d a
  entered (taken d) a = taken_books d a

pub room_most : (n : ℕ) → room_for n ≤ 65_535
unfolding room_for
room_most n = omega arith

room_fits : (n : ℕ) → least_words ≤ n → least_words + room_for n * place_words ≤ n
unfolding room_for
room_fits n h = omega arith

pub counted : (m : List ℕ) → least_words ≤ length m → head_in (rows_of m) groups_at ≤ 64 → head_in (rows_of m) symbols_at ≤ 256 → head_in (rows_of m) places_at ≤ room_of m → Counted m
counted m l g s p = record { long = l; few_groups = g; few_symbols = s; few_places = p; whole = room_fits (length m) l; most = room_most (length m) }

-- as many are listed as are counted
pub counts : (room : ℕ) (S : Sheet) → (length (books_in room S).ledger.groups ≡ head_in S groups_at) × (length (books_in room S).ledger.symbols ≡ head_in S symbols_at) × (length (books_in room S).asked ≡ head_in S places_at)
unfolding books_in
counts room S = (length_numbered (group_of S) (head_in S groups_at), length_numbered (symbol_of S) (head_in S symbols_at), length_numbered (asked_of S) (head_in S places_at))

-- what a sheet says goes by the rows that there are
read_same : (room : ℕ) (m : List ℕ) (S : Sheet) → Shows (layout room) m S → head_in S groups_at ≤ 64 → head_in S symbols_at ≤ 256 → head_in S places_at ≤ room → books_in room (sheet (layout room) m) ≡ books_in room S
unfolding books_in
read_same room m S h g y p =
    let M = sheet (layout room) m in
    let e : head_in M ≡ head_in S = h heads 0 (omega arith) in
    let at : (k : ℕ) → head_in M k ≡ head_in S k = λ k. ap (λ (r : Row). r k) e in
    books_same (ap flag (at opened_at)) (at last_at)
    (ap (numbered (asked_of M)) (at places_at) ∙ those_same _ _ (asked_of M) (asked_of S) (head_in S places_at) (λ j lt. (refl, ap₂ asked_in (h keys j (omega arith)) (h requests j (omega arith)))))
    (ap (numbered (group_of M)) (at groups_at) ∙ those_same _ _ (group_of M) (group_of S) (head_in S groups_at) (λ j lt. (refl, ap group_in (h groups j (omega arith)))))
    (ap (numbered (symbol_of M)) (at symbols_at) ∙ those_same _ _ (symbol_of M) (symbol_of S) (head_in S symbols_at) (λ j lt. (refl, ap symbol_in (h symbols j (omega arith)))))
    (ap (those (opens_of M) (order_of M)) (at places_at) ∙ those_same _ _ (order_of M) (order_of S) (head_in S places_at)
    (λ j lt. (ap opens (h requests j (omega arith)), order_same (h keys j (omega arith)) (h requests j (omega arith)) (h orders j (omega arith)))))

-- an edit that is apt keeps the counts within
few_groups_after : (l : Ledger) (s : Shift Group) → AptGroup l s → length l.groups ≤ 64 → length (shifted by_mpid s l.groups) ≤ 64
few_groups_after l stay a h = h
few_groups_after l (adds g) a h = omega (arith, length-append l.groups (g ∷ []))
few_groups_after l (puts g) a h = omega (arith, length_put by_mpid g l.groups)

few_symbols_after : (l : Ledger) (s : Shift Symbol) → AptSymbol l s → length l.symbols ≤ 256 → length (shifted by_id s l.symbols) ≤ 256
few_symbols_after l stay a h = h
few_symbols_after l (adds y) a h = omega (arith, length-append l.symbols (y ∷ []))
few_symbols_after l (puts y) a h = omega (arith, length_put by_id y l.symbols)

-- the books' counts are within the regions
pub record Few (b : Books) : Type 0 where
  pub groups : length b.ledger.groups ≤ 64
  pub symbols : length b.ledger.symbols ≤ 256
  pub places : length b.asked ≤ b.room

few_after : (b : Books) (e : Edit) → Apt b e → Few b → Few (apply e b)
unfolding apply enact
few_after b nothing a f = f
few_after b opened a f = record { groups = f.groups; symbols = f.symbols; places = f.places }
few_after b (listed d) a f = record { groups = few_groups_after b.ledger d.group a.deed.group f.groups; symbols = few_symbols_after b.ledger d.symbol a.deed.symbol f.symbols; places = f.places }
few_after b (taken d) a f = record { groups = few_groups_after b.ledger d.group a.deed.group f.groups; symbols = few_symbols_after b.ledger d.symbol a.deed.symbol f.symbols; places = f.places }
few_after b (remembered x d) a f = record { groups = few_groups_after b.ledger d.group a.deed.group f.groups; symbols = few_symbols_after b.ledger d.symbol a.deed.symbol f.symbols; places = omega (arith, length-append b.asked (x ∷ []), a.free) }

pub few_of : (m : List ℕ) → Counted m → Few (view m)
unfolding books_in
few_of m c = record { groups = rw (counts (room_of m) (rows_of m)).0 c.few_groups; symbols = rw (counts (room_of m) (rows_of m)).1 c.few_symbols; places = rw (counts (room_of m) (rows_of m)).2 c.few_places }

-- every store of an edit keeps to its row
module _ (m : List ℕ) (c : Counted m) where
  abbrev L : List Shape
  L = layout (room_of m)

  abbrev S : Sheet
  S = rows_of m

  abbrev led : Ledger
  led = ledger (room_of m) S

  order_fit : (s : Shift Order) → AptOrder led s → All (Fit L) (order_stores S s)
  order_fit stay a = tt
  order_fit (adds o) a = tt
  order_fit (puts o) a = ((omega (arith, (order_found (room_of m) S o.ticket.key a.1.1).0, c.few_places), omega arith), tt)

  open_fit : (s : Shift Order) (os : List Order) → AptOrder led s → All (Fit L) (open_stores S s os)
  open_fit stay os a = tt
  open_fit (adds o) os a = ((omega (arith, (group_found (room_of m) S o.ticket.key.owner.mpid a.1).0, c.few_groups), omega arith), tt)
  open_fit (puts o) os a = ((omega (arith, (group_found (room_of m) S o.ticket.key.owner.mpid a.0.1).0, c.few_groups), omega arith), tt)

  group_fit : (s : Shift Group) → AptGroup led s → All (Fit L) (group_stores S s)
  group_fit stay a = tt
  group_fit (adds g) a = ((omega (arith, a, length_numbered (group_of S) (head_in S groups_at)), omega arith), ((omega arith, omega arith), tt))
  group_fit (puts g) a = ((omega (arith, (group_found (room_of m) S g.mpid a.1).0, c.few_groups), omega arith), tt)

  symbol_fit : (s : Shift Symbol) → AptSymbol led s → All (Fit L) (symbol_stores S s)
  symbol_fit stay a = tt
  symbol_fit (adds y) a = ((omega (arith, a, length_numbered (symbol_of S) (head_in S symbols_at)), omega arith), ((omega arith, omega arith), tt))
  symbol_fit (puts y) a = ((omega (arith, (symbol_found (room_of m) S y.id a.1).0, c.few_symbols), omega arith), tt)

  deed_fit : (d : Deed) → AptDeed led d → All (Fit L) (deed_stores S d)
  deed_fit d a = all_both (Fit L) (order_stores S d.order) _ (order_fit d.order a.order)
      (all_both (Fit L) (open_stores S d.order (shifted by_key d.order (orders_in S))) _ (open_fit d.order _ a.order)
      (all_both (Fit L) (group_stores S d.group) _ (group_fit d.group a.group) (symbol_fit d.symbol a.symbol)))

  pub edit_fit : (e : Edit) → Apt (view m) e → All (Fit L) (stores S e)
  unfolding stores books_in
  edit_fit nothing a = tt
  edit_fit opened a = ((omega arith, omega arith), tt)
  edit_fit (listed d) a = deed_fit d a.deed
  edit_fit (remembered x d) a = let n : head_in S places_at < room_of m = omega (arith, a.free, length_numbered (asked_of S) (head_in S places_at)) in
      all_both (Fit L) (deed_stores S d) _ (deed_fit d a.deed) ((omega arith, omega arith), ((omega arith, omega arith), ((omega arith, omega arith), ((omega arith, omega arith), tt))))
  edit_fit (taken d) a = all_both (Fit L) (deed_stores S d) _ (deed_fit d a.deed) ((omega arith, omega arith), tt)

-- a memory of this length, by the rows of that one's layout
view_at : (m n : List ℕ) → length n ≡ length m → view n ≡ books_in (room_of m) (sheet (layout (room_of m)) n)
view_at m n e = ap (λ (k : ℕ). books_in (room_for k) (sheet (layout (room_for k)) n)) e

pub length_write : (e : Edit) (m : List ℕ) → length (write e m) ≡ length m
unfolding write
length_write e m = length_run (layout (room_of m)) (stores (rows_of m) e) m

-- the rows after an edit
pub write_shows : (m : List ℕ) → Counted m → (e : Edit) → Apt (view m) e → Shows (layout (room_of m)) (write e m) (enter (stores (rows_of m) e) (rows_of m))
unfolding write
write_shows m c e a = shown (layout (room_of m)) m (rows_of m) (stores (rows_of m) e) (omega (arith, c.whole)) (edit_fit m c e a) (λ q j h. refl)

-- THEOREM. The words after an edit say the books after it
pub refines : (m : List ℕ) → Counted m → (e : Edit) → Apt (view m) e → view (write e m) ≡ apply e (view m)
unfolding books_in
refines m c e a =
    let S' = enter (stores (rows_of m) e) (rows_of m) in
    let q = entered (room_of m) (rows_of m) e a in
    let f : Few (books_in (room_of m) S') = subst Few (sym q) (few_after (view m) e a (few_of m c)) in
    let n = counts (room_of m) S' in
    view_at m (write e m) (length_write e m)
    ∙ read_same (room_of m) (write e m) S' (write_shows m c e a) (omega (arith, n.0, f.groups)) (omega (arith, n.1, f.symbols)) (omega (arith, n.2, f.places))
    ∙ q
