-- What the test says: it passes exactly where every state rule of document 01 holds.
use Rattle.std.specs.Prelude.{◌≡◌, Bool, false, ◌&&◌, ◌||◌, ◌↔◌, ℕ, zero, suc, ◌≤◌, ◌<◌, ltb}
use Rattle.std.proofs.Math.Path.{refl, sym, ap}
use Rattle.std.proofs.Common.{ap₂, ◌∙◌, subst, arith}
use Rattle.std.proofs.Math.Bool.{true, not, cond}
use Rattle.std.proofs.lemmas.Bool.{false≢true}
use Rattle.std.proofs.Math.Option.{none, some}
use mathlib.Core.List.{List, [], ◌∷◌, ◌++◌, map, map-append}
use Prim.Native.Char.{code}
use Rattle.std.proofs.Math.ListN.{length}
use Rattle.std.proofs.Math.Dec.{leb, eqb}
use borrow.Author.Tests.{not-false, leb-true, le-leb, eqb-true, eq-eqb}
use Rattle.laws.specs.Tests.{on, is_none, both, two}
use Rattle.laws.specs.Tables.{find, All, ◌also◌, sum, Has, Distinct, look}
use Rattle.laws.specs.Checks.{all_hold, rules_read, rules_met}
use Rattle.laws.specs.Numbered.{every, every_yes, every_each, apart, apart_yes, apart_each, least, those, numbered, those_none, those_more, length_numbered, all_those, each_those, find_those, map_those, distinct_numbered, numbered_distinct}
use Rattle.laws.specs.Rows.{Sheet}
use Rattle.rulebook.specs.Names.{Ident, Key, same_mpid, same_key}
use Rattle.rulebook.specs.Lines.{ceiling, Side, new, change, cancel, block, unblock, group, ask, tell, quote, size, price}
use Rattle.rulebook.specs.Kept.{Order, Group, Symbol, Asked, by_mpid, by_id, metrics, tally, worth}
use Rattle.rulebook.specs.Account.{tickets, deal_effect}
use Rattle.rulebook.specs.Rules.{FitsGroup, FitsSymbol, FitsAsked, tickets_at, tickets_in, SoundOrder, Sound}
use Rattle.rulebook.proofs.Sums.{tickets_append}
use Rattle.fields.specs.Series.{side_of}
use Rattle.packing.specs.Fitting.{fits, formed}
use Rattle.packing.specs.Exactly.{fits_exactly, formed_exactly}
use Rattle.books.specs.Layout.{least_words, room_of, groups, symbols, keys, requests, orders, opened_at, last_at, groups_at, symbols_at, places_at, short_sales_at, blocked_at, traded_buys_at, traded_sells_at, open_buys_at, open_sells_at, id_at, bid_at, offer_at, number_at, kind_at, symbol_at, side_at, size_at, price_at, order_price_at, order_size_at, done_at, cancel_asked_at}
use Rattle.books.specs.View.{flag, mpid_in, group_in, tally_in, key_in, target_in, head_in, group_of, symbol_of, asked_of, opens_of, order_of, same_place, orders_in, books_in, rows_of}
use Rattle.books.specs.Writing.{group_index, symbol_index, request_words}
use Rattle.books.specs.Refining.{Counted}
use Rattle.books.proofs.Refining.{counted}
use Rattle.books.specs.Rules.{words_in, TidyGroup, TidyPlace, Summed, Valid}
use Rattle.rules.specs.Testing.{head_fits, totals_fit, group_fits, symbol_fits, same_words, request_fits, no_figures, figures_fit, desk_listed, symbol_listed, no_totals, sums_are, rules, state_ok}

-- ── tests, read ──
-- the rules, one by one
pub record Holds (room : ℕ) (S : Sheet) : Type 0 where
  pub few_groups : leb (head_in S groups_at) 64 ≡ true
  pub few_symbols : leb (head_in S symbols_at) 256 ≡ true
  pub few_places : leb (head_in S places_at) room ≡ true
  pub head : head_fits (head_in S) ≡ true
  pub groups_fit : every (λ i. group_fits (S groups i)) (head_in S groups_at) ≡ true
  pub symbols_fit : every (λ i. symbol_fits (S symbols i)) (head_in S symbols_at) ≡ true
  pub requests_fit : every (λ i. request_fits (S keys i) (S requests i)) (head_in S places_at) ≡ true
  pub figures_right : every (λ i. figures_fit (S requests i) (S orders i)) (head_in S places_at) ≡ true
  pub mpids_apart : apart (λ i j. same_mpid (mpid_in (S groups i)) (mpid_in (S groups j))) (head_in S groups_at) ≡ true
  pub ids_apart : apart (λ i j. eqb (S symbols i id_at) (S symbols j id_at)) (head_in S symbols_at) ≡ true
  pub keys_apart : apart (same_place S) (head_in S places_at) ≡ true
  pub desks_listed : every (desk_listed S) (head_in S places_at) ≡ true
  pub symbols_listed : every (symbol_listed S) (head_in S places_at) ≡ true
  pub none_early : (flag (head_in S opened_at) || eqb (head_in S places_at) 0) ≡ true
  pub nothing_early : (flag (head_in S opened_at) || every (λ i. no_totals (S groups i)) (head_in S groups_at)) ≡ true
  pub done_within : every (λ i. leb (S orders i done_at) (S orders i order_size_at)) (head_in S places_at) ≡ true
  pub sums_right : every (sums_are S) (head_in S groups_at) ≡ true
  pub gross_within : every (λ i. leb (metrics (tally_in (S groups i))).gross_both ceiling) (head_in S groups_at) ≡ true

collected : (room : ℕ) (S : Sheet) → All (λ b. b ≡ true) (rules room S) → Holds room S
unfolding rules
collected room S (a, (b, (c, (d, (e, (f, (g, (h, (i, (j, (k, (l, (m, (n, (o, (p, (q, (r, z)))))))))))))))))) =
    record { few_groups = a; few_symbols = b; few_places = c; head = d; groups_fit = e; symbols_fit = f; requests_fit = g; figures_right = h; mpids_apart = i; ids_apart = j; keys_apart = k; desks_listed = l; symbols_listed = m; none_early = n; nothing_early = o; done_within = p; sums_right = q; gross_within = r }

pub holding : (room : ℕ) (S : Sheet) → all_hold (rules room S) ≡ true → Holds room S
holding room S e = collected room S (rules_read (rules room S) e)

pub held : (room : ℕ) (S : Sheet) → Holds room S → all_hold (rules room S) ≡ true
unfolding rules
held room S h = rules_met _ (h.few_groups also h.few_symbols also h.few_places also h.head also h.groups_fit also h.symbols_fit also h.requests_fit also h.figures_right also h.mpids_apart also h.ids_apart also h.keys_apart also h.desks_listed also h.symbols_listed also h.none_early also h.nothing_early also h.done_within also h.sums_right also h.gross_within also tt)

-- ── a search of the rows, and whether a thing is listed ──
has_index : {A : Type 0} (u : A → Bool) (f : ℕ → A) (n : ℕ) → is_none (find u (numbered f n)) ≡ not (ltb (least (λ j. u (f j)) n) n)
has_index u f n = ap is_none (find_those u (λ i. true) f n) ∙ on (λ b. is_none (cond b (some (f (least (λ j. u (f j)) n))) none) ≡ not b) (ltb (least (λ j. u (f j)) n) n) (λ e. refl) (λ e. refl)

-- ── marks and totals ──
-- a rule of what may be unused
unless : (b c : Bool) → (b || c) ≡ true → b ≡ false → c ≡ true
unless true c e h = absurd (false≢true (sym h))
unless false c e h = e

orelse : (b c : Bool) → (b ≡ false → c ≡ true) → (b || c) ≡ true
orelse true c f = refl
orelse false c f = f refl

pub words_same : (xs ys : List ℕ) → same_words xs ys ≡ true → xs ≡ ys
unfolding same_words
words_same [] [] e = refl
words_same [] (y ∷ ys) e = absurd (false≢true e)
words_same (x ∷ xs) [] e = absurd (false≢true e)
words_same (x ∷ xs) (y ∷ ys) e = let w = both {a = eqb x y} e in ap₂ {C = List ℕ} (λ a l. a ∷ l) (eqb-true x y w.0) (words_same xs ys w.1)

pub same_itself : (xs ys : List ℕ) → xs ≡ ys → same_words xs ys ≡ true
unfolding same_words
same_itself xs ys e = subst (λ ys. same_words xs ys ≡ true) e (go xs)
  where
    go : (xs : List ℕ) → same_words xs xs ≡ true
    go [] = refl
    go (x ∷ xs) = two (eq-eqb x x refl) (go xs)

-- ── the orders are those of the passed N ──
deal_tickets : (k : Key) (n m c b : Bool) (s : ℕ) (x : Side) (z p : ℕ) (t : Ident) →
    tickets (deal_effect k (cond n (new s x z p) (cond m (change t z p) (cond c (cancel t) (cond b block unblock))))) ≡ cond n (record { key = k; sym = s; side = x } ∷ []) []
deal_tickets k true m c b s x z p t = refl
deal_tickets k false true c b s x z p t = refl
deal_tickets k false false true b s x z p t = refl
deal_tickets k false false false true s x z p t = refl
deal_tickets k false false false false s x z p t = refl

passed : {A : Type 0} (n z : Bool) (x y : List A) → x ≡ cond n y [] → cond z x [] ≡ cond (n && z) y []
passed true true x y e = e
passed true false x y e = refl
passed false true x y e = e
passed false false x y e = refl

ticket_at : (S : Sheet) (i : ℕ) → tickets_at (asked_of S i) ≡ cond (opens_of S i) ((order_of S i).ticket ∷ []) []
ticket_at S i = let r = S requests i in passed (eqb (r kind_at) (code "N")) (eqb (r number_at) 0) _ ((order_of S i).ticket ∷ [])
    (deal_tickets (key_in (S keys i)) (eqb (r kind_at) (code "N")) (eqb (r kind_at) (code "M")) (eqb (r kind_at) (code "C")) (eqb (r kind_at) (code "B")) (r symbol_at) (side_of (r side_at)) (r size_at) (r price_at) (target_in r))

tickets_read : (S : Sheet) (n : ℕ) → map (λ (o : Order). o.ticket) (those (opens_of S) (order_of S) n) ≡ tickets_in (numbered (asked_of S) n)
tickets_read S zero = rw (those_none (opens_of S) (order_of S), those_none (λ i. true) (asked_of S)) refl
tickets_read S (suc n) = rw (those_more (opens_of S) (order_of S) n, those_more (λ i. true) (asked_of S) n, tickets_append (numbered (asked_of S) n) (asked_of S n), map-append (λ (o : Order). o.ticket) (those (opens_of S) (order_of S) n) (cond (opens_of S n) (order_of S n ∷ []) []), tickets_read S n)
    (ap (λ l. tickets_in (numbered (asked_of S) n) ++ l) (on (λ b. map (λ (o : Order). o.ticket) (cond b (order_of S n ∷ []) []) ≡ cond b ((order_of S n).ticket ∷ []) []) (opens_of S n) (λ e. refl) (λ e. refl) ∙ sym (ticket_at S n)))

-- ── from the test to the rules ──
module _ (room : ℕ) (S : Sheet) (h : Holds room S) where
  each_group : (i : ℕ) → i < head_in S groups_at → (formed (group (mpid_in (S groups i)) (group_in (S groups i)).terms) ≡ true) × ((leb (S groups i short_sales_at) 1 && (leb (S groups i blocked_at) 1 && totals_fit (S groups i))) ≡ true)
  unfolding group_fits
  each_group i lt = both (every_each (λ i. group_fits (S groups i)) (head_in S groups_at) h.groups_fit i lt)

  each_symbol : (i : ℕ) → i < head_in S symbols_at → FitsSymbol (symbol_of S i)
  unfolding symbol_fits
  each_symbol i lt = (formed_exactly (tell 1 (quote (S symbols i id_at) (S symbols i bid_at) (S symbols i offer_at)))).0 (every_each (λ i. symbol_fits (S symbols i)) (head_in S symbols_at) h.symbols_fit i lt)

  pub record Place (i : ℕ) : Type 0 where
    pub asked : FitsAsked (asked_of S i)
    pub as_written : words_in (S requests i) ≡ request_words (asked_of S i)

  each_place : (i : ℕ) → i < head_in S places_at → Place i
  unfolding request_fits
  each_place i lt =
      let w = both (every_each (λ i. request_fits (S keys i) (S requests i)) (head_in S places_at) h.requests_fit i lt) in
      let v = both w.1 in
      record { asked = ((formed_exactly (ask (asked_of S i).request)).0 w.0, v.0); as_written = words_same _ _ v.1 }

  each_figures : (i : ℕ) → i < head_in S places_at → cond (opens_of S i) (fits (size (S orders i order_size_at)) && (fits (price (S orders i order_price_at)) && leb (S orders i cancel_asked_at) 1)) (no_figures (S orders i)) ≡ true
  unfolding figures_fit
  each_figures i lt = every_each (λ i. figures_fit (S requests i) (S orders i)) (head_in S places_at) h.figures_right i lt

  -- an order's symbol is listed
  each_symbol_listed : (i : ℕ) → i < head_in S places_at → opens_of S i ≡ true → Has by_id (order_of S i).ticket.sym (numbered (symbol_of S) (head_in S symbols_at))
  unfolding symbol_listed symbol_index look
  each_symbol_listed i lt e = has_index _ (symbol_of S) (head_in S symbols_at) ∙ ap not (rw e at (every_each (symbol_listed S) (head_in S places_at) h.symbols_listed i lt))

  each_desk_listed : (i : ℕ) → i < head_in S places_at → Has by_mpid (asked_of S i).request.key.owner.mpid (numbered (group_of S) (head_in S groups_at))
  unfolding desk_listed group_index look
  each_desk_listed i lt = has_index _ (group_of S) (head_in S groups_at) ∙ ap not (every_each (desk_listed S) (head_in S places_at) h.desks_listed i lt)

  order_figures : (i : ℕ) → i < head_in S places_at → opens_of S i ≡ true → (fits (size (S orders i order_size_at)) ≡ true) × (fits (price (S orders i order_price_at)) ≡ true) × (leb (S orders i cancel_asked_at) 1 ≡ true)
  order_figures i lt e = let w = both (rw e at (each_figures i lt)) in let v = both w.1 in (w.0, v.0, v.1)

  each_order : (i : ℕ) → i < head_in S places_at → opens_of S i ≡ true → SoundOrder (numbered (symbol_of S) (head_in S symbols_at)) (order_of S i)
  each_order i lt e =
      let w = order_figures i lt e in
      record {
        size_fits = (fits_exactly (size (S orders i order_size_at)) tt).0 w.0;
        price_fits = (fits_exactly (price (S orders i order_price_at)) tt).0 w.1;
        listed = each_symbol_listed i lt e;
        done_within = leb-true _ _ (every_each (λ i. leb (S orders i done_at) (S orders i order_size_at)) (head_in S places_at) h.done_within i lt);
      }

  each_sum : (i : ℕ) → i < head_in S groups_at → Summed (orders_in S) (S groups i)
  unfolding sums_are
  each_sum i lt = let w = both (every_each (sums_are S) (head_in S groups_at) h.sums_right i lt) in record { open_buys = eqb-true _ _ w.0; open_sells = eqb-true _ _ w.1 }

  each_gross : (i : ℕ) → i < head_in S groups_at → (metrics (tally (group_of S i) (orders_in S))).gross_both ≤ ceiling
  each_gross i lt = let s = each_sum i lt in
      let g : (metrics (tally_in (S groups i))).gross_both ≤ ceiling = leb-true _ _ (every_each (λ i. leb (metrics (tally_in (S groups i))).gross_both ceiling) (head_in S groups_at) h.gross_within i lt) in
      omega (arith, s.open_buys, s.open_sells)

  each_zero : flag (head_in S opened_at) ≡ false → (i : ℕ) → i < head_in S groups_at → (S groups i traded_buys_at ≡ 0) × (S groups i traded_sells_at ≡ 0)
  unfolding no_totals
  each_zero e i lt =
      let w = both (every_each (λ i. no_totals (S groups i)) (head_in S groups_at) (unless _ _ h.nothing_early e) i lt) in
      (eqb-true _ _ w.0, eqb-true _ _ (both w.1).0)

  each_tidy : (i : ℕ) → i < head_in S groups_at → TidyGroup (S groups i)
  each_tidy i lt = let w = both (each_group i lt).1 in record { short_sales_mark = leb-true _ _ w.0; blocked_mark = leb-true _ _ (both w.1).0 }

  zeros : (i : ℕ) → i < head_in S places_at → opens_of S i ≡ false → let o = S orders i in (o order_price_at ≡ 0) × (o order_size_at ≡ 0) × (o done_at ≡ 0) × (o cancel_asked_at ≡ 0)
  unfolding no_figures
  zeros i lt e =
      let w = both (rw e at (each_figures i lt)) in
      let v = both w.1 in
      let u = both v.1 in
      (eqb-true _ _ w.0, eqb-true _ _ v.0, eqb-true _ _ u.0, eqb-true _ _ u.1)

  each_tidy_place : (i : ℕ) → i < head_in S places_at → TidyPlace (S keys i) (S requests i) (S orders i)
  each_tidy_place i lt = record {
    as_written = (each_place i lt).as_written;
    cancel_mark = on (λ b. opens_of S i ≡ b → S orders i cancel_asked_at ≤ 1) (opens_of S i)
        (λ z e. leb-true _ _ (order_figures i lt e).2) (λ z e. omega (arith, (zeros i lt e).3)) refl;
    unused = zeros i lt;
  }

  head_read : (head_in S opened_at ≤ 1) × (head_in S last_at ≤ 4_294_967_295)
  unfolding head_fits
  head_read = let w = both h.head in (leb-true _ _ w.0, leb-true _ _ w.1)

  empty : flag (head_in S opened_at) ≡ false → numbered (asked_of S) (head_in S places_at) ≡ []
  empty e = ap (numbered (asked_of S)) (eqb-true (head_in S places_at) 0 (unless _ _ h.none_early e)) ∙ those_none (λ i. true) (asked_of S)

  sound : room ≤ 65_535 → Sound (books_in room S)
  unfolding books_in
  sound most = record {
    ledger = record {
      few_groups = omega (arith, leb-true (head_in S groups_at) 64 h.few_groups, length_numbered (group_of S) (head_in S groups_at));
      few_symbols = omega (arith, leb-true (head_in S symbols_at) 256 h.few_symbols, length_numbered (symbol_of S) (head_in S symbols_at));
      groups_fit = all_those FitsGroup (λ i. true) (group_of S) (head_in S groups_at) (λ i lt e. (formed_exactly (group (mpid_in (S groups i)) (group_in (S groups i)).terms)).0 (each_group i lt).0);
      symbols_fit = all_those FitsSymbol (λ i. true) (symbol_of S) (head_in S symbols_at) (λ i lt e. each_symbol i lt);
      orders_sound = all_those (SoundOrder (numbered (symbol_of S) (head_in S symbols_at))) (opens_of S) (order_of S) (head_in S places_at) each_order;
      groups_apart = rw (map_those (λ (g : Group). g.mpid) (λ i. true) (group_of S) (head_in S groups_at)) (distinct_numbered same_mpid (λ i. (group_of S i).mpid) (head_in S groups_at) (apart_each _ (head_in S groups_at) h.mpids_apart));
      symbols_apart = rw (map_those (λ (s : Symbol). s.id) (λ i. true) (symbol_of S) (head_in S symbols_at)) (distinct_numbered eqb (λ i. (symbol_of S i).id) (head_in S symbols_at) (apart_each _ (head_in S symbols_at) h.ids_apart));
      gross_within = all_those (λ g. (metrics (tally g (orders_in S))).gross_both ≤ ceiling) (λ i. true) (group_of S) (head_in S groups_at) (λ i lt e. each_gross i lt);
    };
    few_asked = omega (arith, leb-true (head_in S places_at) room h.few_places, length_numbered (asked_of S) (head_in S places_at));
    small_room = most;
    last_fits = head_read.1;
    asked_fit = all_those FitsAsked (λ i. true) (asked_of S) (head_in S places_at) (λ i lt e. (each_place i lt).asked);
    asked_apart = rw (map_those (λ (a : Asked). a.request.key) (λ i. true) (asked_of S) (head_in S places_at)) (distinct_numbered same_key (λ i. (asked_of S i).request.key) (head_in S places_at) (apart_each _ (head_in S places_at) h.keys_apart));
    asked_listed = all_those (λ a. Has by_mpid a.request.key.owner.mpid (numbered (group_of S) (head_in S groups_at))) (λ i. true) (asked_of S) (head_in S places_at) (λ i lt e. each_desk_listed i lt);
    orders_asked = tickets_read S (head_in S places_at);
    before_open = λ e. (empty e, all_those (λ (g : Group). (g.traded_buys ≡ 0) × (g.traded_sells ≡ 0)) (λ i. true) (group_of S) (head_in S groups_at) (λ i lt q. each_zero e i lt));
  }

pub counted_by : (m : List ℕ) → least_words ≤ length m → Holds (room_of m) (rows_of m) → Counted m
counted_by m l h = counted m l (leb-true _ _ h.few_groups) (leb-true _ _ h.few_symbols) (leb-true _ _ h.few_places)

valid_of : (m : List ℕ) → least_words ≤ length m → Holds (room_of m) (rows_of m) → Valid m
valid_of m l h = let c = counted_by m l h in
    record { long = l; sound = sound (room_of m) (rows_of m) h c.most; opened_mark = (head_read (room_of m) (rows_of m) h).0; groups_tidy = each_tidy (room_of m) (rows_of m) h; places_tidy = each_tidy_place (room_of m) (rows_of m) h; summed = each_sum (room_of m) (rows_of m) h }

-- ── and back ──
module _ (m : List ℕ) (v : Valid m) where
  abbrev S : Sheet
  S = rows_of m

  abbrev ng : ℕ
  ng = head_in S groups_at

  abbrev ns : ℕ
  ns = head_in S symbols_at

  abbrev np : ℕ
  np = head_in S places_at

  gross_stored : (i : ℕ) → i < ng → (metrics (tally_in (S groups i))).gross_both ≤ ceiling
  unfolding books_in
  gross_stored i lt = let s = v.summed i lt in
      let g : (metrics (tally (group_of S i) (orders_in S))).gross_both ≤ ceiling = each_those (λ g. (metrics (tally g (orders_in S))).gross_both ≤ ceiling) (λ i. true) (group_of S) ng v.sound.ledger.gross_within i lt refl in
      omega (arith, s.open_buys, s.open_sells)

  group_passes : (i : ℕ) → i < ng → group_fits (S groups i) ≡ true
  unfolding group_fits totals_fit books_in
  group_passes i lt = let t = v.groups_tidy i lt in let g = gross_stored i lt in
      two ((formed_exactly (group (mpid_in (S groups i)) (group_in (S groups i)).terms)).1 (each_those FitsGroup (λ i. true) (group_of S) ng v.sound.ledger.groups_fit i lt refl))
      (two (le-leb _ 1 t.short_sales_mark) (two (le-leb _ 1 t.blocked_mark) (two (at_most traded_buys_at (omega arith)) (two (at_most traded_sells_at (omega arith)) (two (at_most open_buys_at (omega arith)) (at_most open_sells_at (omega arith)))))))
    where
      at_most : (k : ℕ) → S groups i k ≤ ceiling → leb (S groups i k) ceiling ≡ true
      at_most k le = le-leb (S groups i k) ceiling le

  symbol_passes : (i : ℕ) → i < ns → symbol_fits (S symbols i) ≡ true
  unfolding symbol_fits books_in
  symbol_passes i lt = (formed_exactly (tell 1 (quote (S symbols i id_at) (S symbols i bid_at) (S symbols i offer_at)))).1 (each_those FitsSymbol (λ i. true) (symbol_of S) ns v.sound.ledger.symbols_fit i lt refl)

  request_passes : (i : ℕ) → i < np → request_fits (S keys i) (S requests i) ≡ true
  unfolding request_fits books_in
  request_passes i lt = let a = each_those FitsAsked (λ i. true) (asked_of S) np v.sound.asked_fit i lt refl in
      two ((formed_exactly (ask (asked_of S i).request)).1 a.0) (two a.1 (same_itself _ _ (v.places_tidy i lt).as_written))

  order_sound : (i : ℕ) → i < np → opens_of S i ≡ true → SoundOrder (numbered (symbol_of S) ns) (order_of S i)
  unfolding books_in
  order_sound i lt e = each_those (SoundOrder (numbered (symbol_of S) ns)) (opens_of S) (order_of S) np v.sound.ledger.orders_sound i lt e

  figures_pass : (i : ℕ) → i < np → figures_fit (S requests i) (S orders i) ≡ true
  unfolding figures_fit no_figures
  figures_pass i lt = on (λ b. opens_of S i ≡ b → cond b (fits (size (S orders i order_size_at)) && (fits (price (S orders i order_price_at)) && leb (S orders i cancel_asked_at) 1)) (no_figures (S orders i)) ≡ true) (opens_of S i)
      (λ z e. let o = order_sound i lt e in two ((fits_exactly (size (S orders i order_size_at)) tt).1 o.size_fits) (two ((fits_exactly (price (S orders i order_price_at)) tt).1 o.price_fits) (le-leb _ 1 (v.places_tidy i lt).cancel_mark)))
      (λ z e. let u = (v.places_tidy i lt).unused e in two (eq-eqb _ 0 u.0) (two (eq-eqb _ 0 u.1) (two (eq-eqb _ 0 u.2) (eq-eqb _ 0 u.3)))) refl

  desk_passes : (i : ℕ) → i < np → desk_listed S i ≡ true
  unfolding desk_listed group_index look books_in
  desk_passes i lt = not-false _ (sym (has_index _ (group_of S) ng) ∙ each_those (λ a. Has by_mpid a.request.key.owner.mpid (numbered (group_of S) ng)) (λ i. true) (asked_of S) np v.sound.asked_listed i lt refl)

  symbol_listing : (i : ℕ) → i < np → symbol_listed S i ≡ true
  unfolding symbol_listed symbol_index look
  symbol_listing i lt = on (λ b. opens_of S i ≡ b → cond b (ltb (symbol_index S (S requests i symbol_at)) ns) true ≡ true) (opens_of S i)
      (λ z e. not-false _ (sym (has_index _ (symbol_of S) ns) ∙ (order_sound i lt e).listed)) (λ z e. refl) refl

  done_passes : (i : ℕ) → i < np → leb (S orders i done_at) (S orders i order_size_at) ≡ true
  done_passes i lt = le-leb _ _ (on (λ b. opens_of S i ≡ b → S orders i done_at ≤ S orders i order_size_at) (opens_of S i) (λ z e. (order_sound i lt e).done_within) (λ z e. omega (arith, ((v.places_tidy i lt).unused e).2)) refl)

  sums_pass : (i : ℕ) → i < ng → sums_are S i ≡ true
  unfolding sums_are
  sums_pass i lt = let s = v.summed i lt in two (eq-eqb _ _ s.open_buys) (eq-eqb _ _ s.open_sells)

  none_taken : flag (head_in S opened_at) ≡ false → np ≡ 0
  unfolding books_in
  none_taken e = sym (length_numbered (asked_of S) np) ∙ ap length (v.sound.before_open e).0

  totals_zero : flag (head_in S opened_at) ≡ false → (i : ℕ) → i < ng → no_totals (S groups i) ≡ true
  unfolding no_totals books_in
  totals_zero e i lt =
      let t = each_those (λ (g : Group). (g.traded_buys ≡ 0) × (g.traded_sells ≡ 0)) (λ i. true) (group_of S) ng (v.sound.before_open e).1 i lt refl in
      let s = v.summed i lt in
      let o : orders_in S ≡ [] = ap (those (opens_of S) (order_of S)) (none_taken e) ∙ those_none (opens_of S) (order_of S) in
      two (eq-eqb _ 0 t.0) (two (eq-eqb _ 0 t.1) (two (eq-eqb _ 0 (s.open_buys ∙ ap (sum (worth (mpid_in (S groups i)) true)) o)) (eq-eqb _ 0 (s.open_sells ∙ ap (sum (worth (mpid_in (S groups i)) false)) o))))

  holds_by : Holds (room_of m) (rows_of m)
  unfolding head_fits books_in
  holds_by = let b = v.sound in record {
    few_groups = le-leb ng 64 (omega (arith, b.ledger.few_groups, length_numbered (group_of S) ng));
    few_symbols = le-leb ns 256 (omega (arith, b.ledger.few_symbols, length_numbered (symbol_of S) ns));
    few_places = le-leb np (room_of m) (omega (arith, b.few_asked, length_numbered (asked_of S) np));
    head = two (le-leb _ 1 v.opened_mark) (le-leb _ 4_294_967_295 b.last_fits);
    groups_fit = every_yes _ ng group_passes;
    symbols_fit = every_yes _ ns symbol_passes;
    requests_fit = every_yes _ np request_passes;
    figures_right = every_yes _ np figures_pass;
    mpids_apart = apart_yes _ ng (numbered_distinct same_mpid (λ i. (group_of S i).mpid) ng (subst (Distinct same_mpid) (map_those (λ (g : Group). g.mpid) (λ i. true) (group_of S) ng) b.ledger.groups_apart));
    ids_apart = apart_yes _ ns (numbered_distinct eqb (λ i. (symbol_of S i).id) ns (subst (Distinct eqb) (map_those (λ (s : Symbol). s.id) (λ i. true) (symbol_of S) ns) b.ledger.symbols_apart));
    keys_apart = apart_yes _ np (numbered_distinct same_key (λ i. (asked_of S i).request.key) np (subst (Distinct same_key) (map_those (λ (a : Asked). a.request.key) (λ i. true) (asked_of S) np) b.asked_apart));
    desks_listed = every_yes _ np desk_passes;
    symbols_listed = every_yes _ np symbol_listing;
    none_early = orelse _ _ (λ e. eq-eqb np 0 (none_taken e));
    nothing_early = orelse _ _ (λ e. every_yes _ ng (totals_zero e));
    done_within = every_yes _ np done_passes;
    sums_right = every_yes _ ng sums_pass;
    gross_within = every_yes _ ng (λ i lt. le-leb _ ceiling (gross_stored i lt));
  }

-- THEOREM. The test passes exactly where every state rule holds
pub exactly : (m : List ℕ) → (state_ok m ≡ true) ↔ Valid m
unfolding state_ok
exactly m = (
  λ e. let w = both e in valid_of m (leb-true _ _ w.0) (holding (room_of m) (rows_of m) w.1),
  λ v. two (le-leb _ _ v.long) (held (room_of m) (rows_of m) (holds_by m v)),
)
