-- What the code's rulings are: the rulebook's, by rows.
use Rattle.std.proofs.Math.Path as path
use Rattle.std.specs.Prelude.{◌≡◌, Bool, true, false, cond, ℕ, ◌<◌, ◌≤◌, ◌*◌, eqb, Result, Ok, Err, Some, None}
use Rattle.std.proofs.Math.Path.{refl, sym, ap, subst}
use Rattle.std.proofs.Common.{◌∙◌}
use Rattle.std.proofs.Math.Option.{some, none, Option-elim}
use mathlib.Core.List.{List, []}
use Rattle.std.proofs.Math.Dec.{ltb}
use borrow.Author.Tests.{ltb-true, ltb-false, ne_eqb}
use Rattle.std.specs.Option.{ok_or}
use Rattle.laws.specs.Tests.{on, is_none}
use Rattle.laws.specs.Tables.{stay, adds, puts, shifted, put, sum, look}
use Rattle.laws.specs.Checks.{Check, first, here, past, all_past}
use Rattle.laws.specs.Rows.{Sheet}
use Rattle.rulebook.specs.Names.{Key}
use Rattle.rulebook.specs.Lines.{is_buy}
use Rattle.rulebook.specs.Kept.{Figures, Order, Group, Symbol, by_id, by_key, with_figures, sized, asking, worked, traded, new_order, open_value, worth, tested, blocking, Tally, tally}
use Rattle.rulebook.specs.Judging as judging
use Rattle.rulebook.specs.Judging.{deed, idle, rule, hold, found, new_checks, change_checks, cancel_checks, fill_checks, reduction_checks, refused_checks, new_ruling, change_ruling, cancel_ruling, quote_ruling, fill_ruling, reduction_ruling, refused_ruling, at_order}
use Rattle.rulebook.specs.Cases.{grant}
use Rattle.fields.specs.Series.{side_of}
use Rattle.books.specs.Layout.{groups, groups_at, symbols_at, places_at}
use Rattle.books.specs.View.{tally_in, head_in, group_of, symbol_of, order_of, orders_in, books_in, rows_of, view}
use Rattle.books.specs.Rules.{Valid}
use Rattle.books.specs.Writing.{group_index, symbol_index, order_index}
use Rattle.checks.specs.Saying.{figures_said, tally_said, order_said, symbol_at}
use Rattle.checks.specs.Trying.{new_figures, order_with}
use Rattle.checks.specs.Alike.{new_alike, change_alike, cancel_alike, fill_alike, reduction_alike, refused_alike}
use Rattle.checks.specs.Refusing.{number_of}
use Rattle.checks.proofs.Refusing.{never_0}
use Rattle.checks.specs.declared.Refusal.{Refusal}
use Rattle.checks.specs.declared.Figures.{Figures as FigureWords}
use Rattle.checks.specs.declared.Tally.{Tally as TallyWords}
use Rattle.edits.specs.InRows.{figure_words, order_in_rows, deed_in_rows}
use Rattle.edits.specs.declared.OrderShift.{OrderShift}
use Rattle.edits.specs.declared.GroupShift.{GroupShift}
use Rattle.edits.specs.declared.SymbolShift.{SymbolShift}
use Rattle.edits.specs.declared.Deed.{Deed}
use Rattle.rulings.specs.Looking.{at_row, group_looked, symbol_looked, order_looked, row_there, row_missing}
use Rattle.rulings.specs.Standing.{Desk, Held, desk_mpid, held, tally_after, stored_tally}
use Rattle.rulings.specs.Counting.{value_said, exchanged, tally_adds}
use Rattle.rulings.specs.Rulings.{Ruled, ruled, marked_with, amended_with, Spot, spot_in, order_place, own_spot, spot_of, ruling_in_rows}

-- ── a list of checks, by what the code has of it: a refusal or a deed ──
abbrev right : Sheet → ℕ → Bool → judging.Deed → Ruled
right S n b d = record { number = n; deed = deed_in_rows S (cond b d idle) }

module _ (S : Sheet) (l : List Check) (d : judging.Deed) where
  pub ruled_held : (r : Refusal) → number_of r ≡ first l → ruled (Err r) ≡ ruling_in_rows S (rule l d)
  unfolding ruling_in_rows deed_in_rows
  ruled_held r e = subst (λ k. ruled (Err r) ≡ right S k (eqb k 0) d) e (rw (ne_eqb (number_of r) 0 (never_0 r)) refl)

  pub ruled_granted : 0 ≡ first l → (w : Deed) → w ≡ deed_in_rows S d → ruled (Ok w) ≡ ruling_in_rows S (rule l d)
  unfolding ruling_in_rows
  ruled_granted e w q = subst (λ k. ruled (Ok w) ≡ right S k (eqb k 0) d) e (λ j. record { number = 0; deed = q j })

pub hold_in_rows : (S : Sheet) (r : Refusal) → ruled (Err r) ≡ ruling_in_rows S (hold (number_of r))
unfolding ruling_in_rows deed_in_rows
hold_in_rows S r = refl

-- ── an order of a desk takes other figures ──
module _ (m : List ℕ) (g i : ℕ) (h : Held m g i) where
  abbrev S : Sheet
  S = rows_of m

  abbrev o : Order
  o = order_of S i

  abbrev desk : Group
  desk = group_of S g

  abbrev after : Figures → List Order
  after f = put by_key (with_figures o f) (orders_in S)

  puts_words : (f : Figures) (new : FigureWords) (t : TallyWords) → figures_said new ≡ f → t.ob ≡ sum (worth desk.mpid true) (after f) → t.os ≡ sum (worth desk.mpid false) (after f) →
      OrderShift.Puts i new g t.ob t.os ≡ order_in_rows S (puts (with_figures o f))
  puts_words f new t e b s =
      let at : g ≡ group_index S o.ticket.key.owner.mpid = sym h.found ∙ ap (group_index S) h.owned in
      let buys = b ∙ ap (λ p. sum (worth p true) (after f)) h.owned in
      let sells = s ∙ ap (λ p. sum (worth p false) (after f)) h.owned in
      λ j. OrderShift.Puts (sym h.again j) (figure_words (e j)) (at j) (buys j) (sells j)

  -- and nothing else of its group
  pub amended : (f : Figures) (new : FigureWords) (t : TallyWords) → figures_said new ≡ f → tally_said t ≡ tally_after S g o f →
      amended_with g i new t GroupShift.Stay ≡ deed_in_rows S (deed (puts (with_figures o f)) stay stay)
  unfolding deed_in_rows
  amended f new t e q = λ j. record { order = puts_words f new t e (ap (λ (t : Tally). t.ob) q) (ap (λ (t : Tally). t.os) q) j; group = GroupShift.Stay; symbol = SymbolShift.Stay }

  -- or its traded values and its block, tested: H is the group with what was traded
  module _ (H : Group) (named : H.mpid ≡ desk.mpid) (terms : H.terms ≡ desk.terms) (blocked : H.blocked ≡ desk.blocked) where
    pub booked : (f : Figures) (new : FigureWords) (t : TallyWords) → figures_said new ≡ f → tally_said t ≡ tally H (after f) →
        amended_with g i new t (marked_with g (tested desk (tally_said t)).blocked t) ≡ deed_in_rows S (deed (puts (with_figures o f)) (puts (tested H (tally H (after f)))) stay)
    unfolding deed_in_rows
    booked f new t e q =
        let at : g ≡ group_index S H.mpid = sym h.found ∙ ap (group_index S) (sym named) in
        let mark : (tested desk (tally_said t)).blocked ≡ (tested H (tally H (after f))).blocked = λ j. (tested (record { mpid = desk.mpid; terms = sym terms j; blocked = sym blocked j; traded_buys = desk.traded_buys; traded_sells = desk.traded_sells }) (q j)).blocked in
        let buys = ap (λ (t : Tally). t.ob) q ∙ ap (λ p. sum (worth p true) (after f)) named in
        let sells = ap (λ (t : Tally). t.os) q ∙ ap (λ p. sum (worth p false) (after f)) named in
        λ j. record { order = puts_words f new t e buys sells j; group = GroupShift.Puts (at j) (mark j) (q j).tb (q j).ts; symbol = SymbolShift.Stay }

  -- ── by kind: refused by the code's checks, or granted ──
  module _ (old : FigureWords) (e : figures_said old ≡ o.figures) where
    -- an M
    module _ (y : ℕ) (t : TallyWords) (side z p : ℕ) (q : y ≡ symbol_index S o.ticket.sym) (x : o.ticket.side ≡ side_of side)
        (new : FigureWords) (f : figures_said new ≡ sized z p (figures_said old)) (k : tally_said t ≡ tally_after S g o (figures_said new)) where
      change_tally : tally_said t ≡ tally_after S g o (sized z p o.figures)
      change_tally = k ∙ ap (tally_after S g o) (f ∙ ap (sized z p) e)

      change_number : first (change_checks desk (symbol_at S y) (tally_said t) (order_said side old) (sized z p (figures_said old))) ≡ first (change_checks desk (look by_id o.ticket.sym (view m).ledger.symbols) (tally_after S g o (sized z p o.figures)) o (sized z p o.figures))
      unfolding books_in
      change_number = let s : symbol_at S y ≡ look by_id o.ticket.sym (view m).ledger.symbols = ap (symbol_at S) q ∙ sym (symbol_looked m o.ticket.sym) in
          ap first (sym (change_alike o side old (sym e) desk (symbol_at S y) (tally_said t) (sized z p (figures_said old)) x) ∙ (λ j. change_checks desk (s j) (change_tally j) o (sized z p (e j))))

      pub change_held : (r : Refusal) → number_of r ≡ first (change_checks desk (symbol_at S y) (tally_said t) (order_said side old) (sized z p (figures_said old))) → ruled (Err r) ≡ ruling_in_rows S (change_ruling (view m).ledger desk z p o)
      unfolding books_in
      change_held r c = ruled_held S _ _ r (c ∙ change_number)

      pub change_granted : 0 ≡ first (change_checks desk (symbol_at S y) (tally_said t) (order_said side old) (sized z p (figures_said old))) → ruled (Ok (amended_with g i new t GroupShift.Stay)) ≡ ruling_in_rows S (change_ruling (view m).ledger desk z p o)
      unfolding books_in
      change_granted c = ruled_granted S _ _ (c ∙ change_number) _ (amended (sized z p o.figures) new t (f ∙ ap (sized z p) e) change_tally)

    -- a C
    pub cancel_held : (r : Refusal) → number_of r ≡ first (cancel_checks (order_with old)) → ruled (Err r) ≡ ruling_in_rows S (cancel_ruling o)
    cancel_held r c = ruled_held S _ _ r (c ∙ ap first (sym (cancel_alike o 66 old (sym e))))

    pub cancel_granted : (new : FigureWords) (t : TallyWords) → 0 ≡ first (cancel_checks (order_with old)) → figures_said new ≡ asking true (figures_said old) → tally_said t ≡ tally_after S g o (figures_said new) →
        ruled (Ok (amended_with g i new t GroupShift.Stay)) ≡ ruling_in_rows S (cancel_ruling o)
    cancel_granted new t c f k = let w = f ∙ ap (asking true) e in
        ruled_granted S _ _ (c ∙ ap first (sym (cancel_alike o 66 old (sym e)))) _ (amended (asking true o.figures) new t w (k ∙ ap (tally_after S g o) w))

    -- an H
    pub refused_held : (r : Refusal) → number_of r ≡ first (refused_checks (order_with old)) → ruled (Err r) ≡ ruling_in_rows S (refused_ruling desk o)
    refused_held r c = ruled_held S _ _ r (c ∙ ap first (sym (refused_alike o 66 old (sym e))))

    pub refused_granted : (new : FigureWords) (t : TallyWords) → 0 ≡ first (refused_checks (order_with old)) → figures_said new ≡ asking false (figures_said old) → tally_said t ≡ tally_after S g o (figures_said new) →
        ruled (Ok (amended_with g i new t GroupShift.Stay)) ≡ ruling_in_rows S (refused_ruling desk o)
    refused_granted new t c f k = let w = f ∙ ap (asking false) e in
        ruled_granted S _ _ (c ∙ ap first (sym (refused_alike o 66 old (sym e)))) _ (amended (asking false o.figures) new t w (k ∙ ap (tally_after S g o) w))

    -- an F
    module _ (new : FigureWords) (t : TallyWords) (z p : ℕ) (f : figures_said new ≡ worked z (figures_said old))
        (k : tally_said t ≡ tally (traded (is_buy o.ticket.side) (z * p) desk) (after (figures_said new))) where
      abbrev filled : Group
      filled = traded (is_buy o.ticket.side) (z * p) desk

      fill_tally : tally_said t ≡ tally filled (after (worked z o.figures))
      fill_tally = k ∙ ap (λ f. tally filled (after f)) (f ∙ ap (worked z) e)

      fill_number : first (fill_checks (tally_said t) z (order_with old)) ≡ first (fill_checks (tally filled (after (worked z o.figures))) z o)
      fill_number = ap first (sym (fill_alike o 66 old (sym e) (tally_said t) z) ∙ ap (λ t. fill_checks t z o) fill_tally)

      pub fill_held : (r : Refusal) → number_of r ≡ first (fill_checks (tally_said t) z (order_with old)) → ruled (Err r) ≡ ruling_in_rows S (fill_ruling (view m).ledger.orders z p desk o)
      unfolding books_in
      fill_held r c = ruled_held S _ _ r (c ∙ fill_number)

      pub fill_granted : 0 ≡ first (fill_checks (tally_said t) z (order_with old)) →
          ruled (Ok (amended_with g i new t (marked_with g (tested desk (tally_said t)).blocked t))) ≡ ruling_in_rows S (fill_ruling (view m).ledger.orders z p desk o)
      unfolding books_in
      fill_granted c = ruled_granted S _ _ (c ∙ fill_number) _ (booked filled refl refl refl (worked z o.figures) new t (f ∙ ap (worked z) e) fill_tally)

    -- a D
    pub reduction_held : (z : ℕ) (r : Refusal) → number_of r ≡ first (reduction_checks z (order_with old)) → ruled (Err r) ≡ ruling_in_rows S (reduction_ruling (view m).ledger.orders z desk o)
    unfolding books_in
    reduction_held z r c = ruled_held S _ _ r (c ∙ ap first (sym (reduction_alike o 66 old (sym e) z)))

    pub reduction_granted : (new : FigureWords) (t : TallyWords) (z : ℕ) → 0 ≡ first (reduction_checks z (order_with old)) → figures_said new ≡ worked z (figures_said old) → tally_said t ≡ tally_after S g o (figures_said new) →
        ruled (Ok (amended_with g i new t (marked_with g (tested desk (tally_said t)).blocked t))) ≡ ruling_in_rows S (reduction_ruling (view m).ledger.orders z desk o)
    unfolding books_in
    reduction_granted new t z c f k = let w = f ∙ ap (worked z) e in
        ruled_granted S _ _ (c ∙ ap first (sym (reduction_alike o 66 old (sym e) z))) _ (booked desk refl refl refl (worked z o.figures) new t w (k ∙ ap (tally_after S g o) w))

-- ── a desk's request that names no order ──
module _ (m : List ℕ) (k : Key) (g : ℕ) (d : Desk m k.owner.mpid g) where
  abbrev listed : Group
  listed = group_of (rows_of m) g

  -- a new order, with its desk's tally
  module _ (y : ℕ) (t : TallyWords) (sym side z p : ℕ) (q : y ≡ symbol_index (rows_of m) sym)
      (e : tally_said t ≡ exchanged (is_buy (side_of side)) 0 (value_said (figures_said (new_figures z p))) (tally_in (rows_of m groups g))) where
    abbrev born : Order
    born = new_order k sym (side_of side) z p

    -- the tally with it
    counted : tally_said t ≡ tally listed (shifted by_key (adds born) (orders_in (rows_of m)))
    unfolding open_value
    counted = e ∙ path.sym (tally_adds listed (orders_in (rows_of m)) born (path.sym (desk_mpid m k.owner.mpid g d)) ∙ ap (exchanged (is_buy (side_of side)) 0 (value_said (figures_said (new_figures z p)))) (stored_tally m d.valid g d.listed))

    new_number : first (new_checks listed (symbol_at (rows_of m) y) (tally_said t) (order_said side (new_figures z p))) ≡ first (new_checks listed (look by_id sym (view m).ledger.symbols) (tally listed (shifted by_key (adds born) (view m).ledger.orders)) born)
    unfolding books_in
    new_number = let s : symbol_at (rows_of m) y ≡ look by_id sym (view m).ledger.symbols = ap (symbol_at (rows_of m)) q ∙ path.sym (symbol_looked m sym) in
        ap first (path.sym (new_alike born side (new_figures z p) refl listed (symbol_at (rows_of m) y) (tally_said t) refl) ∙ (λ j. new_checks listed (s j) (counted j) born))

    pub new_held : (r : Refusal) → number_of r ≡ first (new_checks listed (symbol_at (rows_of m) y) (tally_said t) (order_said side (new_figures z p))) → ruled (Err r) ≡ ruling_in_rows (rows_of m) (new_ruling (view m).ledger listed born)
    new_held r c = ruled_held (rows_of m) _ _ r (c ∙ new_number)

    pub new_granted : 0 ≡ first (new_checks listed (symbol_at (rows_of m) y) (tally_said t) (order_said side (new_figures z p))) →
        ruled (Ok (record { order = OrderShift.Adds (new_figures z p) g t.ob t.os; group = GroupShift.Stay; symbol = SymbolShift.Stay })) ≡ ruling_in_rows (rows_of m) (new_ruling (view m).ledger listed born)
    unfolding deed_in_rows
    new_granted c =
        let own = desk_mpid m k.owner.mpid g d in
        let buys = ap (λ (t : Tally). t.ob) counted ∙ ap (λ p. sum (worth p true) (shifted by_key (adds born) (orders_in (rows_of m)))) (path.sym own) in
        let sells = ap (λ (t : Tally). t.os) counted ∙ ap (λ p. sum (worth p false) (shifted by_key (adds born) (orders_in (rows_of m)))) (path.sym own) in
        ruled_granted (rows_of m) _ _ (c ∙ new_number) _ (λ j. record { order = OrderShift.Adds (new_figures z p) (path.sym d.found j) (buys j) (sells j); group = GroupShift.Stay; symbol = SymbolShift.Stay })

  -- a block set or lifted
  pub block_granted : (b : Bool) (t : TallyWords) → tally_said t ≡ tally_in (rows_of m groups g) →
      ruled (Ok (record { order = OrderShift.Stay; group = marked_with g b t; symbol = SymbolShift.Stay })) ≡ ruling_in_rows (rows_of m) (grant (deed stay (puts (blocking b listed)) stay))
  unfolding ruling_in_rows deed_in_rows
  block_granted b t e = let at : g ≡ group_index (rows_of m) listed.mpid = path.sym d.found ∙ ap (group_index (rows_of m)) (desk_mpid m k.owner.mpid g d) in
      λ j. record { number = 0; deed = record { order = OrderShift.Stay; group = GroupShift.Puts (at j) b (e j).tb (e j).ts; symbol = SymbolShift.Stay } }

-- ── quotes ──
module _ (m : List ℕ) (y sym bid offer : ℕ) (q : y ≡ symbol_index (rows_of m) sym) where
  abbrev quoted : Symbol
  quoted = record { id = sym; bid = bid; offer = offer }

  row_of : look by_id sym (view m).ledger.symbols ≡ at_row (symbol_of (rows_of m)) y (head_in (rows_of m) symbols_at)
  row_of = symbol_looked m sym ∙ ap (λ (y : ℕ). at_row (symbol_of (rows_of m)) y (head_in (rows_of m) symbols_at)) (path.sym q)

  pub quote_held : head_in (rows_of m) symbols_at ≤ y → ruled (Err Refusal.NoSymbol) ≡ ruling_in_rows (rows_of m) (quote_ruling (view m).ledger.symbols quoted)
  quote_held h = ruled_held (rows_of m) _ _ Refusal.NoSymbol (here _ 8 [] (ap is_none (row_of ∙ row_missing (symbol_of (rows_of m)) y (head_in (rows_of m) symbols_at) h)))

  pub quote_granted : y < head_in (rows_of m) symbols_at → ruled (Ok (record { order = OrderShift.Stay; group = GroupShift.Stay; symbol = SymbolShift.Puts y bid offer })) ≡ ruling_in_rows (rows_of m) (quote_ruling (view m).ledger.symbols quoted)
  unfolding deed_in_rows
  quote_granted h = ruled_granted (rows_of m) _ _ (past _ 8 0 [] (ap is_none (row_of ∙ row_there (symbol_of (rows_of m)) y (head_in (rows_of m) symbols_at) h)) all_past) _ (λ j. record { order = OrderShift.Stay; group = GroupShift.Stay; symbol = SymbolShift.Puts (q j) bid offer })

-- ── targets ──
module _ (m : List ℕ) (k : Key) where
  abbrev at : ℕ
  at = order_index (rows_of m) k

  abbrev taken : ℕ
  taken = head_in (rows_of m) places_at

  pub target_there : (f : Order → judging.Ruling) → at < taken → found 9 (look by_key k (view m).ledger.orders) f ≡ f (order_of (rows_of m) at)
  unfolding Option-elim
  target_there f h = ap (λ o. found 9 o f) (order_looked m k ∙ row_there (order_of (rows_of m)) at taken h)

  target_missing : (f : Order → judging.Ruling) → taken ≤ at → found 9 (look by_key k (view m).ledger.orders) f ≡ hold 9
  unfolding Option-elim
  target_missing f h = ap (λ o. found 9 o f) (order_looked m k ∙ row_missing (order_of (rows_of m)) at taken h)

  -- what is ruled of the order at a spot and its desk, or the refusal
  abbrev pub spot_ruling : (Group → Order → judging.Ruling) → Result Spot Refusal → judging.Ruling
  spot_ruling f (Ok s) = f (group_of (rows_of m) s.group) (order_of (rows_of m) s.order)
  spot_ruling f (Err r) = hold (number_of r)

  abbrev pub SpotHeld : Result Spot Refusal → Type 0
  SpotHeld (Ok s) = Held m s.group s.order
  SpotHeld (Err r) = Unit {0}

  -- THEOREM. What a desk's request gets that names an order goes by where that stands
  pub own_spotted : (g : ℕ) (f : Group → Order → judging.Ruling) → found 9 (look by_key k (view m).ledger.orders) (f (group_of (rows_of m) g)) ≡ spot_ruling f (own_spot (rows_of m) g k)
  unfolding own_spot order_place
  own_spotted g f = on (λ b. ltb at taken ≡ b → found 9 (look by_key k (view m).ledger.orders) (f (group_of (rows_of m) g)) ≡ spot_ruling f (spot_in g (ok_or (cond b (Some at) None) Refusal.NotOpen))) (ltb at taken)
      (λ y q. target_there (f (group_of (rows_of m) g)) (ltb-true at taken q)) (λ y q. target_missing (f (group_of (rows_of m) g)) (ltb-false at taken q)) refl

  -- THEOREM. And what a notice gets, by its desk too
  pub spotted : (f : Group → Order → judging.Ruling) → at_order (view m).ledger k f ≡ spot_ruling f (spot_of (rows_of m) k)
  unfolding spot_of Option-elim
  spotted f = let g = group_index (rows_of m) k.owner.mpid in let n = head_in (rows_of m) groups_at in
      ap (λ o. found 5 o (λ g. found 9 (look by_key k (view m).ledger.orders) (f g))) (group_looked m k.owner.mpid)
      ∙ on (λ b. found 5 (cond b (some (group_of (rows_of m) g)) none) (λ g. found 9 (look by_key k (view m).ledger.orders) (f g)) ≡ spot_ruling f (cond b (own_spot (rows_of m) g k) (Err Refusal.NoDesk))) (ltb g n)
      (λ z. own_spotted g f) (λ z. refl)

  pub own_spot_held : (g : ℕ) → Desk m k.owner.mpid g → SpotHeld (own_spot (rows_of m) g k)
  unfolding own_spot order_place
  own_spot_held g d = on (λ b. ltb at taken ≡ b → SpotHeld (spot_in g (ok_or (cond b (Some at) None) Refusal.NotOpen))) (ltb at taken) (λ y r. held m k g at d refl (ltb-true at taken r)) (λ y r. tt) refl

  pub spot_held : Valid m → SpotHeld (spot_of (rows_of m) k)
  unfolding spot_of
  spot_held v = let g = group_index (rows_of m) k.owner.mpid in let n = head_in (rows_of m) groups_at in
      on (λ b. ltb g n ≡ b → SpotHeld (cond b (own_spot (rows_of m) g k) (Err Refusal.NoDesk))) (ltb g n)
      (λ z q. own_spot_held g (record { valid = v; listed = ltb-true g n q; found = refl })) (λ z q. tt) refl

-- ── a ruling that goes by where an order stands, over the same words ──
module _ (m : List ℕ) (k : Key) (R : judging.Ruling) (f : List ℕ → Group → Order → judging.Ruling) {s : Result Spot Refusal} (goes : R ≡ spot_ruling m k (f m) s) where
  aside : (r : Refusal) → Err r ≡ s → ruled (Err r) ≡ ruling_in_rows (rows_of m) R
  aside r e = hold_in_rows (rows_of m) r ∙ ap (ruling_in_rows (rows_of m)) (ap (spot_ruling m k (f m)) e ∙ path.sym goes)

  aimed : (n : List ℕ) (a : Spot) (x : Ruled) → Ok a ≡ s → n ≡ m → x ≡ ruling_in_rows (rows_of n) (f n (group_of (rows_of n) a.group) (order_of (rows_of n) a.order)) → x ≡ ruling_in_rows (rows_of m) R
  aimed n a x e q h = subst (λ n. x ≡ ruling_in_rows (rows_of n) (f n (group_of (rows_of n) a.group) (order_of (rows_of n) a.order))) q h ∙ ap (ruling_in_rows (rows_of m)) (ap (spot_ruling m k (f m)) e ∙ path.sym goes)

module _ (f : List ℕ → Group → Order → judging.Ruling) (m : List ℕ) (k : Key) where
  -- of a desk's request
  pub own_aside : (g : ℕ) (r : Refusal) → Err r ≡ own_spot (rows_of m) g k → ruled (Err r) ≡ ruling_in_rows (rows_of m) (found 9 (look by_key k (view m).ledger.orders) (f m (group_of (rows_of m) g)))
  own_aside g = aside m k _ f (own_spotted m k g (f m))

  pub own_aimed : (g : ℕ) (n : List ℕ) (a : Spot) (x : Ruled) → Ok a ≡ own_spot (rows_of m) g k → n ≡ m → x ≡ ruling_in_rows (rows_of n) (f n (group_of (rows_of n) a.group) (order_of (rows_of n) a.order)) →
      x ≡ ruling_in_rows (rows_of m) (found 9 (look by_key k (view m).ledger.orders) (f m (group_of (rows_of m) g)))
  own_aimed g = aimed m k _ f (own_spotted m k g (f m))

  -- of a notice
  pub notice_aside : (r : Refusal) → Err r ≡ spot_of (rows_of m) k → ruled (Err r) ≡ ruling_in_rows (rows_of m) (at_order (view m).ledger k (f m))
  notice_aside = aside m k _ f (spotted m k (f m))

  pub notice_aimed : (n : List ℕ) (a : Spot) (x : Ruled) → Ok a ≡ spot_of (rows_of m) k → n ≡ m → x ≡ ruling_in_rows (rows_of n) (f n (group_of (rows_of n) a.group) (order_of (rows_of n) a.order)) → x ≡ ruling_in_rows (rows_of m) (at_order (view m).ledger k (f m))
  notice_aimed = aimed m k _ f (spotted m k (f m))
