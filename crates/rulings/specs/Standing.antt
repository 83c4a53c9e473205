-- What judging may rely on: a memory that meets the state rules, a desk that is listed, sizes and prices in their forms.
use Rattle.std.specs.Prelude.{◌≡◌, refl, Bool, true, List, ℕ, ◌+◌, ◌*◌, ◌≤◌, ◌<◌, ltb, length}
use Rattle.std.proofs.Math.Path.{sym, ap, subst}
use Rattle.std.proofs.Common.{◌∙◌, arith, ltb-true}
use Rattle.std.proofs.Math.Bool.{cond}
use Rattle.std.proofs.Math.Option.{none, some}
use Rattle.std.proofs.Math.Logic.{∥∥₁_elim}
use Rattle.std.proofs.Props.{props}
use Rattle.laws.specs.Tests.{on}
use Rattle.laws.specs.Tables.{look, look_key, look_self, all_look, put}
use Rattle.laws.specs.Numbered.{each_those}
use Rattle.laws.specs.Rows.{Sheet}
use Rattle.rulebook.specs.Names.{Mpid, Key}
use Rattle.rulebook.specs.Lines.{ceiling, is_buy}
use Rattle.rulebook.specs.Kept.{Figures, Order, by_mpid, by_key, with_figures, worked, open_value, Tally, tally, metrics}
use Rattle.rulebook.specs.Judging.{quotes}
use Rattle.rulebook.specs.Rules.{FitsSymbol, SoundOrder}
use Rattle.books.specs.Layout.{groups, requests, room_of, request_start, width_of, groups_at, symbols_at, places_at, traded_buys_at, traded_sells_at}
use Rattle.books.specs.View.{tally_in, head_in, group_of, symbol_of, order_of, orders_in, books_in, rows_of, view}
use Rattle.books.specs.Writing.{group_index, order_index}
use Rattle.books.specs.Rules.{Valid}
use Rattle.books.specs.Refining.{Counted}
use Rattle.books.proofs.Judged.{valid_counted}
use Rattle.checks.specs.Saying.{figures_said, tally_said, symbol_at}
use Rattle.checks.specs.Trying.{Checkable}
use Rattle.checks.specs.declared.Figures.{Figures as FigureWords}
use Rattle.checks.specs.declared.Tally.{Tally as TallyWords}
use Rattle.rulings.specs.Counting.{value_said, exchanged, paid, tally_puts, most_value, value_within, product_small, value_small, exchanged_small, paid_small, exchanged_less, worked_less}
use Rattle.rulings.specs.Looking.{at_row, group_looked, order_looked, row_there}
use Rattle.rulings.specs.declared.Deal.{Deal}
use Rattle.rulings.specs.declared.News.{News}

-- a size and a price in their forms, as far as sums go
pub record Small (size price : ℕ) : Type 0 where
  pub small : size ≤ 1_000_000
  pub cheap : price ≤ 999_999_999_999

abbrev pub SmallDeal : Deal → Type 0
SmallDeal (Deal.New s x z p) = Small z p
SmallDeal (Deal.Change t z p) = Small z p
SmallDeal (Deal.Cancel t) = Unit {0}
SmallDeal Deal.Block = Unit {0}
SmallDeal Deal.Unblock = Unit {0}

abbrev pub SmallNews : News → Type 0
SmallNews (News.Quote s b o) = Unit {0}
SmallNews (News.Fill t z p) = Small z p
SmallNews (News.Reduction t z) = z ≤ 1_000_000
SmallNews (News.CancelRefused t) = Unit {0}

-- the desk of an MPID is the g-th group
pub record Desk (m : List ℕ) (p : Mpid) (g : ℕ) : Type 0 where
  pub valid : Valid m
  pub listed : g < head_in (rows_of m) groups_at
  pub found : group_index (rows_of m) p ≡ g

-- an order's part of the open value of its side may be exchanged for another
pub record Exchangeable (b : Bool) (old new : ℕ) (t : Tally) : Type 0 where
  pub part : old ≤ cond b t.ob t.os
  pub most : new ≤ most_value
  pub within : (metrics t).gross_both ≤ ceiling

-- a fill may be counted
pub record Payable (value : ℕ) (t : Tally) : Type 0 where
  pub most : value ≤ most_value
  pub within : (metrics t).gross_both ≤ ceiling

-- the tally of a group after an order takes other figures
abbrev pub tally_after : Sheet → ℕ → Order → Figures → Tally
tally_after S g o f = tally (group_of S g) (put by_key (with_figures o f) (orders_in S))

-- the order at the i-th place is one of the g-th group's
pub record Held (m : List ℕ) (g i : ℕ) : Type 0 where
  pub valid : ∥ Valid m ∥₁
  pub listed : g < head_in (rows_of m) groups_at
  pub found : group_index (rows_of m) (group_of (rows_of m) g).mpid ≡ g
  pub placed : i < head_in (rows_of m) places_at
  pub owned : (group_of (rows_of m) g).mpid ≡ (order_of (rows_of m) i).ticket.key.owner.mpid
  pub stands : look by_key (order_of (rows_of m) i).ticket.key (orders_in (rows_of m)) ≡ some (order_of (rows_of m) i)
  pub again : order_index (rows_of m) (order_of (rows_of m) i).ticket.key ≡ i

-- a desk is found at its group
pub desk_looked : (m : List ℕ) (p : Mpid) (g : ℕ) → Desk m p g → look by_mpid p (view m).ledger.groups ≡ some (group_of (rows_of m) g)
desk_looked m p g d = group_looked m p ∙ ap (λ (i : ℕ). at_row (group_of (rows_of m)) i (head_in (rows_of m) groups_at)) d.found ∙ row_there (group_of (rows_of m)) g (head_in (rows_of m) groups_at) d.listed

-- and it has that MPID
pub desk_mpid : (m : List ℕ) (p : Mpid) (g : ℕ) → Desk m p g → p ≡ (group_of (rows_of m) g).mpid
desk_mpid m p g d = look_key by_mpid p (view m).ledger.groups (desk_looked m p g d)

pub held : (m : List ℕ) (k : Key) (g i : ℕ) → Desk m k.owner.mpid g → order_index (rows_of m) k ≡ i → i < head_in (rows_of m) places_at → Held m g i
unfolding books_in
held m k g i d e lt =
    let l : look by_key k (orders_in (rows_of m)) ≡ some (order_of (rows_of m) i) = order_looked m k ∙ ap (λ (i : ℕ). at_row (order_of (rows_of m)) i (head_in (rows_of m) places_at)) e ∙ row_there (order_of (rows_of m)) i (head_in (rows_of m) places_at) lt in
    let q : k ≡ (order_of (rows_of m) i).ticket.key = look_key by_key k (orders_in (rows_of m)) l in
    let p = desk_mpid m k.owner.mpid g d in
    record {
      valid = ∣ d.valid ∣₁;
      listed = d.listed;
      found = subst (λ p. group_index (rows_of m) p ≡ g) p d.found;
      placed = lt;
      owned = sym p ∙ ap (λ (k : Key). k.owner.mpid) q;
      stands = look_self by_key k (orders_in (rows_of m)) l;
      again = subst (λ k. order_index (rows_of m) k ≡ i) q e;
    }

-- ── what a memory that meets the state rules gives ──
module _ (m : List ℕ) (v : Valid m) where
  -- the stored totals are the tally
  pub stored_tally : (g : ℕ) → g < head_in (rows_of m) groups_at → tally (group_of (rows_of m) g) (orders_in (rows_of m)) ≡ tally_in (rows_of m groups g)
  stored_tally g lt = let s = v.summed g lt in let r = rows_of m groups g in λ i. record { tb = r traded_buys_at; ts = r traded_sells_at; ob = sym s.open_buys i; os = sym s.open_sells i }

  pub stored_within : (g : ℕ) → g < head_in (rows_of m) groups_at → (metrics (tally_in (rows_of m groups g))).gross_both ≤ ceiling
  unfolding books_in
  stored_within g lt = subst (λ (t : Tally). (metrics t).gross_both ≤ ceiling) (stored_tally g lt) (each_those _ (λ i. true) (group_of (rows_of m)) (head_in (rows_of m) groups_at) v.sound.ledger.gross_within g lt refl)

  -- a new order's value may be counted
  pub new_exchangeable : (g : ℕ) → g < head_in (rows_of m) groups_at → (b : Bool) (new : ℕ) → new ≤ most_value → Exchangeable b 0 new (tally_in (rows_of m groups g))
  new_exchangeable g lt b new h = record { part = omega arith; most = h; within = stored_within g lt }

-- ── quotes are in range ──
pub quotes_small : (m : List ℕ) → Valid m → (y : ℕ) → ((quotes (symbol_at (rows_of m) y)).bid ≤ 999_999_999_999) × ((quotes (symbol_at (rows_of m) y)).offer ≤ 999_999_999_999)
unfolding books_in
quotes_small m v y = on (λ b. ltb y n ≡ b → ((quotes (cond b (some (symbol_of (rows_of m) y)) none)).bid ≤ 999_999_999_999) × ((quotes (cond b (some (symbol_of (rows_of m) y)) none)).offer ≤ 999_999_999_999)) (ltb y n)
    (λ z q. let f = each_those FitsSymbol (λ i. true) (symbol_of (rows_of m)) n v.sound.ledger.symbols_fit y (ltb-true y n q) refl in (f.1.1.0.1, f.1.1.1.0.1)) (λ z q. (omega arith, omega arith)) refl
  where
    n : ℕ
    n = head_in (rows_of m) symbols_at

-- what N and M are checked by
pub checkable : (m : List ℕ) → Valid m → (g y : ℕ) (t : TallyWords) (p : ℕ) → g < head_in (rows_of m) groups_at → (metrics (tally_said t)).gross_both ≤ 5_000_000_000_000_000_000 → p ≤ 999_999_999_999 → Checkable m g y t p
checkable m v g y t p lt w c = let n = valid_counted m v in let q = quotes_small m v y in
    record { measurable = record { long = n.long; few = omega (arith, n, lt); within = w }; quotable = record { counts = n; priced = c; bid = q.0; offer = q.1 } }

-- ── what an order of a desk gives ──
module _ (m : List ℕ) (g i : ℕ) (h : Held m g i) where
  abbrev order : Order
  order = order_of (rows_of m) i

  held_sound : SoundOrder (view m).ledger.symbols order
  unfolding books_in
  held_sound = ∥∥₁_elim h.valid (hlevel props) (λ v. all_look by_key (SoundOrder (view m).ledger.symbols) order.ticket.key (orders_in (rows_of m)) v.sound.ledger.orders_sound h.stands)

  -- what a memory that meets the state rules says of the order and its group
  record Facts : Type 0 where
    small : Small order.figures.size order.figures.price
    done : order.figures.done ≤ order.figures.size
    stored : tally (group_of (rows_of m) g) (orders_in (rows_of m)) ≡ tally_in (rows_of m groups g)
    within : (metrics (tally_in (rows_of m groups g))).gross_both ≤ ceiling

  valid_facts : Valid m → Facts
  unfolding books_in
  valid_facts v = let s = all_look by_key (SoundOrder (view m).ledger.symbols) order.ticket.key (orders_in (rows_of m)) v.sound.ledger.orders_sound h.stands in
      record { small = record { small = s.size_fits.1; cheap = s.price_fits.1 }; done = s.done_within; stored = stored_tally m v g h.listed; within = stored_within m v g h.listed }

  facts : Facts
  facts = ∥∥₁_elim h.valid (hlevel props) valid_facts

  pub held_small : Small order.figures.size order.figures.price
  held_small = facts.small

  held_done : order.figures.done ≤ order.figures.size
  held_done = facts.done

  pub held_exchangeable : (new : ℕ) → new ≤ most_value → Exchangeable (is_buy order.ticket.side) (value_said order.figures) new (tally_in (rows_of m groups g))
  unfolding open_value
  held_exchangeable new n = record {
    part = subst (λ (t : Tally). open_value order ≤ cond (is_buy order.ticket.side) t.ob t.os) facts.stored (value_within (group_of (rows_of m) g) (orders_in (rows_of m)) order h.owned h.stands);
    most = n;
    within = facts.within;
  }

  -- the tally with other figures, from the stored totals
  pub held_tally : (f : Figures) → exchanged (is_buy order.ticket.side) (value_said order.figures) (value_said f) (tally_in (rows_of m groups g)) ≡ tally_after (rows_of m) g order f
  unfolding open_value
  held_tally f = sym (tally_puts (group_of (rows_of m) g) (orders_in (rows_of m)) order f h.owned h.stands ∙ ap (exchanged (is_buy order.ticket.side) (value_said order.figures) (value_said f)) facts.stored)

  -- N and M are checked by a tally and a price
  pub held_checkable : (y : ℕ) (t : TallyWords) (p : ℕ) → (metrics (tally_said t)).gross_both ≤ 5_000_000_000_000_000_000 → p ≤ 999_999_999_999 → Checkable m g y t p
  held_checkable y t p w c = ∥∥₁_elim h.valid (hlevel props) (λ v. checkable m v g y t p h.listed w c)

  -- the words of the order's rows are there
  pub record Bounds : Type 0 where
    pub counts : Counted m
    pub few : g < 64
    pub room : i < room_of m
    pub request : request_start m i + width_of requests ≤ length m

  pub held_bounds : Bounds
  held_bounds = ∥∥₁_elim h.valid (hlevel props) (λ v. let c = valid_counted m v in let r : i < room_of m = omega (arith, c, h.placed) in
      record { counts = c; few = omega (arith, c, h.listed); room = r; request = omega (arith, c, r) })

  pub changed_small : (f : Figures) → Small f.size f.price → (metrics (tally_after (rows_of m) g order f)).gross_both ≤ 5_000_000_000_000_000_000
  changed_small f s = let e = held_exchangeable 0 (omega arith) in
      subst (λ (t : Tally). (metrics t).gross_both ≤ 5_000_000_000_000_000_000) (held_tally f) (exchanged_small (is_buy order.ticket.side) (value_said order.figures) (value_said f) (tally_in (rows_of m groups g)) (value_small f.size f.done f.price s.small s.cheap) e.within)

  -- an order that is worked leaves gross of both at most the ceiling
  worked_within : (z : ℕ) → (metrics (tally_after (rows_of m) g order (worked z order.figures))).gross_both ≤ ceiling
  worked_within z = let f = order.figures in let t = tally_in (rows_of m groups g) in let e = held_exchangeable 0 (omega arith) in
      subst (λ (t : Tally). (metrics t).gross_both ≤ ceiling) (held_tally (worked z f))
      (exchanged_less (is_buy order.ticket.side) (value_said f) (value_said (worked z f)) t (worked_less f.size f.done z f.price) e.part e.within)

  -- and so does the code's tally of it
  pub worked_tally : (z : ℕ) (old new : FigureWords) (t : TallyWords) → figures_said old ≡ order.figures → figures_said new ≡ worked z (figures_said old) → tally_said t ≡ tally_after (rows_of m) g order (figures_said new) → (metrics (tally_said t)).gross_both ≤ ceiling
  worked_tally z old new t e f k = subst (λ (t : Tally). (metrics t).gross_both ≤ ceiling) (sym (k ∙ ap (tally_after (rows_of m) g order) (f ∙ ap (worked z) e))) (worked_within z)

  -- the code's figures are small, and more can be done
  pub old_small : (old : FigureWords) → figures_said old ≡ order.figures → Small old.size old.price × (old.done ≤ 1_000_000)
  old_small old e = subst (λ (f : Figures). Small f.size f.price × (f.done ≤ 1_000_000)) (sym e) (facts.small, omega (arith, facts.done, facts.small))

-- the code's tally with a fill
pub paid_tally : (b : Bool) (z p : ℕ) (t u : TallyWords) → Small z p → tally_said u ≡ paid b (z * p) (tally_said t) → (metrics (tally_said t)).gross_both ≤ ceiling → (metrics (tally_said u)).gross_both ≤ 5_000_000_000_000_000_000
paid_tally b z p t u s e w = subst (λ (t : Tally). (metrics t).gross_both ≤ 5_000_000_000_000_000_000) (sym e) (paid_small b (z * p) (tally_said t) (product_small z p s.small s.cheap) w)
