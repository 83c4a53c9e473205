-- Document 01, "Outcomes", "State rules": every record in its form leaves a memory that meets them.
-- Why: the books after it meet theirs, an edit writes marks as 0 or 1 and a request as it reads, and the one desk whose sums may move gets the sums after.
use Rattle.std.specs.Prelude.{◌≡◌, refl, Bool, true, false, ◌&&◌, cond, List, [], ◌∷◌, ℕ, ◌≤◌, ◌<◌, eqb}
use Rattle.std.proofs.Common.{sym, ap, ◌∙◌, arith, eqb-true, eq-eqb}
use Rattle.std.proofs.Math.Path.{subst}
use Rattle.std.proofs.lemmas.Bool.{false≢true, eqb-false}
use Rattle.std.proofs.Math.Bool.{and-eq-true_iff}
use Rattle.std.proofs.Math.Option.{some}
use Rattle.std.proofs.Math.Decide.{dec_lt}
use Rattle.laws.specs.Tests.{on, exact_sym}
use Rattle.laws.specs.Tables.{sum, Distinct, Shift, stay, adds, puts, shifted, look, look_key, Apart, Steady}
use Rattle.laws.specs.Numbered.{numbered, least_is, map_those, numbered_distinct}
use Rattle.laws.specs.Rows.{Row, patch, Sheet, row_after, enter, enter_append, Shows}
use Rattle.rulebook.specs.Names.{Mpid, Key, same_mpid, mpid_exact, same_key}
use Rattle.rulebook.specs.Lines.{Deal, new, change, cancel, block, unblock, Record, Formed}
use Rattle.rulebook.specs.Kept.{Order, Group, Asked, Ledger, Books, by_mpid, by_key, worth}
use Rattle.rulebook.specs.Judging.{Deed, Edit, nothing, opened, listed, remembered, taken, deal_ruling, news_ruling, enact, apply, judge}
use Rattle.rulebook.specs.Day.{step}
use Rattle.rulebook.specs.Rules.{Sound}
use Rattle.rulebook.proofs.Cases.{judge_cases}
use Rattle.rulebook.proofs.Retries.{deal_closed, news_closed}
use Rattle.rulebook.proofs.Keeping.{other_sum, no_orders, step_sound}
use Rattle.books.specs.Layout.{heads, groups, keys, requests, orders, layout, room_for, room_of, opened_at, groups_at, symbols_at, places_at, blocked_at, open_buys_at}
use Rattle.books.specs.View.{mpid_in, head_in, group_of, symbol_of, opens_of, order_of, orders_in, books_in, rows_of, view}
use Rattle.books.specs.Writing.{bit, group_index, order_index, group_words, mark_words, key_words, request_words, figure_words, new_figures, order_stores, open_store, open_stores, group_stores, deed_stores, place_stores, stores, write}
use Rattle.books.specs.Rules.{TidyGroup, TidyPlace, Summed, Valid}
use Rattle.books.specs.Refining.{AptOrder, AptDeed, holds, Linked, Apt}
use Rattle.books.proofs.Refining.{asked_back, grown, group_found, order_found, After, deed_after, counts, length_write, write_shows}
use Rattle.books.proofs.Judged.{judged_apt, valid_counted, judged}

-- ── what only words can break, of a sheet whose orders are os ──
-- a group's marks, and its open values
abbrev KeptGroup : List Order → Row → Type 0
KeptGroup os r = TidyGroup r × Summed os r

record TidySheet (os : List Order) (S : Sheet) : Type 0 where
  opened_mark : head_in S opened_at ≤ 1
  groups_kept : (i : ℕ) → i < head_in S groups_at → KeptGroup os (S groups i)
  places_tidy : (i : ℕ) → i < head_in S places_at → TidyPlace (S keys i) (S requests i) (S orders i)

-- a group is listed only while there is no order
abbrev Lone : List Order → Shift Group → Type 0
Lone os stay = Unit {0}
Lone os (adds g) = os ≡ []
Lone os (puts g) = Unit {0}

abbrev Timely : List Order → Deed → Type 0
Timely os d = Lone (shifted by_key d.order os) d.group

abbrev TimelyEdit : List Order → Edit → Type 0
TimelyEdit os nothing = Unit {0}
TimelyEdit os opened = Unit {0}
TimelyEdit os (listed d) = Timely os d
TimelyEdit os (remembered a d) = Timely os d
TimelyEdit os (taken d) = Timely os d

steady_timely : (os : List Order) (d : Deed) → Steady d.group → Timely os d
steady_timely os d = go d.group
  where
    go : (s : Shift Group) → Steady s → Lone (shifted by_key d.order os) s
    go stay h = tt
    go (adds g) h = absurd h
    go (puts g) h = tt

bit_small : (b : Bool) → bit b ≤ 1
bit_small true = omega arith
bit_small false = omega arith

-- a place that comes with an order opens it
born_opens : (k : Key) (d : Deal) (n : ℕ) (o : Order) → let a : Asked = record { request = record { key = k; deal = d }; number = n } in Linked a (adds o) → holds a ≡ true
born_opens k (new s x z p) n o l = eq-eqb n 0 l.0
born_opens k (change t z p) n o l = absurd l.1
born_opens k (cancel t) n o l = absurd l.1
born_opens k block n o l = absurd l.1
born_opens k unblock n o l = absurd l.1

-- and one that opens none has figures of 0
new_unused : (a : Asked) (s : Shift Order) → Linked a s → holds a ≡ false → let f = new_figures s in (f.price ≡ 0) × (f.size ≡ 0) × (f.done ≡ 0) × (bit f.cancel_asked ≡ 0)
new_unused a stay l u = (refl, refl, refl, refl)
new_unused a (adds o) l u = absurd (false≢true (sym u ∙ born_opens a.request.key a.request.deal a.number o l))
new_unused a (puts o) l u = (refl, refl, refl, refl)

new_place : (a : Asked) (s : Shift Order) → Linked a s → (k r o : Row) → TidyPlace (patch 0 (key_words a.request.key) k) (patch 0 (request_words a) r) (patch 0 (figure_words (new_figures s)) o)
new_place a s l k r o = record { as_written = ap request_words (sym (asked_back a k r)); cancel_mark = bit_small (new_figures s).cancel_asked; unused = new_unused a s l }

module _ (room : ℕ) (S : Sheet) where
  abbrev ng : ℕ
  ng = head_in S groups_at

  abbrev np : ℕ
  np = head_in S places_at

  abbrev os : List Order
  os = orders_in S

  abbrev led : Ledger
  led = record { groups = numbered (group_of S) ng; symbols = numbered (symbol_of S) (head_in S symbols_at); orders = os }

  -- ── groups ──
  -- a desk's row has its MPID
  own_desk : (m : Mpid) {g : Group} → look by_mpid m led.groups ≡ some g → (group_of S (group_index S m)).mpid ≡ m
  own_desk m e = ap (λ (g : Group). g.mpid) (group_found room S m e).1 ∙ sym (look_key by_mpid m led.groups e)

  -- a group listed, or its mark and its traded values set
  marks_kept : (s : Shift Group) (after : List Order) → Lone after s → (j : ℕ) (r : Row) → j < grown s ng → (j < ng → KeptGroup after r) → KeptGroup after (row_after (group_stores S s) groups j r)
  marks_kept stay after l j r lt k = k lt
  marks_kept (adds g) after l j r lt k = on (λ b. eqb ng j ≡ b → KeptGroup after (cond b (patch 0 (group_words g) r) r)) (eqb ng j)
      (λ z q. (record { short_sales_mark = bit_small g.terms.short_sales; blocked_mark = bit_small g.blocked }, record { open_buys = ap (sum (worth g.mpid true)) (sym l); open_sells = ap (sum (worth g.mpid false)) (sym l) }))
      (λ z q. k (omega (arith, eqb-false ng j q))) refl
  marks_kept (puts g) after l j r lt k = let w = k lt in on (λ b. KeptGroup after (cond b (patch blocked_at (mark_words g) r) r)) (eqb (group_index S g.mpid) j)
      (λ q. (record { short_sales_mark = w.0.short_sales_mark; blocked_mark = bit_small g.blocked }, record { open_buys = w.1.open_buys; open_sells = w.1.open_sells })) (λ q. w)

  -- ── places ──
  -- an order that is amended is one that a passed N holds
  amended_opens : (k : Key) {o : Order} → look by_key k led.orders ≡ some o → opens_of S (order_index S k) ≡ true
  unfolding order_index
  amended_opens k e = ((and-eq-true_iff (opens_of S (order_index S k)) (same_key k (order_of S (order_index S k)).ticket.key)).0
      ((least_is (λ i. opens_of S i && same_key k (order_of S i).ticket.key) np).here (order_found room S k e).0)).0

  figures_tidy : (s : Shift Order) → AptOrder led s → (j : ℕ) → TidyPlace (S keys j) (S requests j) (S orders j) → TidyPlace (S keys j) (S requests j) (row_after (order_stores S s) orders j (S orders j))
  figures_tidy stay a j t = t
  figures_tidy (adds o) a j t = t
  figures_tidy (puts o) a j t = let i = order_index S o.ticket.key in
      on (λ b. TidyPlace (S keys j) (S requests j) (cond b (patch 0 (figure_words o.figures) (S orders j)) (S orders j))) (eqb i j)
      (λ q. record {
        as_written = t.as_written;
        cancel_mark = bit_small o.figures.cancel_asked;
        unused = λ u. absurd (false≢true (sym u ∙ subst (λ j. opens_of S j ≡ true) (eqb-true i j q) (amended_opens o.ticket.key a.1.1)));
      }) (λ q. t)

  -- a place taken
  place_tidy : (x : Asked) (s : Shift Order) → Linked x s → (after : List Order) (S₁ : Sheet) → head_in S₁ places_at ≡ np → TidySheet after S₁ → TidySheet after (enter (place_stores S x s) S₁)
  place_tidy x s l after S₁ e t = record {
    opened_mark = t.opened_mark;
    groups_kept = t.groups_kept;
    places_tidy = λ i lt. on (λ b. eqb np i ≡ b → TidyPlace (cond b (patch 0 (key_words x.request.key) (S₁ keys i)) (S₁ keys i)) (cond b (patch 0 (request_words x) (S₁ requests i)) (S₁ requests i)) (cond b (patch 0 (figure_words (new_figures s)) (S₁ orders i)) (S₁ orders i))) (eqb np i)
        (λ z q. new_place x s l (S₁ keys i) (S₁ requests i) (S₁ orders i)) (λ z q. t.places_tidy i (omega (arith, e, eqb-false np i q))) refl;
  }

  -- ── where listed MPIDs are distinct: the sheet after an edit ──
  module _ (apart : Apart by_mpid led.groups) where
    -- no row but a desk's own has its MPID
    other_desk : (m : Mpid) {g : Group} → look by_mpid m led.groups ≡ some g → (j : ℕ) → j < ng → (group_index S m ≡ j → ⊥) → same_mpid (mpid_in (S groups j)) m ≡ false
    unfolding group_index
    other_desk m e j lt ne = exact_sym mpid_exact (mpid_in (S groups j)) m ∙ elim (dec_lt j (group_index S m)) [
      | yes p ↦ (least_is (λ i. same_mpid m (group_of S i).mpid) ng).before j p
      | no nh ↦ subst (λ k. same_mpid k (mpid_in (S groups j)) ≡ false) (own_desk m e)
          (numbered_distinct same_mpid (λ i. (group_of S i).mpid) ng (subst (Distinct same_mpid) (map_those (λ (g : Group). g.mpid) (λ i. true) (group_of S) ng) apart) (group_index S m) j (omega (arith, nh, ne)) lt)
    ]

    -- the open values of a desk stored; the sums of another have not moved
    open_kept : (m : Mpid) (after : List Order) (j : ℕ) {g : Group} → look by_mpid m led.groups ≡ some g → j < ng →
        ((b : Bool) → same_mpid (mpid_in (S groups j)) m ≡ false → sum (worth (mpid_in (S groups j)) b) after ≡ sum (worth (mpid_in (S groups j)) b) os) →
        KeptGroup os (S groups j) → KeptGroup after (row_after (open_store S m after ∷ []) groups j (S groups j))
    open_kept m after j e lt h k = on (λ b. KeptGroup after (cond b (patch open_buys_at (sum (worth m true) after ∷ sum (worth m false) after ∷ []) (S groups j)) (S groups j))) (eqb (group_index S m) j)
        (λ q. let w : m ≡ mpid_in (S groups j) = sym (own_desk m e) ∙ ap (λ (j : ℕ). mpid_in (S groups j)) (eqb-true (group_index S m) j q) in
        (record { short_sales_mark = k.0.short_sales_mark; blocked_mark = k.0.blocked_mark }, record { open_buys = ap (λ m. sum (worth m true) after) w; open_sells = ap (λ m. sum (worth m false) after) w }))
        (λ q. let n = other_desk m e j lt (eqb-false (group_index S m) j q) in
        (k.0, record { open_buys = k.1.open_buys ∙ sym (h true n); open_sells = k.1.open_sells ∙ sym (h false n) }))

    orders_kept : (s : Shift Order) → AptOrder led s → (j : ℕ) → j < ng → KeptGroup os (S groups j) → let after = shifted by_key s os in KeptGroup after (row_after (open_stores S s after) groups j (S groups j))
    orders_kept stay a j lt k = k
    orders_kept (adds o) a j lt k = open_kept _ _ j a.1 lt (λ b n. other_sum (mpid_in (S groups j)) _ b os (adds o) tt refl n) k
    orders_kept (puts o) a j lt k = open_kept _ _ j a.0.1 lt (λ b n. other_sum (mpid_in (S groups j)) _ b os (puts o) (a.1.0, a.1.1) refl n) k

    deed_tidy : (d : Deed) → AptDeed led d → Timely os d → (S₁ : Sheet) → After room S d S₁ → TidySheet os S → TidySheet (shifted by_key d.order os) S₁
    deed_tidy d a l S₁ w t = record {
      opened_mark = rw w.head.opened_kept t.opened_mark;
      groups_kept = λ i lt. subst (KeptGroup _) (sym (w.group_rows i)) (marks_kept d.group _ l i _ (subst (λ n. i < n) w.head.group_count lt) (λ h. orders_kept d.order a.order i h (t.groups_kept i h)));
      places_tidy = λ i lt. rw (w.key_same i, w.request_same i, w.order_rows i) (figures_tidy d.order a.order i (t.places_tidy i (subst (λ n. i < n) w.head.place_count lt)));
    }

    edit_tidy : (e : Edit) → Apt (books_in room S) e → TimelyEdit os e → TidySheet os S → TidySheet (apply e (books_in room S)).ledger.orders (enter (stores S e) S)
    unfolding stores apply enact books_in
    edit_tidy nothing a l t = t
    edit_tidy opened a l t = record { opened_mark = omega arith; groups_kept = t.groups_kept; places_tidy = t.places_tidy }
    edit_tidy (listed d) a l t = deed_tidy d a.deed l _ (deed_after room S d) t
    edit_tidy (remembered x d) a l t = let w = deed_after room S d in
        subst (TidySheet _) (sym (enter_append (deed_stores S d) _ S)) (place_tidy x d.order a.linked _ _ w.head.place_count (deed_tidy d a.deed l _ w t))
    edit_tidy (taken d) a l t = let u = deed_tidy d a.deed l _ (deed_after room S d) t in
        subst (TidySheet _) (sym (enter_append (deed_stores S d) _ S)) (record { opened_mark = u.opened_mark; groups_kept = u.groups_kept; places_tidy = u.places_tidy })

-- ── on the words ──
-- after opening no group is listed, and before it there is no order
judged_timely : (b : Books) → Sound b → (x : Record) → TimelyEdit b.ledger.orders (judge b x).edit
judged_timely b s x = judge_cases b (λ x v. TimelyEdit b.ledger.orders v.edit) (record {
  on_early = λ x n j q. tt;
  on_open = λ h. tt;
  on_group = λ m t h q k. no_orders b s h;
  on_symbol = λ y h q k. tt;
  on_known = λ r n h e. tt;
  on_new = λ r g h f. steady_timely b.ledger.orders (deal_ruling b.ledger g r.key r.deal).deed (deal_closed b.ledger g r).0;
  on_seen = λ n w h q. tt;
  on_next = λ n w h q. steady_timely b.ledger.orders (news_ruling b.ledger w).deed (news_closed b.ledger w).0;
}) x

-- the rows of a memory, from those of the sheet that it shows
shown_tidy : (m : List ℕ) (os : List Order) (S : Sheet) → Shows (layout (room_of m)) m S → head_in (rows_of m) groups_at ≤ 64 → head_in (rows_of m) places_at ≤ room_of m → TidySheet os S → TidySheet os (rows_of m)
shown_tidy m os S h g p t =
    let at : (k : ℕ) → head_in (rows_of m) k ≡ head_in S k = λ k. ap (λ (r : Row). r k) (h heads 0 (omega arith)) in
    record {
      opened_mark = rw (at opened_at) t.opened_mark;
      groups_kept = λ i lt. subst (KeptGroup os) (sym (h groups i (omega arith))) (t.groups_kept i (omega (arith, at groups_at)));
      places_tidy = λ i lt. rw (h keys i (omega arith), h requests i (omega arith), h orders i (omega arith)) (t.places_tidy i (omega (arith, at places_at)));
    }

-- THEOREM. A record in its form leaves a memory that meets the state rules
pub kept : (m : List ℕ) → Valid m → (x : Record) → Formed x → Valid (write (judge (view m) x).edit m)
unfolding books_in
kept m v x f =
    let e = (judge (view m) x).edit in
    let n : List ℕ = write e m in
    let a = judged_apt (view m) x in
    let s : Sound (view n) = subst Sound (sym (judged m v x)) (step_sound (view m) x v.sound f) in
    let c = counts (room_of n) (rows_of n) in
    let S : Sheet = enter (stores (rows_of m) e) (rows_of m) in
    let shows : Shows (layout (room_of n)) n S = subst (λ (k : ℕ). Shows (layout (room_for k)) n S) (sym (length_write e m)) (write_shows m (valid_counted m v) e a) in
    let was : TidySheet (orders_in (rows_of m)) (rows_of m) = record { opened_mark = v.opened_mark; groups_kept = λ i lt. (v.groups_tidy i lt, v.summed i lt); places_tidy = v.places_tidy } in
    let t = shown_tidy n (step (view m) x).ledger.orders S shows (omega (arith, c.0, s.ledger.few_groups)) (omega (arith, c.2, s.few_asked))
    (edit_tidy (room_of m) (rows_of m) v.sound.ledger.groups_apart e a (judged_timely (view m) v.sound x) was) in
    record {
      long = rw (length_write e m) v.long;
      sound = s;
      opened_mark = t.opened_mark;
      groups_tidy = λ i lt. (t.groups_kept i lt).0;
      places_tidy = t.places_tidy;
      summed = λ i lt. subst (λ (b : Books). Summed b.ledger.orders (rows_of n groups i)) (sym (judged m v x)) (t.groups_kept i lt).1;
    }
