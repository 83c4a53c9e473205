-- The test of the whole memory as the code makes it, and that it is the test of the state rules.
use Rattle.std.specs.Prelude.{◌≡◌, refl, Bool, true, false, ◌&&◌, ◌||◌, cond, ◌⊎◌, Option, None, Some, List, [], ◌∷◌, ℕ, ◌+◌, ◌≤◌, ◌<◌, leb, ltb, eqb, length}
use Rattle.std.proofs.Common.{sym, ◌∙◌, subst, inl, inr, ⊎_elim, arith, leb-true, ltb-true, lt-ltb, le-ltb}
use Rattle.std.proofs.lemmas.Bool.{false≢true}
use Rattle.laws.specs.Tests.{on, both, two, first_fails, second_fails}
use Rattle.laws.specs.Checks.{all_hold, rules_read, rules_met, stop, pass, last_call}
use Rattle.laws.specs.Tables.{◌also◌}
use Rattle.laws.specs.Numbered.{every, every_each, every_yes, every_no, apart, least, least_is}
use Rattle.rulebook.specs.Names.{same_mpid, mpid_exact}
use Rattle.rulebook.specs.Lines.{ceiling, Fits, mpid}
use Rattle.books.specs.Layout.{order_start, symbols, base_of, width_of, total_cells, orders, least_words, room_of, groups, keys, requests, symbol_at, opened_at, groups_at, symbols_at, places_at, traded_buys_at, open_buys_at, open_sells_at}
use Rattle.books.specs.View.{flag, mpid_in, head_in, asked_of, opens_of, rows_of}
use Rattle.books.specs.Writing.{group_index, symbol_index}
use Rattle.packing.specs.Exactly.{mpid_exactly}
use Rattle.books.specs.Refining.{Counted}
use Rattle.books.proofs.Refining.{counted}
use Rattle.chains.specs.Words.{same_row}
use Rattle.store.specs.Indexing.{places_same}
use Rattle.rules.specs.Testing.{head_fits, request_fits, desk_listed, symbol_listed, sums_are, state_ok}
use Rattle.rules.specs.Meaning.{holding, held}
use Rattle.rules.specs.Passing.{words_within, word_at, word_within, group_start, totals_ok, head_ok, group_ok, symbol_ok, figures_ok}
use Rattle.rules.specs.Agreeing.{early_is, OrderRules, GroupRules, group_read, group_met, symbol_read, symbol_met, request_read, request_met, order_read, order_met, unused_read, unused_met}
use Rattle.state.specs.declared.Sides.{Sides}
use Rattle.state.specs.Places.{same_desk, same_id, figures_right, place_ok, desk_at}
use Rattle.state.specs.Summing.{Sums, Over, over_later, sums_broken}

-- a taken place in range, with a listed owner
unfoldable pub fine : List ℕ → ℕ → Bool
fine m i = desk_listed (rows_of m) i && place_ok m i

unfoldable pub table_ok : List ℕ → Bool
table_ok m = all_hold (every (fine m) (head_in (rows_of m) places_at) ∷ every (sums_are (rows_of m)) (head_in (rows_of m) groups_at) ∷ [])

unfoldable pub listed_ok : List ℕ → Bool
listed_ok m = let h = head_in (rows_of m) in
    all_hold (every (group_ok m) (h groups_at) ∷ every (symbol_ok m) (h symbols_at) ∷ apart (same_row m (base_of groups) (width_of groups) 1) (h groups_at) ∷ apart (same_row m (base_of symbols) (width_of symbols) 1) (h symbols_at) ∷ [])

-- the groups and symbols that the pass over the table relies on
pub record Listed (m : List ℕ) : Type 0 where
  pub counts : Counted m
  pub desks_apart : apart (same_row m (base_of groups) (width_of groups) 1) (head_in (rows_of m) groups_at) ≡ true
  pub ids_apart : apart (same_row m (base_of symbols) (width_of symbols) 1) (head_in (rows_of m) symbols_at) ≡ true
  pub totals : (g : ℕ) → g < head_in (rows_of m) groups_at → (rows_of m groups g open_buys_at ≤ ceiling) × (rows_of m groups g open_sells_at ≤ ceiling)

-- what the pass answers
abbrev Faulty : List ℕ → Type 0
Faulty m = ((j : ℕ) × (j < head_in (rows_of m) places_at) × (fine m j ≡ false)) ⊎ Over (rows_of m) (head_in (rows_of m) places_at)

abbrev pub Tallied : List ℕ → Option (List Sides) → Type 0
Tallied m None = Faulty m
Tallied m (Some sums) = Sums (rows_of m) sums (head_in (rows_of m) places_at) × (every (fine m) (head_in (rows_of m) places_at) ≡ true)

-- every rule but that the keys are apart
unfoldable pub parts_ok : List ℕ → Bool
parts_ok m = all_hold (leb least_words (length m) ∷ head_ok (room_of m) (head_in (rows_of m)) ∷ listed_ok m ∷ table_ok m ∷ [])

abbrev pub keys_ok : List ℕ → Bool
keys_ok m = apart (same_row m (base_of keys) (width_of keys) (width_of keys)) (head_in (rows_of m) places_at)

unfoldable pub passes : List ℕ → Bool
passes m = all_hold (parts_ok m ∷ keys_ok m ∷ [])

-- ── rows that begin with the same words ──
pub desks_same : (m : List ℕ) → same_row m (base_of groups) (width_of groups) 1 ≡ same_desk m
unfolding same_row every
desks_same m = refl

pub ids_same : (m : List ℕ) → same_row m (base_of symbols) (width_of symbols) 1 ≡ same_id m
unfolding same_row every
ids_same m = refl

-- ── the head ──
-- a rule of each, or open
each_early : (a : Bool) (t : ℕ → Bool) (n : ℕ) → ((i : ℕ) → i < n → (a || t i) ≡ true) → (a || every t n) ≡ true
each_early true t n h = refl
each_early false t n h = every_yes t n h

early_each : (a : Bool) (t : ℕ → Bool) (n : ℕ) → (a || every t n) ≡ true → (i : ℕ) → i < n → (a || t i) ≡ true
early_each true t n e i lt = refl
early_each false t n e i lt = every_each t n e i lt

-- ── places ──
-- a listed owner's MPID is in its form
owner_fits : (m : List ℕ) → every (group_ok m) (head_in (rows_of m) groups_at) ≡ true → (i : ℕ) → desk_listed (rows_of m) i ≡ true → Fits (mpid (asked_of (rows_of m) i).request.key.owner.mpid)
unfolding desk_listed group_index group_ok
owner_fits m g i e =
    let w = (asked_of (rows_of m) i).request.key.owner.mpid in
    let t : ℕ → Bool = λ j. same_mpid w (mpid_in (rows_of m groups j)) in
    let lt : least t (head_in (rows_of m) groups_at) < head_in (rows_of m) groups_at = ltb-true _ _ e in
    let k = least t (head_in (rows_of m) groups_at) in
    let same : w ≡ mpid_in (rows_of m groups k) = mpid_exact.only w (mpid_in (rows_of m groups k)) ((least_is t (head_in (rows_of m) groups_at)).here lt) in
    subst (λ w. Fits (mpid w)) (sym same) ((mpid_exactly (mpid_in (rows_of m groups k))).0 (rules_read _ (every_each (group_ok m) (head_in (rows_of m) groups_at) g k lt)).0)

-- what the rules ask of a taken place
pub record PlaceRules (m : List ℕ) (i : ℕ) : Type 0 where
  pub request : request_fits (rows_of m keys i) (rows_of m requests i) ≡ true
  pub order : OrderRules m i
  pub symbol : symbol_listed (rows_of m) i ≡ true

place_read : (m : List ℕ) (i : ℕ) → Fits (mpid (asked_of (rows_of m) i).request.key.owner.mpid) → place_ok m i ≡ true → PlaceRules m i
unfolding place_ok figures_right symbol_listed
place_read m i o e = let w = rules_read _ e in let f = w.1.0 in
    record { request = request_read m i o w.0; order = part.0; symbol = part.1 }
  where
    part : OrderRules m i × (cond (opens_of (rows_of m) i) (ltb (symbol_index (rows_of m) (rows_of m requests i symbol_at)) (head_in (rows_of m) symbols_at)) true ≡ true)
    part = let f = (rules_read _ e).1.0 in on (λ b. opens_of (rows_of m) i ≡ b → OrderRules m i × (cond b (ltb (symbol_index (rows_of m) (rows_of m requests i symbol_at)) (head_in (rows_of m) symbols_at)) true ≡ true)) (opens_of (rows_of m) i)
        (λ z q. let v = rules_read _ (rw q at f) in (order_read m i q v.0, v.1.0)) (λ z q. (unused_read m i q (rw q at f), refl)) refl

place_met : (m : List ℕ) (i : ℕ) → PlaceRules m i → place_ok m i ≡ true
unfolding place_ok figures_right symbol_listed
place_met m i p = rules_met _ (request_met m i p.request also part also tt)
  where
    part : cond (opens_of (rows_of m) i) (all_hold (figures_ok m (order_start m i) ∷ ltb (symbol_index (rows_of m) (rows_of m requests i symbol_at)) (head_in (rows_of m) symbols_at) ∷ [])) (words_within m (order_start m i) (width_of orders) 0) ≡ true
    part = on (λ b. opens_of (rows_of m) i ≡ b → cond b (all_hold (figures_ok m (order_start m i) ∷ ltb (symbol_index (rows_of m) (rows_of m requests i symbol_at)) (head_in (rows_of m) symbols_at) ∷ [])) (words_within m (order_start m i) (width_of orders) 0) ≡ true) (opens_of (rows_of m) i)
        (λ z q. rules_met _ (order_met m i q p.order also (rw q at p.symbol) also tt)) (λ z q. unused_met m i q p.order) refl

fine_read : (m : List ℕ) (i : ℕ) → fine m i ≡ true → (desk_listed (rows_of m) i ≡ true) × (place_ok m i ≡ true)
unfolding fine
fine_read m i e = both e

fine_met : (m : List ℕ) (i : ℕ) → desk_listed (rows_of m) i ≡ true → place_ok m i ≡ true → fine m i ≡ true
unfolding fine
fine_met m i a b = two a b

-- ── the whole ──
whole_read : (m : List ℕ) → passes m ≡ true → state_ok m ≡ true
unfolding passes parts_ok state_ok head_ok listed_ok table_ok head_fits
whole_read m e =
    let S = rows_of m in let h = head_in S in
    let v = rules_read _ e in
    let w = rules_read _ v.0 in
    let a = rules_read _ w.1.0 in
    let l = rules_read _ w.1.1.0 in
    let t = rules_read _ w.1.1.1.0 in
    let g : (i : ℕ) → i < h groups_at → GroupRules m i = λ i lt. group_read m i (every_each (group_ok m) (h groups_at) l.0 i lt) in
    let p : (i : ℕ) → i < h places_at → (desk_listed S i ≡ true) × PlaceRules m i = λ i lt. one m l.0 i (every_each (fine m) (h places_at) t.0 i lt) in
    two w.0 (held (room_of m) S (record {
      few_groups = a.1.1.0;
      few_symbols = a.1.1.1.0;
      few_places = a.1.1.1.1.0;
      head = two a.0 a.1.0;
      groups_fit = every_yes _ (h groups_at) (λ i lt. (g i lt).fits_form);
      symbols_fit = every_yes _ (h symbols_at) (λ i lt. symbol_read m i (every_each (symbol_ok m) (h symbols_at) l.1.0 i lt));
      requests_fit = every_yes _ (h places_at) (λ i lt. (p i lt).1.request);
      figures_right = every_yes _ (h places_at) (λ i lt. (p i lt).1.order.figures);
      mpids_apart = subst (λ t. apart t (h groups_at) ≡ true) (desks_same m) l.1.1.0;
      ids_apart = subst (λ t. apart t (h symbols_at) ≡ true) (ids_same m) l.1.1.1.0;
      keys_apart = subst (λ t. apart t (h places_at) ≡ true) (places_same m) v.1.0;
      desks_listed = every_yes _ (h places_at) (λ i lt. (p i lt).0);
      symbols_listed = every_yes _ (h places_at) (λ i lt. (p i lt).1.symbol);
      none_early = sym (early_is (h opened_at) (eqb (h places_at) 0)) ∙ a.1.1.1.1.1.0;
      nothing_early = each_early (flag (h opened_at)) _ (h groups_at) (λ i lt. (g i lt).quiet);
      done_within = every_yes _ (h places_at) (λ i lt. (p i lt).1.order.done_most);
      sums_right = t.1.0;
      gross_within = every_yes _ (h groups_at) (λ i lt. (g i lt).gross);
    }))
  where
    one : (m : List ℕ) → every (group_ok m) (head_in (rows_of m) groups_at) ≡ true → (i : ℕ) → fine m i ≡ true → (desk_listed (rows_of m) i ≡ true) × PlaceRules m i
    one m g i f = let v = fine_read m i f in (v.0, place_read m i (owner_fits m g i v.0) v.1)

whole_met : (m : List ℕ) → state_ok m ≡ true → passes m ≡ true
unfolding passes parts_ok state_ok head_ok listed_ok table_ok head_fits
whole_met m e =
    let S = rows_of m in let h = head_in S in
    let w = both e in
    let r = holding (room_of m) S w.1 in
    let f = both r.head in
    rules_met _ (
    rules_met _ (w.0
    also rules_met _ (f.0 also f.1 also r.few_groups also r.few_symbols also r.few_places also early_is (h opened_at) (eqb (h places_at) 0) ∙ r.none_early also tt)
    also rules_met _ (every_yes _ (h groups_at) (λ i lt. group_met m i (record {
      fits_form = every_each _ (h groups_at) r.groups_fit i lt;
      gross = every_each _ (h groups_at) r.gross_within i lt;
      quiet = early_each (flag (h opened_at)) _ (h groups_at) r.nothing_early i lt;
    }))
    also every_yes _ (h symbols_at) (λ i lt. symbol_met m i (every_each _ (h symbols_at) r.symbols_fit i lt))
    also subst (λ t. apart t (h groups_at) ≡ true) (sym (desks_same m)) r.mpids_apart also subst (λ t. apart t (h symbols_at) ≡ true) (sym (ids_same m)) r.ids_apart also tt)
    also rules_met _ (every_yes _ (h places_at) (λ i lt. fine_met m i (every_each _ (h places_at) r.desks_listed i lt) (place_met m i (record {
      request = every_each _ (h places_at) r.requests_fit i lt;
      order = record { figures = every_each _ (h places_at) r.figures_right i lt; done_most = every_each _ (h places_at) r.done_within i lt };
      symbol = every_each _ (h places_at) r.symbols_listed i lt;
    })))
    also r.sums_right also tt)
    also tt)
    also subst (λ t. apart t (h places_at) ≡ true) (sym (places_same m)) r.keys_apart
    also tt
    )

-- THEOREM. What the code tries is the test of the state rules
pub whole : (m : List ℕ) → passes m ≡ state_ok m
whole m = on (λ b. passes m ≡ b → b ≡ state_ok m) (passes m) (λ z e. sym (whole_read m e)) (λ z e. sym (on (λ c. state_ok m ≡ c → c ≡ false) (state_ok m) (λ y q. absurd (false≢true (sym e ∙ whole_met m q))) (λ y q. refl) refl)) refl

-- ── how the pass ends ──
-- at a place whose owner is not listed, at one that is not in range, and at a total above the ceiling
pub unlisted : (m : List ℕ) (i : ℕ) → i < head_in (rows_of m) places_at → head_in (rows_of m) groups_at ≤ desk_at m i → Tallied m None
unfolding fine desk_listed
unlisted m i lt h = inl (i, lt, first_fails _ (le-ltb (desk_at m i) (head_in (rows_of m) groups_at) h))

pub unfit : (m : List ℕ) (i : ℕ) → i < head_in (rows_of m) places_at → place_ok m i ≡ false → Tallied m None
unfolding fine
unfit m i lt e = inl (i, lt, second_fails (desk_listed (rows_of m) i) e)

pub too_much : (m : List ℕ) (i : ℕ) → i < head_in (rows_of m) places_at → Over (rows_of m) (i + 1) → Tallied m None
too_much m i lt o = inr (over_later (i + 1) (head_in (rows_of m) places_at) (omega arith) o)

-- and after the last
pub tallied : (m : List ℕ) (sums : List Sides) → Sums (rows_of m) sums (head_in (rows_of m) places_at) → ((j : ℕ) → j < head_in (rows_of m) places_at → fine m j ≡ true) → Tallied m (Some sums)
tallied m sums s f = (s, every_yes (fine m) (head_in (rows_of m) places_at) f)

pub fine_at : (m : List ℕ) (i k : ℕ) → k ≡ desk_at m i → k < head_in (rows_of m) groups_at → place_ok m i ≡ true → fine m i ≡ true
unfolding desk_listed
fine_at m i k e lt p = fine_met m i (lt-ltb _ _ (subst (λ (k : ℕ). k < head_in (rows_of m) groups_at) e lt)) p

-- ── the table ──
pub table_broken : (m : List ℕ) → Listed m → Tallied m None → false ≡ table_ok m
unfolding table_ok
table_broken m l t = ⊎_elim {C = false ≡ table_ok m}
    (λ f. stop _ _ (every_no (fine m) (head_in (rows_of m) places_at) f.0 f.1 f.2))
    (λ o. on (λ b. every (fine m) (head_in (rows_of m) places_at) ≡ b → false ≡ all_hold (b ∷ every (sums_are (rows_of m)) (head_in (rows_of m) groups_at) ∷ [])) (every (fine m) (head_in (rows_of m) places_at))
    (λ z e. pass _ _ _ refl (stop _ _ (sums_broken (rows_of m) l.totals o))) (λ z e. stop _ _ refl) refl) t

pub table_compared : (m : List ℕ) (sums : List Sides) (r : Bool) → Tallied m (Some sums) → r ≡ every (sums_are (rows_of m)) (head_in (rows_of m) groups_at) → r ≡ table_ok m
unfolding table_ok
table_compared m sums r t e = pass _ _ _ t.1 (last_call _ _ e)

-- ── what each part relies on ──
group_totals : (m : List ℕ) (g : ℕ) → group_ok m g ≡ true → (rows_of m groups g open_buys_at ≤ ceiling) × (rows_of m groups g open_sells_at ≤ ceiling)
unfolding group_ok totals_ok
group_totals m g e =
    let t = rules_read _ (rules_read _ e).1.1.1.1.0 in
    let most : (k : ℕ) → traded_buys_at ≤ k → k < traded_buys_at + total_cells → word_at m (group_start g) k ≤ ceiling = word_within m (group_start g) traded_buys_at total_cells ceiling t.0 in
    (most open_buys_at (omega arith) (omega arith), most open_sells_at (omega arith) (omega arith))

pub listed_by : (m : List ℕ) → Counted m → listed_ok m ≡ true → Listed m
unfolding listed_ok
listed_by m c e =
    let l = rules_read _ e in
    record {
      counts = c;
      desks_apart = l.1.1.0;
      ids_apart = l.1.1.1.0;
      totals = λ g lt. group_totals m g (every_each (group_ok m) (head_in (rows_of m) groups_at) l.0 g lt);
    }

pub counted_head : (m : List ℕ) → least_words ≤ length m → head_ok (room_of m) (head_in (rows_of m)) ≡ true → Counted m
unfolding head_ok
counted_head m l e = let a = rules_read _ e in counted m l (leb-true _ _ a.1.1.0) (leb-true _ _ a.1.1.1.0) (leb-true _ _ a.1.1.1.1.0)

-- what is so tried can be counted on
pub parts_counted : (m : List ℕ) → parts_ok m ≡ true → Counted m
unfolding parts_ok
parts_counted m e = let w = rules_read _ e in counted_head m (leb-true _ _ w.0) w.1.0

-- and where it holds, the state rules hold as the keys are apart; where not, they do not
pub by_keys : (m : List ℕ) → parts_ok m ≡ true → keys_ok m ≡ state_ok m
unfolding passes
by_keys m e = pass _ _ _ e (last_call _ _ refl) ∙ whole m

pub parts_bad : (m : List ℕ) → parts_ok m ≡ false → state_ok m ≡ false
unfolding passes
parts_bad m e = sym (stop _ _ e ∙ whole m)
