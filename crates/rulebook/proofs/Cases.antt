-- What a verdict can be. Judging is taken apart here once, and the theorems go by these cases.
use Rattle.std.specs.Prelude.{◌≡◌, refl, Bool, true, false, ◌||◌, cond, List, [], ◌∷◌, ℕ, suc, ◌*◌, ◌≤◌, ◌<◌, max, length, leb, ltb, eqb}
use Rattle.std.proofs.Common.{sym, ◌∙◌, subst, arith, ltb-true, ltb-false, leb-true, leb-false, ne_eqb}
use Rattle.std.proofs.lemmas.Bool.{false≢true, lt-leb, not-false}
use Rattle.std.proofs.Math.Bool.{and-eq-true_iff, or-true}
use Rattle.std.proofs.Math.Option.{Option, none, some, Option-elim}
use Rattle.laws.specs.Tests.{on, split, opt, is_none, none_of}
use Rattle.laws.specs.Tables.{look, Has, stay, adds, puts, shifted}
use Rattle.laws.specs.Checks.{Check, ◌⇒◌, first, Clear, each, first_cases}
use Rattle.rulebook.specs.Names.{Ident, Mpid, Key}
use Rattle.rulebook.specs.Lines.{from_to, among, highest, Side, Metrics, Terms, Deal, new, change, cancel, block, unblock, Request, News, quote, fill, reduction, cancel_refused, Record, broken, open_day, group, symbol, ask, tell, same_request, is_buy, ceiling}
use Rattle.rulebook.specs.Kept.{Figures, Order, Group, Symbol, Asked, Ledger, Books, by_mpid, by_id, by_key, by_request, new_group, new_symbol, new_order, remaining, is_open, with_figures, sized, asking, worked, traded, blocking, Tally, tally, metrics, limit_checks, tested}
use Rattle.rulebook.specs.Outcomes.{record_numbers}
use Rattle.rulebook.specs.Judging.{Deed, deed, idle, Edit, nothing, opened, listed, Ruling, hold, rule, found, named, new_checks, change_checks, change_ruling, cancel_checks, cancel_ruling, deal_ruling, fill_checks, reduction_checks, refused_checks, at_order, news_ruling, Verdict, verdict, reply, remember, book, see, judge_request, judge_notice, setup, judge}
use Rattle.rulebook.specs.Rules.{is_kept}
use Rattle.rulebook.specs.Cases.{grant, pass}

-- ── checks ──
-- a number that a record may get
abbrev pub is_number : ℕ → Bool
is_number = among record_numbers

pub in_range : (low high n : ℕ) → from_to low high n ≡ true → (low ≤ n) × (n ≤ high)
in_range low high n h = let p = (and-eq-true_iff (leb low n) (leb n high)).0 h in (leb-true low n p.0, leb-true n high p.1)

pub among_most : (n : ℕ) (rs : List (ℕ × ℕ)) → among rs n ≡ true → n ≤ highest rs
among_most n [] h = absurd (false≢true h)
among_most n (r ∷ rs) h = on (λ t. (t || among rs n) ≡ true → from_to r.0 r.1 n ≡ t → n ≤ max r.1 (highest rs)) (from_to r.0 r.1 n)
    (λ e k z. omega (arith, in_range r.0 r.1 n z)) (λ e k z. omega (arith, among_most n rs k)) h refl

pub number_not : (n : ℕ) → is_number n ≡ true → eqb n 0 ≡ false
number_not n h = ne_eqb n 0 (λ e. false≢true (subst (λ n. is_number n ≡ true) e h))

pub kept_number : (n : ℕ) → is_kept n ≡ true → is_number n ≡ true
kept_number n h = rw (h, or-true, or-true) refl

-- a ruling holds with one of its numbers, or every check is clear
pub rule_cases : (P : Ruling → Type 0) (q : ℕ → Bool) → ((n : ℕ) → q n ≡ true → is_number n ≡ true) → (l : List Check) (d : Deed) → each q l ≡ true →
    ((n : ℕ) → q n ≡ true → P (hold n)) → (Clear l → P (grant d)) → P (rule l d)
rule_cases P q pos l d e f g = first_cases (λ n. P (record { number = n; deed = cond (eqb n 0) d idle })) q l e
    (λ n h. subst (λ b. P (record { number = n; deed = cond b d idle })) (sym (number_not n (pos n h))) (f n h)) g

setup_cases : (P : Verdict → Type 0) (l : List Check) (e : Edit) → each is_number l ≡ true → ((n : ℕ) → is_number n ≡ true → P (reply n)) → (Clear l → P (pass e)) → P (setup l e)
setup_cases P l e k f g = first_cases (λ n. P (verdict "P" "R" n 0 (cond (eqb n 0) e nothing))) is_number l k
    (λ n h. subst (λ b. P (verdict "P" "R" n 0 (cond b e nothing))) (sym (number_not n h)) (f n h)) g

open_cases : (P : Verdict → Type 0) (o : Bool) → (o ≡ true → P (reply 2)) → (o ≡ false → P (pass opened)) → P (setup ((o ⇒ 2) ∷ []) opened)
unfolding first
open_cases P true f g = f refl
open_cases P false f g = g refl

-- ── the door of a request ──
-- 5, known identifier, 7: the number that it gets before it is judged, if any
abbrev pub door : Bool → Option Asked → Bool → Request → Option ℕ
door true a full r = some 5
door false (some a) full r = some (cond (same_request a.request r) a.number 6)
door false none true r = some 7
door false none false r = none

abbrev pub at_door : Books → Request → Option ℕ
at_door b r = door (is_none (look by_mpid r.key.owner.mpid b.ledger.groups)) (look by_request r.key b.asked) (leb b.room (length b.asked)) r

-- past the door: a listed desk, an identifier not in the table, a free place
pub record Free (b : Books) (r : Request) (g : Group) : Type 0 where
  pub desk : look by_mpid r.key.owner.mpid b.ledger.groups ≡ some g
  pub unknown : look by_request r.key b.asked ≡ none
  pub roomy : length b.asked < b.room

pub request_cases : (b : Books) (r : Request) (P : Verdict → Type 0) → ((n : ℕ) → at_door b r ≡ some n → P (reply n)) →
    ((g : Group) → Free b r g → P (remember r (deal_ruling b.ledger g r.key r.deal))) → P (judge_request b r)
unfolding judge_request Option-elim
request_cases b r P old fresh = opt (λ d. P (Option-elim d (reply 5) seek)) (look by_mpid r.key.owner.mpid b.ledger.groups)
    (λ e. old 5 (rw e refl))
    (λ g e. opt (λ a. P (Option-elim a (last g) compare)) (look by_request r.key b.asked)
    (λ q. split P (leb b.room (length b.asked)) _ _ (λ h. old 7 (rw (e, q, h) refl)) (λ h. fresh g (record { desk = e; unknown = q; roomy = leb-false _ _ h })))
    (λ a q. split P (same_request a.request r) _ _ (λ h. old a.number (rw (e, q, h) refl)) (λ h. old 6 (rw (e, q, h) refl))))
  where
    last : Group → Verdict
    last g = cond (leb b.room (length b.asked)) (reply 7) (remember r (deal_ruling b.ledger g r.key r.deal))

    compare : Asked → Verdict
    compare a = cond (same_request a.request r) (reply a.number) (reply 6)

    seek : Group → Verdict
    seek g = Option-elim (look by_request r.key b.asked) (last g) compare

pub door_free : (b : Books) (r : Request) (g : Group) → Free b r g → at_door b r ≡ none
door_free b r g f = rw (f.desk, f.unknown, lt-leb b.room (length b.asked) f.roomy) refl

-- ── notices ──
pub notice_cases : (b : Books) (n : ℕ) (w : News) (P : Verdict → Type 0) → (n ≤ b.last → P see) → (suc b.last < n → P (reply 18)) →
    (n ≡ suc b.last → P (book (news_ruling b.ledger w))) → P (judge_notice b n w)
unfolding judge_notice
notice_cases b n w P old far next = split P (leb n b.last) _ _ (λ e. old (leb-true n b.last e))
    (λ e. split P (ltb (suc b.last) n) _ _ (λ q. far (ltb-true (suc b.last) n q))
    (λ q. next (omega (arith, leb-false n b.last e, ltb-false (suc b.last) n q))))

-- ── a record ──
pub judge_ask : (b : Books) (r : Request) → b.opened ≡ true → judge b (ask r) ≡ judge_request b r
unfolding judge
judge_ask b r h = rw h refl

pub judge_tell : (b : Books) (n : ℕ) (w : News) → b.opened ≡ true → judge b (tell n w) ≡ judge_notice b n w
unfolding judge
judge_tell b n w h = rw h refl

-- a record that is refused and has no effect: what is known of it
abbrev pub Early : Books → Record → Type 0
Early b broken = Unit {0}
Early b (group m t) = Unit {0}
Early b (symbol s) = Unit {0}
Early b open_day = b.opened ≡ true
Early b (ask r) = b.opened ≡ false
Early b (tell n w) = b.opened ≡ true → suc b.last < n

pub record Cases (b : Books) (P : Record → Verdict → Type 0) : Type 0 where
  pub on_early : (x : Record) (n : ℕ) → is_number n ≡ true → Early b x → P x (reply n)
  pub on_open : b.opened ≡ false → P open_day (pass opened)
  pub on_group : (m : Mpid) (t : Terms) → b.opened ≡ false → look by_mpid m b.ledger.groups ≡ none → length b.ledger.groups < 64 →
      P (group m t) (pass (listed (deed stay (adds (new_group m t)) stay)))
  pub on_symbol : (s : ℕ) → b.opened ≡ false → look by_id s b.ledger.symbols ≡ none → length b.ledger.symbols < 256 →
      P (symbol s) (pass (listed (deed stay stay (adds (new_symbol s)))))
  pub on_known : (r : Request) (n : ℕ) → b.opened ≡ true → at_door b r ≡ some n → P (ask r) (reply n)
  pub on_new : (r : Request) (g : Group) → b.opened ≡ true → Free b r g → P (ask r) (remember r (deal_ruling b.ledger g r.key r.deal))
  pub on_seen : (n : ℕ) (w : News) → b.opened ≡ true → n ≤ b.last → P (tell n w) see
  pub on_next : (n : ℕ) (w : News) → b.opened ≡ true → n ≡ suc b.last → P (tell n w) (book (news_ruling b.ledger w))

pub judge_cases : (b : Books) (P : Record → Verdict → Type 0) → Cases b P → (x : Record) → P x (judge b x)
unfolding judge
judge_cases b P c broken = c.on_early broken 1 refl tt
judge_cases b P c (group m t) = setup_cases (P (group m t)) _ _ refl (λ n h. c.on_early (group m t) n h tt)
    (λ z. c.on_group m t z.0 (none_of _ (not-false _ z.1.0)) (leb-false 64 _ z.1.1.0))
judge_cases b P c (symbol s) = setup_cases (P (symbol s)) _ _ refl (λ n h. c.on_early (symbol s) n h tt)
    (λ z. c.on_symbol s z.0 (none_of _ (not-false _ z.1.0)) (leb-false 256 _ z.1.1.0))
judge_cases b P c open_day = open_cases (P open_day) b.opened (c.on_early open_day 2 refl) c.on_open
judge_cases b P c (ask r) = split (P (ask r)) b.opened _ _ (λ h. request_cases b r (P (ask r)) (λ n e. c.on_known r n h e) (λ g f. c.on_new r g h f)) (λ h. c.on_early (ask r) 2 refl h)
judge_cases b P c (tell n w) = split (P (tell n w)) b.opened _ _
    (λ h. notice_cases b n w (P (tell n w)) (λ q. c.on_seen n w h q) (λ q. c.on_early (tell n w) 18 refl (λ z. q)) (λ q. c.on_next n w h q))
    (λ h. c.on_early (tell n w) 2 refl (λ z. absurd (false≢true (sym h ∙ z))))

-- ── a request past the door ──
pub record DealCases (l : Ledger) (g : Group) (k : Key) (P : Deal → Ruling → Type 0) : Type 0 where
  pub on_held : (d : Deal) (n : ℕ) → is_kept n ≡ true → P d (hold n)
  pub on_order : (s : ℕ) (x : Side) (z p : ℕ) → let o = new_order k s x z p in
      Has by_id s l.symbols → (metrics (tally g (shifted by_key (adds o) l.orders))).gross_both ≤ g.terms.limits.gross_both → P (new s x z p) (grant (deed (adds o) stay stay))
  pub on_change : (n : Ident) (z p : ℕ) (o : Order) → look by_key (named k n) l.orders ≡ some o → is_open o ≡ true → o.figures.done < z → let u = puts (with_figures o (sized z p o.figures)) in
      (metrics (tally g (shifted by_key u l.orders))).gross_both ≤ g.terms.limits.gross_both → P (change n z p) (grant (deed u stay stay))
  pub on_cancel : (n : Ident) (o : Order) → look by_key (named k n) l.orders ≡ some o → is_open o ≡ true →
      P (cancel n) (grant (deed (puts (with_figures o (asking true o.figures))) stay stay))
  pub on_block : P block (grant (deed stay (puts (blocking true g)) stay))
  pub on_unblock : P unblock (grant (deed stay (puts (blocking false g)) stay))

found_cases : {A : Type 0} (P : Ruling → Type 0) (n : ℕ) (x : Option A) (f : A → Ruling) → P (hold n) → ((y : A) → x ≡ some y → P (f y)) → P (found n x f)
unfolding Option-elim
found_cases P n none f h k = h
found_cases P n (some y) f h k = k y refl

-- the lists of N and M: their numbers, and what they leave when they are clear
limits_clear : (l m : Metrics) → Clear (limit_checks l m) → m.gross_both ≤ l.gross_both
unfolding limit_checks
limits_clear l m c = ltb-false l.gross_both m.gross_both c.1.1.1.1.0

new_kept : (g : Group) (s : Option Symbol) (t : Tally) (o : Order) → each is_kept (new_checks g s t o) ≡ true
unfolding new_checks limit_checks
new_kept g s t o = refl

new_clear : (g : Group) (s : Option Symbol) (t : Tally) (o : Order) → Clear (new_checks g s t o) → (is_none s ≡ false) × ((metrics t).gross_both ≤ g.terms.limits.gross_both)
unfolding new_checks
new_clear g s t o c = (c.0, limits_clear _ _ c.1.1.1.1.1.1)

change_kept : (g : Group) (s : Option Symbol) (t : Tally) (o : Order) (f : Figures) → each is_kept (change_checks g s t o f) ≡ true
unfolding change_checks limit_checks
change_kept g s t o f = refl

change_clear : (g : Group) (s : Option Symbol) (t : Tally) (o : Order) (f : Figures) → Clear (change_checks g s t o f) → (is_open o ≡ true) × (f.done < f.size) × ((metrics t).gross_both ≤ g.terms.limits.gross_both)
unfolding change_checks
change_clear g s t o f c = (not-false _ c.0, leb-false f.size f.done c.1.1.1.1.0, limits_clear _ _ c.1.1.1.1.1.1.1)

pub deal_cases : (l : Ledger) (g : Group) (k : Key) (P : Deal → Ruling → Type 0) → DealCases l g k P → (d : Deal) → P d (deal_ruling l g k d)
unfolding deal_ruling first cancel_checks
deal_cases l g k P c (new s x z p) = rule_cases (P (new s x z p)) is_kept kept_number (new_checks g _ _ _) _ (new_kept g _ _ _) (c.on_held (new s x z p))
    (λ t. let h = new_clear g _ _ _ t in c.on_order s x z p h.0 h.1)
deal_cases l g k P c (change n z p) = found_cases (P (change n z p)) 9 (look by_key (named k n) l.orders) (change_ruling l g z p) (c.on_held (change n z p) 9 refl)
    (λ o e. rule_cases (P (change n z p)) is_kept kept_number (change_checks g _ _ o _) _ (change_kept g _ _ o _) (c.on_held (change n z p))
    (λ t. let h = change_clear g _ _ o _ t in c.on_change n z p o e h.0 h.1 h.2))
deal_cases l g k P c (cancel n) = found_cases (P (cancel n)) 9 (look by_key (named k n) l.orders) cancel_ruling (c.on_held (cancel n) 9 refl)
    (λ o e. rule_cases (P (cancel n)) is_kept kept_number (cancel_checks o) _ refl (c.on_held (cancel n)) (λ z. c.on_cancel n o e (not-false _ z.0)))
deal_cases l g k P c block = c.on_block
deal_cases l g k P c unblock = c.on_unblock

-- ── a notice that is next ──
-- a listed desk, and an open order of it
pub record Seen (l : Ledger) (k : Key) (g : Group) (o : Order) : Type 0 where
  pub desk : look by_mpid k.owner.mpid l.groups ≡ some g
  pub stands : look by_key k l.orders ≡ some o
  pub is_live : is_open o ≡ true

pub record NewsCases (l : Ledger) (P : News → Ruling → Type 0) : Type 0 where
  pub on_aside : (w : News) (n : ℕ) → is_number n ≡ true → P w (hold n)
  pub on_quote : (s x y : ℕ) → Has by_id s l.symbols → P (quote s x y) (grant (deed stay stay (puts (record { id = s; bid = x; offer = y }))))
  pub on_fill : (k : Key) (z p : ℕ) (g : Group) (o : Order) → Seen l k g o → z ≤ remaining o.figures →
      let u = puts (with_figures o (worked z o.figures)) in let h = traded (is_buy o.ticket.side) (z * p) g in let t = tally h (shifted by_key u l.orders) in
      (metrics t).gross_both ≤ ceiling → P (fill k z p) (grant (deed u (puts (tested h t)) stay))
  pub on_reduction : (k : Key) (z : ℕ) (g : Group) (o : Order) → Seen l k g o → z ≤ remaining o.figures →
      let u = puts (with_figures o (worked z o.figures)) in P (reduction k z) (grant (deed u (puts (tested g (tally g (shifted by_key u l.orders)))) stay))
  pub on_refused : (k : Key) (g : Group) (o : Order) → Seen l k g o → P (cancel_refused k) (grant (deed (puts (with_figures o (asking false o.figures))) stay stay))

order_cases : (l : Ledger) (k : Key) (P : Ruling → Type 0) (f : Group → Order → Ruling) → ((n : ℕ) → is_number n ≡ true → P (hold n)) →
    ((g : Group) (o : Order) → look by_mpid k.owner.mpid l.groups ≡ some g → look by_key k l.orders ≡ some o → P (f g o)) → P (at_order l k f)
order_cases l k P f h c = found_cases P 5 _ _ (h 5 refl) (λ g e. found_cases P 9 _ _ (h 9 refl) (λ o q. c g o e q))

pub news_cases : (l : Ledger) (P : News → Ruling → Type 0) → NewsCases l P → (w : News) → P w (news_ruling l w)
unfolding news_ruling first fill_checks reduction_checks refused_checks
news_cases l P c (quote s x y) = rule_cases (P (quote s x y)) is_number (λ n h. h) ((is_none (look by_id s l.symbols) ⇒ 8) ∷ []) _ refl (c.on_aside (quote s x y)) (λ z. c.on_quote s x y z.0)
news_cases l P c (fill k z p) = order_cases l k (P (fill k z p)) _ (c.on_aside (fill k z p))
    (λ g o e q. let t = tally (traded (is_buy o.ticket.side) (z * p) g) (shifted by_key (puts (with_figures o (worked z o.figures))) l.orders) in
    rule_cases (P (fill k z p)) is_number (λ n h. h) (fill_checks t z o) _ refl (c.on_aside (fill k z p))
    (λ t. c.on_fill k z p g o (record { desk = e; stands = q; is_live = not-false _ t.0 }) (ltb-false _ _ t.1.0) (ltb-false _ _ t.1.1.0)))
news_cases l P c (reduction k z) = order_cases l k (P (reduction k z)) _ (c.on_aside (reduction k z))
    (λ g o e q. rule_cases (P (reduction k z)) is_number (λ n h. h) (reduction_checks z o) _ refl (c.on_aside (reduction k z))
    (λ t. c.on_reduction k z g o (record { desk = e; stands = q; is_live = not-false _ t.0 }) (ltb-false _ _ t.1.0)))
news_cases l P c (cancel_refused k) = order_cases l k (P (cancel_refused k)) _ (c.on_aside (cancel_refused k))
    (λ g o e q. rule_cases (P (cancel_refused k)) is_number (λ n h. h) (refused_checks o) _ refl (c.on_aside (cancel_refused k))
    (λ t. c.on_refused k g o (record { desk = e; stands = q; is_live = not-false _ t.0 })))
