-- The state rules hold of fresh books, and every record of every kind keeps them.
-- Why: N, M and F test the gross after, and C, D and H raise no order's value; the rest is what each deed writes.
use Rattle.std.specs.Prelude.{◌≡◌, refl, Bool, true, false, ◌||◌, cond, ℕ, ◌+◌, ◌≤◌, ◌<◌, length, eqb}
use Rattle.std.proofs.Common.{sym, ap, ap₂, ◌∙◌, subst, arith, mul-le-mul_right, length-append}
use Rattle.std.proofs.lemmas.Bool.{false≢true}
use Rattle.std.proofs.Math.Bool.{or-true}
use Rattle.std.proofs.Math.Option.{none, some}
use mathlib.Core.List.{List, [], ◌∷◌, ◌++◌, map-eq-nil_iff}
use Rattle.laws.specs.Tests.{on, is_none, exact_sym}
use Rattle.laws.specs.Tables.{sum, sum_append, All, Distinct, all_map, all_append, Shift, stay, adds, puts, look, put, shifted, Has, Apart, look_key, look_self, all_look, has_same, has_append, apart_append, keys_put, length_put, put_self, sum_put, all_put, all_put_others}
use Rattle.rulebook.specs.Names.{Mpid, Key, same_mpid, mpid_exact}
use Rattle.rulebook.specs.Lines.{Terms, ceiling, Deal, News, Record, group, symbol, ask, tell, quote, fill, reduction, cancel_refused, Formed, Fits, serial, new, change, cancel, block, unblock, broken, open_day}
use Rattle.rulebook.specs.Kept.{Figures, Order, Group, Symbol, Asked, Ledger, Books, by_mpid, by_id, by_key, new_group, new_symbol, remaining, with_figures, asking, worked, blocking, open_value, is_of, worth, tally, metrics, fresh_books}
use Rattle.rulebook.specs.Outcomes.{name_of}
use Rattle.rulebook.specs.Judging.{Deed, deed, enact, apply, Ruling, hold, named, deal_ruling, news_ruling}
use Rattle.rulebook.specs.Day.{step, run}
use Rattle.rulebook.specs.Rules.{is_kept, FitsGroup, FitsSymbol, FitsAsked, tickets_in, SoundOrder, SoundLedger, Sound}
use Rattle.rulebook.proofs.Cases.{judge_cases, deal_cases, news_cases}
use Rattle.rulebook.proofs.Retries.{Closed, deal_closed, news_closed, closed_listed}
use Rattle.rulebook.proofs.Sums.{Tidy, tidy_step}

-- ── what an order counts for ──
worth_other : (m : Mpid) (b : Bool) (o : Order) → same_mpid m o.ticket.key.owner.mpid ≡ false → worth m b o ≡ 0
unfolding worth
worth_other m b o e = rw e refl

-- with the same ticket and no greater value
worth_lower : (m : Mpid) (b : Bool) (o : Order) (f : Figures) → open_value (with_figures o f) ≤ open_value o → worth m b (with_figures o f) ≤ worth m b o
unfolding worth
worth_lower m b o f h = on (λ t. cond t (open_value (with_figures o f)) 0 ≤ cond t (open_value o) 0) (is_of m b o.ticket) (λ q. h) (λ q. omega arith)

abbrev gross : Group → List Order → ℕ
gross g os = (metrics (tally g os)).gross_both

-- ── tallies after a shift ──
-- an order that is added, or put where an order with its key stands
abbrev Standing : List Order → Shift Order → Type 0
Standing os stay = Unit {0}
Standing os (adds o) = Unit {0}
Standing os (puts o) = (p : Order) × (look by_key o.ticket.key os ≡ some p)

-- of this desk
abbrev Owned : Mpid → Shift Order → Type 0
Owned m stay = Unit {0}
Owned m (adds o) = m ≡ o.ticket.key.owner.mpid
Owned m (puts o) = m ≡ o.ticket.key.owner.mpid

-- another desk's sums do not move
pub other_sum : (m d : Mpid) (b : Bool) (os : List Order) (s : Shift Order) → Standing os s → Owned d s → same_mpid m d ≡ false → sum (worth m b) (shifted by_key s os) ≡ sum (worth m b) os
other_sum m d b os stay t w n = refl
other_sum m d b os (adds o) t w n = omega (arith, sum_append (worth m b) os (o ∷ []), worth_other m b o (rw (← w) n))
other_sum m d b os (puts o) t w n =
    let e : o.ticket.key ≡ t.0.ticket.key = look_key by_key o.ticket.key os t.1 in
    omega (arith, sum_put by_key (worth m b) o os t.1, worth_other m b o (rw (← w) n), worth_other m b t.0 (rw (← e, ← w) n))

other_gross : (d : Mpid) (os : List Order) (s : Shift Order) → Standing os s → Owned d s → (x : Group) → same_mpid x.mpid d ≡ false → gross x (shifted by_key s os) ≡ gross x os
other_gross d os s t w x n = ap₂ (λ a b. x.traded_buys + x.traded_sells + (a + b)) (other_sum x.mpid d true os s t w n) (other_sum x.mpid d false os s t w n)

-- no order's value rises
lower_gross : (g : Group) (os : List Order) (o : Order) (f : Figures) → look by_key o.ticket.key os ≡ some o → open_value (with_figures o f) ≤ open_value o → gross g (put by_key (with_figures o f) os) ≤ gross g os
lower_gross g os o f e h = omega (arith, one true, one false)
  where
    one : (b : Bool) → sum (worth g.mpid b) (put by_key (with_figures o f) os) ≤ sum (worth g.mpid b) os
    one b = omega (arith, sum_put by_key (worth g.mpid b) (with_figures o f) os e, worth_lower g.mpid b o f h)

-- ── the ledger after a deed ──
-- orders of one desk and its group move: h takes the group's place, with its terms
ledger_moves : (l : Ledger) (g h : Group) (s : Shift Order) → SoundLedger l → look by_mpid h.mpid l.groups ≡ some g → h.terms ≡ g.terms → Standing l.orders s → Owned h.mpid s →
    All (SoundOrder l.symbols) (shifted by_key s l.orders) → gross h (shifted by_key s l.orders) ≤ ceiling → SoundLedger (enact (deed s (puts h) stay) l)
unfolding enact
ledger_moves l g h s f e t st w os q =
    let k = keys_put by_mpid h l.groups in
    let fit = all_look by_mpid FitsGroup h.mpid l.groups f.groups_fit e in
    let m : h.mpid ≡ g.mpid = look_key by_mpid h.mpid l.groups e in
    record {
      few_groups = rw (length_put by_mpid h l.groups) f.few_groups;
      few_symbols = f.few_symbols;
      groups_fit = all_put by_mpid FitsGroup h l.groups f.groups_fit (rw (m, t) fit);
      symbols_fit = f.symbols_fit;
      orders_sound = os;
      groups_apart = subst (Distinct same_mpid) (sym k) f.groups_apart;
      symbols_apart = f.symbols_apart;
      gross_within = all_put_others by_mpid (λ g. gross g l.orders ≤ ceiling) (λ g. gross g (shifted by_key s l.orders) ≤ ceiling) h
          (λ x n p. rw (other_gross h.mpid l.orders s st w x (exact_sym mpid_exact x.mpid h.mpid ∙ n)) p) l.groups f.groups_apart f.gross_within q;
    }

-- the group stays as it is
ledger_orders : (l : Ledger) (g : Group) (s : Shift Order) → SoundLedger l → look by_mpid g.mpid l.groups ≡ some g → Standing l.orders s → Owned g.mpid s →
    All (SoundOrder l.symbols) (shifted by_key s l.orders) → gross g (shifted by_key s l.orders) ≤ ceiling → SoundLedger (enact (deed s stay stay) l)
unfolding enact
ledger_orders l g s f e st w os q = subst (λ gs. SoundLedger (record { groups = gs; symbols = l.symbols; orders = shifted by_key s l.orders })) (put_self by_mpid l.groups e) (ledger_moves l g g s f e refl st w os q)

-- orders under a list of symbols in which what was listed still is
relisted : (ss ts : List Symbol) → ((i : ℕ) → Has by_id i ss → Has by_id i ts) → (os : List Order) → All (SoundOrder ss) os → All (SoundOrder ts) os
relisted ss ts f os a = all_map (SoundOrder ss) (SoundOrder ts) (λ o z. record { size_fits = z.size_fits; price_fits = z.price_fits; listed = f o.ticket.sym z.listed; done_within = z.done_within }) os a

ledger_quote : (l : Ledger) (s : Symbol) → SoundLedger l → FitsSymbol s → SoundLedger (enact (deed stay stay (puts s)) l)
unfolding enact
ledger_quote l s f h =
    let k = keys_put by_id s l.symbols in
    record {
      few_groups = f.few_groups;
      few_symbols = rw (length_put by_id s l.symbols) f.few_symbols;
      groups_fit = f.groups_fit;
      symbols_fit = all_put by_id FitsSymbol s l.symbols f.symbols_fit h;
      orders_sound = relisted _ _ (λ i h. has_same by_id i _ _ k ∙ h) l.orders f.orders_sound;
      groups_apart = f.groups_apart;
      symbols_apart = subst (Distinct eqb) (sym k) f.symbols_apart;
      gross_within = f.gross_within;
    }

-- ── rulings ──
abbrev Keeps : Ledger → Ruling → Type 0
Keeps l u = SoundLedger (enact u.deed l)

held_keeps : (l : Ledger) → SoundLedger l → (n : ℕ) → Keeps l (hold n)
unfolding enact
held_keeps l f n = f

asking_value : (o : Order) (x : Bool) → open_value (with_figures o (asking x o.figures)) ≤ open_value o
unfolding open_value
asking_value o x = omega arith

worked_value : (o : Order) (z : ℕ) → open_value (with_figures o (worked z o.figures)) ≤ open_value o
unfolding open_value
worked_value o z = mul-le-mul_right o.figures.price (omega arith)

asking_sound : (ss : List Symbol) (o : Order) (x : Bool) → SoundOrder ss o → SoundOrder ss (with_figures o (asking x o.figures))
asking_sound ss o x z = record { size_fits = z.size_fits; price_fits = z.price_fits; listed = z.listed; done_within = z.done_within }

worked_sound : (ss : List Symbol) (o : Order) (z : ℕ) → SoundOrder ss o → z ≤ remaining o.figures → SoundOrder ss (with_figures o (worked z o.figures))
worked_sound ss o z s h = record { size_fits = s.size_fits; price_fits = s.price_fits; listed = s.listed; done_within = omega (arith, s.done_within) }

-- an order that a target names, with its group
record Named (l : Ledger) (g : Group) (o : Order) : Type 0 where
  group : look by_mpid g.mpid l.groups ≡ some g
  owner : g.mpid ≡ o.ticket.key.owner.mpid
  standing : (p : Order) × (look by_key o.ticket.key l.orders ≡ some p)
  sound : SoundOrder l.symbols o

named_by : (l : Ledger) (k : Key) {g : Group} {o : Order} → SoundLedger l → look by_mpid k.owner.mpid l.groups ≡ some g → look by_key k l.orders ≡ some o → Named l g o
named_by l k {o = o} f d e = record {
  group = look_self by_mpid k.owner.mpid l.groups d;
  owner = sym (look_key by_mpid k.owner.mpid l.groups d) ∙ ap (λ k. k.owner.mpid) (look_key by_key k l.orders e);
  standing = (o, look_self by_key k l.orders e);
  sound = all_look by_key (SoundOrder l.symbols) k l.orders f.orders_sound e;
}

-- the orders with another in its place
puts_sound : (l : Ledger) (o : Order) → SoundLedger l → SoundOrder l.symbols o → All (SoundOrder l.symbols) (put by_key o l.orders)
puts_sound l o f s = all_put by_key (SoundOrder l.symbols) o l.orders f.orders_sound s

group_gross : (l : Ledger) (m : Mpid) {g : Group} → SoundLedger l → look by_mpid m l.groups ≡ some g → gross g l.orders ≤ ceiling
group_gross l m f e = all_look by_mpid (λ g. gross g l.orders ≤ ceiling) m l.groups f.gross_within e

-- C, D and H: no order's value rises, and gross stays within the ceiling
lowers : (l : Ledger) (k : Key) (g : Group) (o : Order) (f : Figures) → SoundLedger l → look by_mpid k.owner.mpid l.groups ≡ some g → look by_key k l.orders ≡ some o →
    open_value (with_figures o f) ≤ open_value o → gross g (put by_key (with_figures o f) l.orders) ≤ ceiling
lowers l k g o f s d e h = omega (arith, lower_gross g l.orders o f (look_self by_key k l.orders e) h, group_gross l k.owner.mpid s d)

deal_keeps : (l : Ledger) (g : Group) (k : Key) → SoundLedger l → look by_mpid k.owner.mpid l.groups ≡ some g → (d : Deal) → Formed (ask (record { key = k; deal = d })) → Keeps l (deal_ruling l g k d)
deal_keeps l g k f e d = deal_cases l g k (λ d u. Formed (ask (record { key = k; deal = d })) → Keeps l u) (record {
  on_held = λ d n h w. held_keeps l f n;
  on_order = λ s x z p h c w. ledger_orders l g _ f self tt (sym (look_key by_mpid _ l.groups e))
      (all_append (SoundOrder l.symbols) l.orders _ f.orders_sound (record { size_fits = w.1.1.1.1.0; price_fits = w.1.1.1.1.1.0; listed = h; done_within = omega arith }))
      (omega (arith, c, fits.1.1.1.1.1.0));
  on_change = λ n z p o q v b c w. let t = named_by l (named k n) f e q in
      ledger_orders l g _ f self t.standing t.owner
      (puts_sound l _ f (record { size_fits = w.1.1.1.0; price_fits = w.1.1.1.1.0; listed = t.sound.listed; done_within = omega (arith, b) })) (omega (arith, c, fits.1.1.1.1.1.0));
  on_cancel = λ n o q v w. let t = named_by l (named k n) f e q in
      ledger_orders l g _ f self t.standing t.owner (puts_sound l _ f (asking_sound l.symbols o true t.sound)) (lowers l (named k n) g o _ f e q (asking_value o true));
  on_block = λ w. ledger_moves l g (blocking true g) stay f self refl tt tt f.orders_sound (group_gross l _ f e);
  on_unblock = λ w. ledger_moves l g (blocking false g) stay f self refl tt tt f.orders_sound (group_gross l _ f e);
}) d
  where
    self : look by_mpid g.mpid l.groups ≡ some g
    self = look_self by_mpid k.owner.mpid l.groups e

    fits : FitsGroup g
    fits = all_look by_mpid FitsGroup _ l.groups f.groups_fit e

news_keeps : (l : Ledger) (n : ℕ) → SoundLedger l → (w : News) → Formed (tell n w) → Keeps l (news_ruling l w)
news_keeps l n f w = news_cases l (λ w u. Formed (tell n w) → Keeps l u) (record {
  on_aside = λ w j h v. held_keeps l f j;
  on_quote = λ s x y h v. ledger_quote l _ f (omega arith, v.1);
  on_fill = λ k z p g o s h c v. let t = named_by l k f s.desk s.stands in
      ledger_moves l g _ _ f t.group refl t.standing t.owner (puts_sound l _ f (worked_sound l.symbols o z t.sound h)) c;
  on_reduction = λ k z g o s h v. let t = named_by l k f s.desk s.stands in
      ledger_moves l g _ _ f t.group refl t.standing t.owner (puts_sound l _ f (worked_sound l.symbols o z t.sound h)) (lowers l k g o _ f s.desk s.stands (worked_value o z));
  on_refused = λ k g o s v. let t = named_by l k f s.desk s.stands in
      ledger_orders l g _ f t.group t.standing t.owner (puts_sound l _ f (asking_sound l.symbols o false t.sound)) (lowers l k g o _ f s.desk s.stands (asking_value o false));
}) w

-- the name of a record in its form
pub name_fits : (x : Record) → Formed x → Fits (name_of x)
name_fits broken w = refl
name_fits open_day w = refl
name_fits (group m t) w = w.0
name_fits (symbol s) w = w.0
name_fits (ask r) w = deal r.deal w
  where
    deal : (d : Deal) → Formed (ask (record { key = r.key; deal = d })) → Fits (name_of (ask r))
    deal (new s x z p) w = w.0
    deal (change n z p) w = w.0
    deal (cancel n) w = w.0
    deal block w = w.0
    deal unblock w = w.0
name_fits (tell n w) v = news w v
  where
    news : (w : News) → Formed (tell n w) → Fits (serial n)
    news (quote s x y) v = v.0
    news (fill k z p) v = v.0
    news (reduction k z) v = v.0
    news (cancel_refused k) v = v.0

-- ── the books ──
-- the number of a ruling on a request is one that the table may remember
pub deal_kept : (l : Ledger) (g : Group) (k : Key) (d : Deal) → let u = deal_ruling l g k d in (eqb u.number 0 || is_kept u.number) ≡ true
deal_kept l g k d = deal_cases l g k (λ d u. (eqb u.number 0 || is_kept u.number) ≡ true) (record {
  on_held = λ d n h. rw h (or-true (eqb n 0));
  on_order = λ s x z p h c. refl;
  on_change = λ n z p o q v b c. refl;
  on_cancel = λ n o q v. refl;
  on_block = refl;
  on_unblock = refl;
}) d

-- before O there is no order
pub no_orders : (b : Books) → Sound b → b.opened ≡ false → b.ledger.orders ≡ []
no_orders b s h = (map-eq-nil_iff (λ (o : Order). o.ticket)).0 (s.orders_asked ∙ ap tickets_in (s.before_open h).0)

-- THEOREM. A fresh state meets the state rules
pub fresh_sound : (n : ℕ) → n ≤ 65_535 → Sound (fresh_books n)
unfolding fresh_books
fresh_sound n h = record {
  ledger = record { few_groups = omega arith; few_symbols = omega arith; groups_fit = tt; symbols_fit = tt; orders_sound = tt; groups_apart = tt; symbols_apart = tt; gross_within = tt };
  few_asked = omega arith;
  small_room = h;
  last_fits = omega arith;
  asked_fit = tt;
  asked_apart = tt;
  asked_listed = tt;
  orders_asked = refl;
  before_open = λ e. (refl, tt);
}

pub sound_tidy : (b : Books) → Sound b → Tidy b
sound_tidy b s = record { groups_apart = s.ledger.groups_apart; asked_apart = s.asked_apart; orders_asked = s.orders_asked }

-- a group or a symbol more
listed_group : (l : Ledger) (m : Mpid) (t : Terms) → SoundLedger l → length l.groups < 64 → Formed (group m t) → l.orders ≡ [] → Apart by_mpid (l.groups ++ (new_group m t ∷ [])) → SoundLedger (enact (deed stay (adds (new_group m t)) stay) l)
unfolding enact
listed_group l m t f k w e d = record {
  few_groups = omega (arith, length-append l.groups (new_group m t ∷ []));
  few_symbols = f.few_symbols;
  groups_fit = all_append FitsGroup l.groups (new_group m t) f.groups_fit w;
  symbols_fit = f.symbols_fit;
  orders_sound = f.orders_sound;
  groups_apart = d;
  symbols_apart = f.symbols_apart;
  gross_within = all_append (λ g. gross g l.orders ≤ ceiling) l.groups (new_group m t) f.gross_within (rw e (omega arith));
}

listed_symbol : (l : Ledger) (i : ℕ) → SoundLedger l → length l.symbols < 256 → Formed (symbol i) → look by_id i l.symbols ≡ none → SoundLedger (enact (deed stay stay (adds (new_symbol i))) l)
unfolding enact
listed_symbol l i f k w e = record {
  few_groups = f.few_groups;
  few_symbols = omega (arith, length-append l.symbols (new_symbol i ∷ []));
  groups_fit = f.groups_fit;
  symbols_fit = all_append FitsSymbol l.symbols (new_symbol i) f.symbols_fit (omega (arith, w.0));
  orders_sound = relisted _ _ (λ k h. has_append by_id k l.symbols (new_symbol i) h) l.orders f.orders_sound;
  groups_apart = f.groups_apart;
  symbols_apart = apart_append by_id l.symbols (new_symbol i) f.symbols_apart e;
  gross_within = f.gross_within;
}

-- the desks of the table stay listed after opening
desks_listed : (d : Deed) (l : Ledger) (xs : List Asked) → Closed d → All (λ a. Has by_mpid a.request.key.owner.mpid l.groups) xs → All (λ a. Has by_mpid a.request.key.owner.mpid (enact d l).groups) xs
desks_listed d l xs c h = all_map _ _ (λ a z. closed_listed a.request.key.owner.mpid d l c ∙ z) xs h

-- THEOREM. Every record in its form keeps them
pub step_sound : (b : Books) (x : Record) → Sound b → Formed x → Sound (step b x)
unfolding apply enact
step_sound b x s w = judge_cases b (λ x v. Formed x → Tidy (apply v.edit b) → Sound (apply v.edit b)) (record {
  on_early = λ x n j q w t. s;
  on_open = λ h w t. record {
    ledger = s.ledger;
    few_asked = s.few_asked;
    small_room = s.small_room;
    last_fits = s.last_fits;
    asked_fit = s.asked_fit;
    asked_apart = s.asked_apart;
    asked_listed = s.asked_listed;
    orders_asked = s.orders_asked;
    before_open = λ z. absurd (false≢true (sym z));
  };
  on_group = λ m y h q k w t. let z = s.before_open h in record {
    ledger = listed_group b.ledger m y s.ledger k w (no_orders b s h) t.groups_apart;
    few_asked = s.few_asked;
    small_room = s.small_room;
    last_fits = s.last_fits;
    asked_fit = s.asked_fit;
    asked_apart = s.asked_apart;
    orders_asked = s.orders_asked;
    asked_listed = all_map _ (λ (a : Asked). Has by_mpid a.request.key.owner.mpid (b.ledger.groups ++ (new_group m y ∷ []))) (λ a v. has_append by_mpid a.request.key.owner.mpid b.ledger.groups (new_group m y) v) b.asked s.asked_listed;
    before_open = λ v. (z.0, all_append (λ (g : Group). (g.traded_buys ≡ 0) × (g.traded_sells ≡ 0)) b.ledger.groups (new_group m y) z.1 (refl, refl));
  };
  on_symbol = λ m h q k w t. record {
    ledger = listed_symbol b.ledger m s.ledger k w q;
    few_asked = s.few_asked;
    small_room = s.small_room;
    last_fits = s.last_fits;
    asked_fit = s.asked_fit;
    asked_apart = s.asked_apart;
    asked_listed = s.asked_listed;
    orders_asked = s.orders_asked;
    before_open = s.before_open;
  };
  on_known = λ r n h e w t. s;
  on_new = λ r g h f w t. let u = deal_ruling b.ledger g r.key r.deal in let a : Asked = record { request = r; number = u.number } in record {
    ledger = deal_keeps b.ledger g r.key s.ledger f.desk r.deal w;
    few_asked = omega (arith, length-append b.asked (a ∷ []), f.roomy);
    small_room = s.small_room;
    last_fits = s.last_fits;
    asked_apart = t.asked_apart;
    orders_asked = t.orders_asked;
    asked_fit = all_append FitsAsked b.asked a s.asked_fit (w, deal_kept b.ledger g r.key r.deal);
    asked_listed = desks_listed u.deed b.ledger (b.asked ++ (a ∷ [])) (deal_closed b.ledger g r) (all_append _ b.asked a s.asked_listed (ap is_none f.desk));
    before_open = λ z. absurd (false≢true (sym z ∙ h));
  };
  on_seen = λ n v h q w t. s;
  on_next = λ n v h q w t. record {
    ledger = news_keeps b.ledger n s.ledger v w;
    few_asked = s.few_asked;
    small_room = s.small_room;
    asked_fit = s.asked_fit;
    asked_apart = s.asked_apart;
    orders_asked = t.orders_asked;
    last_fits = omega (arith, name_fits (tell n v) w);
    asked_listed = desks_listed (news_ruling b.ledger v).deed b.ledger b.asked (news_closed b.ledger v) s.asked_listed;
    before_open = λ z. absurd (false≢true (sym z ∙ h));
  };
}) x w (tidy_step b x (sound_tidy b s))

-- THEOREM. and so does a day
pub run_sound : (b : Books) (xs : List Record) → Sound b → All Formed xs → Sound (run b xs)
run_sound b [] s w = s
run_sound b (x ∷ xs) s w = run_sound (step b x) xs (step_sound b x s w.0) w.1
