-- Demand 3, the sums: each desk's totals are what the list of records and answers says.
-- Why: a record's deed does to the orders and the traded values what its effect says, and no two orders have one key.
use Rattle.std.specs.Prelude.{◌≡◌, refl, Bool, true, false, ◌&&◌, cond, ℕ, ◌+◌, ◌*◌, eqb}
use Rattle.std.proofs.Common.{sym, ap, ap₂, ◌∙◌, subst, arith}
use Rattle.std.specs.Bool.{beq}
use Rattle.std.proofs.Math.Bool.{and-eq-true_iff}
use Rattle.std.proofs.Math.Option
use Rattle.std.proofs.Math.Option.{Option, none, some, Option-elim, none-ne-some}
use mathlib.Core.List.{List, [], ◌∷◌, ◌++◌, map, map-append, map-map, append-nil, append_assoc, foldl}
use Prim.Native.Char.{code}
use Rattle.std.proofs.Math.ListN.{get_elem?}
use Rattle.laws.specs.Tests.{on, split, opt}
use Rattle.laws.specs.Tables.{find, find_map, sum, sum_append, Distinct, look, put, Apart, keys, look_key, look_self, look_at, look_put, look_other, look_append, look_next, apart_append, keys_steady, map_put, sum_put, sum_one}
use Rattle.rulebook.specs.Names.{Mpid, Key, same_mpid, same_key, mpid_exact, key_exact}
use Rattle.rulebook.specs.Lines.{Terms, Deal, new, change, cancel, block, unblock, Request, News, quote, fill, reduction, cancel_refused, Record, broken, open_day, group, symbol, ask, tell, is_buy}
use Rattle.rulebook.specs.Kept.{Figures, Ticket, Order, Group, Asked, Ledger, Books, by_mpid, by_key, by_request, new_group, new_order, is_open, with_figures, sized, worked, asking, traded, blocking, tested, tally, is_of, open_value, worth, fresh_books}
use Rattle.rulebook.specs.Outcomes.{Answer, closing_line, closing}
use Rattle.rulebook.specs.Judging.{Deed, enact, named, apply, Ruling, deal_ruling, news_ruling, reply, messages, remember, book, judge}
use Rattle.rulebook.specs.Day.{step, run, log, rest}
use Rattle.rulebook.specs.Account.{Told, Left, left_value, Effect, no_effect, opens, moves, deal_effect, news_effect, effect, listing, desks, told, less, tickets, after, leaves, left_open, pays, fills, effects, account}
use Rattle.rulebook.specs.Rules.{tickets_at, tickets_in}
use Rattle.rulebook.proofs.Cases.{number_not, kept_number, judge_cases, deal_cases, Seen, news_cases}
use Rattle.rulebook.proofs.Retries.{Closed, deal_closed, news_closed, same_books}

-- ── what a desk has traded ──
abbrev pub traded_of : Bool → Group → ℕ
traded_of b g = cond b g.traded_buys g.traded_sells

abbrev pub total_of : Bool → Option Group → ℕ
total_of b none = 0
total_of b (some g) = traded_of b g

abbrev pub total : Mpid → Bool → List Group → ℕ
total m b gs = total_of b (look by_mpid m gs)

-- a group's totals rise by v, on one side or not at all
total_put : (m : Mpid) (b : Bool) (g h : Group) (gs : List Group) (v : ℕ) → look by_mpid h.mpid gs ≡ some g → traded_of b h ≡ traded_of b g + v →
    total m b (put by_mpid h gs) ≡ total m b gs + cond (same_mpid m h.mpid) v 0
total_put m b g h gs v e q = on (λ t. total m b (put by_mpid h gs) ≡ total m b gs + cond t v 0) (same_mpid m h.mpid)
    (λ s. rw (mpid_exact.only m h.mpid s) (omega (arith, ap (total_of b) (look_put by_mpid h gs e), ap (total_of b) e)))
    (λ s. omega (arith, ap (total_of b) (look_other by_mpid m h gs s)))

zeros : (t : Bool) → ◌≡◌ {A = ℕ} (cond t 0 0) 0
zeros true = refl
zeros false = refl

total_same : (m : Mpid) (b : Bool) (g h : Group) (gs : List Group) → look by_mpid h.mpid gs ≡ some g → traded_of b h ≡ traded_of b g → total m b (put by_mpid h gs) ≡ total m b gs
total_same m b g h gs e q = omega (arith, total_put m b g h gs 0 e (omega arith), zeros (same_mpid m h.mpid))

total_listed : (m k : Mpid) (b : Bool) (t : Terms) (gs : List Group) → total m b (gs ++ (new_group k t ∷ [])) ≡ total m b gs
total_listed m k b t gs = opt (λ o. total m b (gs ++ (new_group k t ∷ [])) ≡ total_of b o) (look by_mpid m gs)
    (λ e. ap (total_of b) (look_next by_mpid m gs (new_group k t) e) ∙ split (λ o. total_of b o ≡ 0) (same_mpid m k) (some (new_group k t)) none (λ q. zeros b) (λ q. refl))
    (λ g e. ap (total_of b) (look_append by_mpid m gs (new_group k t) e))

-- ── a record does what its effect says ──
abbrev ticket_of : Order → Ticket
ticket_of o = o.ticket

abbrev left_of : Order → Left
left_of o = record { size = o.figures.size; price = o.figures.price; done = o.figures.done }

-- what a count of tickets and what is left of them makes of an order, and of what an effect opens
abbrev of_order : (Ticket → Left → ℕ) → Order → ℕ
of_order G o = G o.ticket (left_of o)

abbrev of_opened : (Ticket → Left → ℕ) → Effect → ℕ
of_opened G no_effect = 0
of_opened G (opens t l) = G t l
of_opened G (moves k f v) = 0

-- the same count after the effect
abbrev then : (Ticket → Left → ℕ) → Effect → Ticket → Left → ℕ
then G e t l = G t (after t.key l e)

pub record Acts (l l' : Ledger) (e : Effect) : Type 0 where
  pub grown : map ticket_of l'.orders ≡ map ticket_of l.orders ++ tickets e
  pub counts : Apart by_key l.orders → (G : Ticket → Left → ℕ) → sum (of_order G) l'.orders ≡ sum (of_order (then G e)) l.orders + of_opened G e
  pub paid : (m : Mpid) (b : Bool) → total m b l'.groups ≡ total m b l.groups + pays m b (map ticket_of l.orders) e

-- nothing done, nothing paid
rests : (l l' : Ledger) (e : Effect) → e ≡ no_effect → l'.orders ≡ l.orders → ((m : Mpid) (b : Bool) → total m b l'.groups ≡ total m b l.groups) → Acts l l' e
rests l l' e q o h = rw q (record {
  grown = ap (map ticket_of) o ∙ sym (append-nil (map ticket_of l.orders));
  counts = λ d G. omega (arith, ap (sum (of_order G)) o);
  paid = λ m b. omega (arith, h m b);
})

-- an order that stands gets other figures; its ticket stays
abbrev Renews : Ledger → Ledger → Key → Order → Figures → Type 0
Renews l l' k o f = (look by_key k l.orders ≡ some o) × (l'.orders ≡ put by_key (with_figures o f) l.orders)

renewed_tickets : (l l' : Ledger) (k : Key) (o : Order) (f : Figures) → Renews l l' k o f → map ticket_of l'.orders ≡ map ticket_of l.orders ++ []
renewed_tickets l l' k o f r = ap (map ticket_of) r.1 ∙ map_put by_key ticket_of (with_figures o f) l.orders (look_self by_key k l.orders r.0) refl ∙ sym (append-nil (map ticket_of l.orders))

-- C and H: what is left of it stays
flags : (l l' : Ledger) (k : Key) (o : Order) (f : Figures) → Renews l l' k o f → left_of (with_figures o f) ≡ left_of o → ((m : Mpid) (b : Bool) → total m b l'.groups ≡ total m b l.groups) → Acts l l' no_effect
flags l l' k o f r q h = record {
  grown = renewed_tickets l l' k o f r;
  counts = λ d G. omega (arith, ap (sum (of_order G)) r.1, sum_put by_key (of_order G) (with_figures o f) l.orders (look_self by_key k l.orders r.0), ap (G o.ticket) q);
  paid = λ m b. omega (arith, h m b);
}

-- M, F and D: what is left of it moves as the effect says
shifts : (l l' : Ledger) (k : Key) (o : Order) (f : Figures) (move : Left → Left) (v : ℕ) → Renews l l' k o f → is_open o ≡ true → left_of (with_figures o f) ≡ move (left_of o) →
    ((m : Mpid) (b : Bool) → total m b l'.groups ≡ total m b l.groups + pays m b (map ticket_of l.orders) (moves k move v)) → Acts l l' (moves k move v)
shifts l l' k o f move v r h q p = record {
  grown = renewed_tickets l l' k o f r;
  counts = λ d G.
      let e : k ≡ o.ticket.key = look_key by_key k l.orders r.0 in
      let named : (same_key k o.ticket.key && is_open o) ≡ true = (and-eq-true_iff (same_key k o.ticket.key) (is_open o)).1 (rw e (key_exact.self o.ticket.key), h) in
      omega (
        arith,
        ap (sum (of_order G)) r.1,
        sum_put by_key (of_order G) (with_figures o f) l.orders (look_self by_key k l.orders r.0),
        ap (G o.ticket) q,
        sum_one by_key (of_order G) (of_order (then G (moves k move v))) k (λ x n. ap (λ t. G x.ticket (cond (t && is_open x) (move (left_of x)) (left_of x))) n) l.orders d r.0,
        ap (λ t. G o.ticket (cond t (move (left_of o)) (left_of o))) named,
      );
  paid = p;
}

zero_pays : (m : Mpid) (b : Bool) (ts : List Ticket) (k : Key) (f : Left → Left) → pays m b ts (moves k f 0) ≡ 0
zero_pays m b ts k f = zeros (Option-elim (find (λ t. same_key k t.key) ts) false (is_of m b))

-- a refusal at the door, or early
reply_effect : (x : Record) (n : ℕ) → effect x (reply n).answer ≡ no_effect
reply_effect broken n = refl
reply_effect open_day n = refl
reply_effect (group m t) n = refl
reply_effect (symbol s) n = refl
reply_effect (ask r) n = refl
reply_effect (tell k w) n = on (λ t. cond (eqb (code (cond t "P" "R")) (code "K")) (news_effect w) no_effect ≡ no_effect) (eqb n 0) (λ q. refl) (λ q. refl)

deal_acts : (l : Ledger) (g : Group) (r : Request) → look by_mpid r.key.owner.mpid l.groups ≡ some g → let u = deal_ruling l g r.key r.deal in Acts l (enact u.deed l) (effect (ask r) (remember r u).answer)
unfolding enact
deal_acts l g r e = deal_cases l g r.key (λ d u. Acts l (enact u.deed l) (effect (ask (record { key = r.key; deal = d })) (remember (record { key = r.key; deal = d }) u).answer)) (record {
  on_held = λ d n h. rests l _ _ (ap (λ t. cond (eqb (cond t (messages d) 0) 0) no_effect (deal_effect r.key d)) (number_not n (kept_number n h))) refl (λ m b. refl);
  on_order = λ s x z p h c. let o = new_order r.key s x z p in
      record { grown = map-append ticket_of l.orders (o ∷ []); counts = λ d G. omega (arith, sum_append (of_order G) l.orders (o ∷ [])); paid = λ m b. omega arith };
  on_change = λ n z p o q h d c. shifts l _ _ o (sized z p o.figures) _ 0 (q, refl) h refl (λ m b. omega (arith, zero_pays m b (map ticket_of l.orders) (named r.key n) (λ l. record { size = z; price = p; done = l.done })));
  on_cancel = λ n o q h. flags l _ _ o (asking true o.figures) (q, refl) refl (λ m b. refl);
  on_block = rests l _ _ refl refl (λ m b. total_same m b g (blocking true g) l.groups (look_self by_mpid _ l.groups e) refl);
  on_unblock = rests l _ _ refl refl (λ m b. total_same m b g (blocking false g) l.groups (look_self by_mpid _ l.groups e) refl);
}) r.deal

traded_by : (b s : Bool) (v : ℕ) (g : Group) → traded_of b (traded s v g) ≡ traded_of b g + cond (beq b s) v 0
traded_by true true v g = refl
traded_by true false v g = refl
traded_by false true v g = refl
traded_by false false v g = refl

-- a fill: the value goes to the side of the N that its target names
fill_pays : (l : Ledger) (k : Key) (f : Left → Left) (v : ℕ) (g : Group) (o : Order) (h : Group) → Seen l k g o → h.mpid ≡ g.mpid → ((b : Bool) → traded_of b h ≡ traded_of b g + cond (beq b (is_buy o.ticket.side)) v 0) →
    (m : Mpid) (b : Bool) → total m b (put by_mpid h l.groups) ≡ total m b l.groups + pays m b (map ticket_of l.orders) (moves k f v)
unfolding Option-elim look
fill_pays l k f v g o h s e t m b =
    let q : find (λ t. same_key k t.key) (map ticket_of l.orders) ≡ some o.ticket = find_map ticket_of (λ t. same_key k t.key) l.orders ∙ ap (Option.map ticket_of) s.stands in
    let d : h.mpid ≡ o.ticket.key.owner.mpid = e ∙ sym (look_key by_mpid k.owner.mpid l.groups s.desk) ∙ ap (λ k. k.owner.mpid) (look_key by_key k l.orders s.stands) in
    rw (q, ← d) (total_put m b g h l.groups _ (rw e (look_self by_mpid _ l.groups s.desk)) (t b) ∙ ap (λ n. total m b l.groups + n) (both (same_mpid m h.mpid) (beq b (is_buy o.ticket.side))))
  where
    both : (x y : Bool) → cond x (cond y v 0) 0 ≡ cond (x && y) v 0
    both true y = refl
    both false y = refl

news_acts : (l : Ledger) (n : ℕ) (w : News) → let u = news_ruling l w in Acts l (enact u.deed l) (effect (tell n w) (book u).answer)
unfolding enact
news_acts l n w = news_cases l (λ w u. Acts l (enact u.deed l) (effect (tell n w) (book u).answer)) (record {
  on_aside = λ w j h. rests l _ _ (ap (λ t. cond (eqb (code (cond t "K" "A")) (code "K")) (news_effect w) no_effect) (number_not j h)) refl (λ m b. refl);
  on_quote = λ s x y h. rests l _ _ refl refl (λ m b. refl);
  on_fill = λ k z p g o s h q. shifts l _ k o (worked z o.figures) (less z) (z * p) (s.stands, refl) s.is_live refl (fill_pays l k (less z) (z * p) g o _ s refl (λ b. traded_by b (is_buy o.ticket.side) (z * p) g));
  on_reduction = λ k z g o s h. shifts l _ k o (worked z o.figures) (less z) 0 (s.stands, refl) s.is_live refl
      (λ m b. omega (arith, total_same m b g (tested g (tally g (put by_key (with_figures o (worked z o.figures)) l.orders))) l.groups (look_self by_mpid _ l.groups s.desk) refl, zero_pays m b (map ticket_of l.orders) k (less z)));
  on_refused = λ k g o s. flags l _ k o (asking false o.figures) (s.stands, refl) refl (λ m b. refl);
}) w

pub acts : (b : Books) (x : Record) → Acts b.ledger (step b x).ledger (effect x (judge b x).answer)
unfolding apply enact
acts b x = judge_cases b (λ x v. Acts b.ledger (apply v.edit b).ledger (effect x v.answer)) (record {
  on_early = λ x n j q. rests _ _ _ (reply_effect x n) refl (λ m c. refl);
  on_open = λ h. rests _ _ _ refl refl (λ m c. refl);
  on_group = λ k t h q j. rests _ _ _ refl refl (λ m c. total_listed m k c t b.ledger.groups);
  on_symbol = λ s h q j. rests _ _ _ refl refl (λ m c. refl);
  on_known = λ r n h q. rests _ _ _ (reply_effect (ask r) n) refl (λ m c. refl);
  on_new = λ r g h f. deal_acts b.ledger g r f.desk;
  on_seen = λ n w h q. rests _ _ _ refl refl (λ m c. refl);
  on_next = λ n w h q. news_acts b.ledger n w;
}) x

-- ── the orders are those of the table's passed N ──
-- a place has no ticket, or one with the place's key
tickets_cases : (P : List Ticket → Type 0) (a : Asked) → P [] → ((t : Ticket) → t.key ≡ a.request.key → P (t ∷ [])) → P (tickets_at a)
tickets_cases P a n c = split P (eqb a.number 0) _ [] (λ h. deal a.request.deal) (λ h. n)
  where
    deal : (d : Deal) → P (tickets (deal_effect a.request.key d))
    deal (new s x z p) = c _ refl
    deal (change i z p) = n
    deal (cancel i) = n
    deal block = n
    deal unblock = n

abbrev key_of : Ticket → Key
key_of t = t.key

tickets_miss : (k : Key) (l : List Asked) → find (same_key k) (keys by_request l) ≡ none → find (same_key k) (map key_of (tickets_in l)) ≡ none
tickets_miss k [] h = refl
tickets_miss k (a ∷ l) h = on (λ t. cond t (some a.request.key) (find (same_key k) (keys by_request l)) ≡ none → find (same_key k) (map key_of (tickets_at a ++ tickets_in l)) ≡ none) (same_key k a.request.key)
    (λ q e. absurd (none-ne-some a.request.key (sym e)))
    (λ q e. let r = tickets_miss k l e in tickets_cases (λ z. find (same_key k) (map key_of (z ++ tickets_in l)) ≡ none) a r (λ t p. rw (p, q) r)) h

tickets_apart : (l : List Asked) → Apart by_request l → Distinct same_key (map key_of (tickets_in l))
tickets_apart [] d = tt
tickets_apart (a ∷ l) d = let r = tickets_apart l d.1 in
    tickets_cases (λ z. Distinct same_key (map key_of (z ++ tickets_in l))) a r (λ t p. (subst (λ k. find (same_key k) (map key_of (tickets_in l)) ≡ none) (sym p) (tickets_miss a.request.key l d.0), r))

pub tickets_append : (l : List Asked) (a : Asked) → tickets_in (l ++ (a ∷ [])) ≡ tickets_in l ++ tickets_at a
tickets_append [] a = append-nil (tickets_at a)
tickets_append (x ∷ l) a = ap (λ z. tickets_at x ++ z) (tickets_append l a) ∙ sym (append_assoc (tickets_at x) (tickets_in l) (tickets_at a))

pub record Tidy (b : Books) : Type 0 where
  pub groups_apart : Apart by_mpid b.ledger.groups
  pub asked_apart : Apart by_request b.asked
  pub orders_asked : map ticket_of b.ledger.orders ≡ tickets_in b.asked

pub orders_apart : (b : Books) → Tidy b → Apart by_key b.ledger.orders
orders_apart b t = subst (Distinct same_key) (ap (map key_of) (sym t.orders_asked) ∙ map-map key_of ticket_of b.ledger.orders) (tickets_apart b.asked t.asked_apart)

-- the effect of a new request has the ticket of its place, and a notice has none
new_tickets : (r : Request) (u : Ruling) → tickets (effect (ask r) (remember r u).answer) ≡ tickets_at (record { request = r; number = u.number })
new_tickets r u = on (λ t. tickets (cond (eqb (cond t (messages r.deal) 0) 0) no_effect (deal_effect r.key r.deal)) ≡ cond t (tickets (deal_effect r.key r.deal)) []) (eqb u.number 0)
    (λ _. deal r.deal) (λ _. refl)
  where
    deal : (d : Deal) → tickets (cond (eqb (messages d) 0) no_effect (deal_effect r.key d)) ≡ tickets (deal_effect r.key d)
    deal (new s x z p) = refl
    deal (change i z p) = refl
    deal (cancel i) = refl
    deal block = refl
    deal unblock = refl

told_tickets : (n : ℕ) (w : News) (a : Answer) → tickets (effect (tell n w) a) ≡ []
told_tickets n w a = on (λ t. tickets (cond t (news_effect w) no_effect) ≡ []) (eqb (code a.outcome) (code "K")) (λ _. news w) (λ _. refl)
  where
    news : (w : News) → tickets (news_effect w) ≡ []
    news (quote s x y) = refl
    news (fill k z p) = refl
    news (reduction k z) = refl
    news (cancel_refused k) = refl

closed_apart : (d : Deed) (l : Ledger) → Closed d → Apart by_mpid l.groups → Apart by_mpid (enact d l).groups
unfolding enact
closed_apart d l c a = subst (Distinct same_mpid) (sym (keys_steady by_mpid d.group l.groups c.0)) a

pub tidy_step : (b : Books) (x : Record) → Tidy b → Tidy (step b x)
unfolding apply enact
tidy_step b x t = judge_cases b (λ x v. Tidy (apply v.edit b)) (record {
  on_early = λ x n j q. t;
  on_open = λ h. record { groups_apart = t.groups_apart; asked_apart = t.asked_apart; orders_asked = t.orders_asked };
  on_group = λ m y h q k. record { groups_apart = apart_append by_mpid b.ledger.groups (new_group m y) t.groups_apart q; asked_apart = t.asked_apart; orders_asked = t.orders_asked };
  on_symbol = λ m h q k. record { groups_apart = t.groups_apart; asked_apart = t.asked_apart; orders_asked = t.orders_asked };
  on_known = λ r n h e. t;
  on_new = λ r g h f. let u = deal_ruling b.ledger g r.key r.deal in let a : Asked = record { request = r; number = u.number } in
      record {
        groups_apart = closed_apart u.deed b.ledger (deal_closed b.ledger g r) t.groups_apart;
        asked_apart = apart_append by_request b.asked a t.asked_apart f.unknown;
        orders_asked = (deal_acts b.ledger g r f.desk).grown ∙ ap₂ {C = List Ticket} ◌++◌ t.orders_asked (new_tickets r u) ∙ sym (tickets_append b.asked a);
      };
  on_seen = λ n w h q. t;
  on_next = λ n w h q. record {
    groups_apart = closed_apart (news_ruling b.ledger w).deed b.ledger (news_closed b.ledger w) t.groups_apart;
    asked_apart = t.asked_apart;
    orders_asked = (news_acts b.ledger n w).grown ∙ ap₂ {C = List Ticket} ◌++◌ t.orders_asked (told_tickets n w (book (news_ruling b.ledger w)).answer) ∙ append-nil (tickets_in b.asked);
  };
}) x

pub fresh_tidy : (n : ℕ) → Tidy (fresh_books n)
unfolding fresh_books
fresh_tidy n = record { groups_apart = tt; asked_apart = tt; orders_asked = refl }

pub run_tidy : (b : Books) (xs : List Record) → Tidy b → Tidy (run b xs)
run_tidy b [] t = t
run_tidy b (x ∷ xs) t = run_tidy (step b x) xs (tidy_step b x t)

-- ── a day ──
-- what its records and answers tell
abbrev pub tells : Books → List Record → List Told
tells b xs = map told (log b xs)

-- what a ticket counts for when h is still to come
abbrev to_come : Mpid → Bool → List Effect → Ticket → Left → ℕ
to_come m c h t l = cond (is_of m c t) (left_value (foldl (after t.key) l h)) 0

worth_now : (m : Mpid) (c : Bool) (os : List Order) → sum (worth m c) os ≡ sum (of_order (to_come m c [])) os
unfolding worth open_value
worth_now m c os = refl

open_run : (m : Mpid) (c : Bool) (b : Books) (xs : List Record) → Tidy b →
    sum (worth m c) (run b xs).ledger.orders ≡ sum (of_order (to_come m c (effects (tells b xs)))) b.ledger.orders + left_open m c (effects (tells b xs))
open_run m c b [] t = omega (arith, worth_now m c b.ledger.orders)
open_run m c b (x ∷ xs) t =
    let e = effect x (judge b x).answer in let h = effects (tells (step b x) xs) in
    omega (arith, open_run m c (step b x) xs (tidy_step b x t), (acts b x).counts (orders_apart b t) (to_come m c h), leaves_is m c h e)
  where
    leaves_is : (m : Mpid) (c : Bool) (h : List Effect) (e : Effect) → of_opened (to_come m c h) e ≡ leaves m c h e
    leaves_is m c h no_effect = refl
    leaves_is m c h (opens t l) = refl
    leaves_is m c h (moves k f v) = refl

traded_run : (m : Mpid) (c : Bool) (b : Books) (xs : List Record) (ts : List Ticket) → map ticket_of b.ledger.orders ≡ ts → total m c (run b xs).ledger.groups ≡ total m c b.ledger.groups + fills m c ts (effects (tells b xs))
traded_run m c b [] ts q = omega arith
traded_run m c b (x ∷ xs) ts q =
    let e = effect x (judge b x).answer in
    omega (arith, traded_run m c (step b x) xs (ts ++ tickets e) ((acts b x).grown ∙ ap (λ z. z ++ tickets e) q), (acts b x).paid m c, ap (λ z. pays m c z e) q)

-- THEOREM. A listed desk's totals after a day are what its records and answers say
pub account_run : (n : ℕ) (xs : List Record) (i : ℕ) (g : Group) → get_elem? (run (fresh_books n) xs).ledger.groups i ≡ some g →
    tally g (run (fresh_books n) xs).ledger.orders ≡ account g.mpid (tells (fresh_books n) xs)
unfolding fresh_books look
account_run n xs i g e =
    let b = run (fresh_books n) xs in
    let f : look by_mpid g.mpid b.ledger.groups ≡ some g = look_at by_mpid b.ledger.groups i (run_tidy (fresh_books n) xs (fresh_tidy n)).groups_apart e in
    let trades : (c : Bool) → traded_of c g ≡ fills g.mpid c [] (effects (tells (fresh_books n) xs)) = λ c. omega (arith, ap (total_of c) f, traded_run g.mpid c (fresh_books n) xs [] refl) in
    let leaves : (c : Bool) → sum (worth g.mpid c) b.ledger.orders ≡ left_open g.mpid c (effects (tells (fresh_books n) xs)) = λ c. omega (arith, open_run g.mpid c (fresh_books n) xs (fresh_tidy n)) in
    λ j. record { tb = trades true j; ts = trades false j; ob = leaves true j; os = leaves false j }

-- THEOREM. The closing line of every group shows what the struck list, with its answers, says of its desk
pub closing_account : (n : ℕ) (xs : List Record) (i : ℕ) →
    closing (run (fresh_books n) xs) i ≡ Option.map (λ g. closing_line g (account g.mpid (tells (fresh_books n) (rest xs)))) (get_elem? (run (fresh_books n) xs).ledger.groups i)
closing_account n xs i = subst (λ b. closing b i ≡ Option.map (λ g. closing_line g (account g.mpid (tells (fresh_books n) (rest xs)))) (get_elem? b.ledger.groups i)) (sym (same_books n xs))
    (opt (λ o. Option.map (λ g. closing_line g (tally g (run (fresh_books n) (rest xs)).ledger.orders)) o ≡ Option.map (λ g. closing_line g (account g.mpid (tells (fresh_books n) (rest xs)))) o)
    (get_elem? (run (fresh_books n) (rest xs)).ledger.groups i) (λ e. refl) (λ g e. ap (λ t. some (closing_line g t)) (account_run n (rest xs) i g e)))

-- ── the desks ──
early_lists : (x : Record) (n : ℕ) → eqb n 0 ≡ false → listing x (code (reply n).answer.outcome) ≡ []
early_lists broken n h = refl
early_lists open_day n h = refl
early_lists (group m t) n h = ap (λ z. cond (eqb (code (cond z "P" "R")) (code "P")) (m ∷ []) []) h
early_lists (symbol s) n h = refl
early_lists (ask r) n h = refl
early_lists (tell k w) n h = refl

lists : (b : Books) (x : Record) → keys by_mpid (step b x).ledger.groups ≡ keys by_mpid b.ledger.groups ++ listing x (code (judge b x).answer.outcome)
unfolding apply enact
lists b x = judge_cases b (λ x v. keys by_mpid (apply v.edit b).ledger.groups ≡ here ++ listing x (code v.answer.outcome)) (record {
  on_early = λ x n j q. sym (ap (λ l. here ++ l) (early_lists x n (number_not n j)) ∙ append-nil here);
  on_open = λ h. sym (append-nil here);
  on_group = λ m t h q k. map-append by_mpid.key b.ledger.groups (new_group m t ∷ []);
  on_symbol = λ m h q k. sym (append-nil here);
  on_known = λ r n h q. sym (append-nil here);
  on_new = λ r g h f. keys_steady by_mpid (deal_ruling b.ledger g r.key r.deal).deed.group b.ledger.groups (deal_closed b.ledger g r).0 ∙ sym (append-nil here);
  on_seen = λ n w h q. sym (append-nil here);
  on_next = λ n w h q. keys_steady by_mpid (news_ruling b.ledger w).deed.group b.ledger.groups (news_closed b.ledger w).0 ∙ sym (append-nil here);
}) x
  where
    here : List Mpid
    here = keys by_mpid b.ledger.groups

-- THEOREM. The groups are listed in the order of the G's that passed, and there are no others
pub listed : (b : Books) (xs : List Record) → keys by_mpid (run b xs).ledger.groups ≡ keys by_mpid b.ledger.groups ++ desks (tells b xs)
listed b [] = sym (append-nil (keys by_mpid b.ledger.groups))
listed b (x ∷ xs) = listed (step b x) xs ∙ ap (λ l. l ++ desks (tells (step b x) xs)) (lists b x) ∙ append_assoc (keys by_mpid b.ledger.groups) _ _
