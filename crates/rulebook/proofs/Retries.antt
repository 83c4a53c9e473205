-- Demand 3, striking: what is struck changes nothing and repeats its first answer, and a day goes as its struck list goes.
-- Why: a request's first attempt settles what the door answers it, and every record after leaves that settled.
use Rattle.std.specs.Prelude.{◌≡◌, refl, Bool, true, false, not, ◌&&◌, cond, ℕ, suc, ◌≤◌, length, leb, eqb}
use Rattle.std.proofs.Common.{sym, ap, ◌∙◌, subst, arith, leb-true, eq-eqb, ne_eqb}
use Rattle.std.proofs.lemmas.Bool.{false≢true, lt-leb, not-true}
use Rattle.std.proofs.Math.Bool.{and-eq-true_iff}
use Rattle.std.proofs.Math.Option.{Option, none, some, none-ne-some, some-injective}
use mathlib.Core.List.{List, [], ◌∷◌, ◌++◌, foldl, foldl-append}
use Rattle.std.proofs.Math.Decide.{ℕ_discrete}
use Rattle.laws.specs.Tests.{on, split, is_none, some_of, Exact, exact_both, exact_discrete, decide_exact}
use Rattle.laws.specs.Tables.{find, find_true, All, all_map, all_find, look, Steady, keys_steady, has_same, look_append, look_last}
use Rattle.rulebook.specs.Names.{Mpid, ident_exact, key_exact}
use Rattle.rulebook.specs.Lines.{Deal-discrete, Side-discrete, Request, News, Record, broken, open_day, group, symbol, ask, tell, same_request}
use Rattle.rulebook.specs.Kept.{Group, Asked, Ledger, Books, by_mpid, by_request, fresh_books}
use Rattle.rulebook.specs.Outcomes.{Answer}
use Rattle.rulebook.specs.Judging.{Deed, enact, nothing, apply, deal_ruling, news_ruling, Verdict, reply, judge, see}
use Rattle.rulebook.specs.Day.{step, run, Entry, log, Marks, no_marks, noted, marked, struck, strike, rest}
use Rattle.rulebook.proofs.Cases.{door, at_door, door_free, request_cases, notice_cases, judge_ask, judge_tell, Early, judge_cases, deal_cases, news_cases}

pub request_exact : Exact same_request
unfolding same_request
request_exact = exact_both (λ (r : Request). r.key) key_exact (λ r. r.deal) (decide_exact (Deal-discrete ℕ_discrete Side-discrete (exact_discrete ident_exact))) (λ x y p q i. record { key = p i; deal = q i })

-- ── after opening no deed lists a desk or a symbol ──
abbrev pub Closed : Deed → Type 0
Closed d = Steady d.group × Steady d.symbol

pub deal_closed : (l : Ledger) (g : Group) (r : Request) → Closed (deal_ruling l g r.key r.deal).deed
deal_closed l g r = deal_cases l g r.key (λ d u. Closed u.deed) (record {
  on_held = λ d n h. (tt, tt);
  on_order = λ s x z p h c. (tt, tt);
  on_change = λ n z p o e h d c. (tt, tt);
  on_cancel = λ n o e h. (tt, tt);
  on_block = (tt, tt);
  on_unblock = (tt, tt);
}) r.deal

pub news_closed : (l : Ledger) (w : News) → Closed (news_ruling l w).deed
news_closed l w = news_cases l (λ w u. Closed u.deed) (record {
  on_aside = λ w n h. (tt, tt);
  on_quote = λ s x y h. (tt, tt);
  on_fill = λ k z p g o s h q. (tt, tt);
  on_reduction = λ k z g o s h. (tt, tt);
  on_refused = λ k g o s. (tt, tt);
}) w

pub closed_listed : (m : Mpid) (d : Deed) (l : Ledger) → Closed d → is_none (look by_mpid m (enact d l).groups) ≡ is_none (look by_mpid m l.groups)
unfolding enact
closed_listed m d l c = has_same by_mpid m _ _ (keys_steady by_mpid d.group l.groups c.0)

-- ── a request is settled: the door answers it with the number n ──
pub Settled : Books → Request → ℕ → Type 0
Settled b r n = (b.opened ≡ true) × (at_door b r ≡ some n)

door_keeps : (u : Bool) (p q : Option Asked) (f g : Bool) (r : Request) (n : ℕ) → door u p f r ≡ some n → f ≡ false → ((x : Asked) → p ≡ some x → q ≡ some x) → door u q g r ≡ some n
door_keeps true p q f g r n e h k = e
door_keeps false (some x) q f g r n e h k = rw (k x refl) e
door_keeps false none q true g r n e h k = absurd (false≢true (sym h))
door_keeps false none q false g r n e h k = absurd (none-ne-some n e)

-- every record leaves it settled
pub keeps : (b : Books) (r : Request) (n : ℕ) → Settled b r n → (x : Record) → Settled (step b x) r n
unfolding Settled apply
keeps b r n s x = judge_cases b (λ x v. Settled (apply v.edit b) r n) (record {
  on_early = λ x k j q. s;
  on_open = λ h. absurd (false≢true (sym h ∙ s.0));
  on_group = λ m t h q k. absurd (false≢true (sym h ∙ s.0));
  on_symbol = λ m h q k. absurd (false≢true (sym h ∙ s.0));
  on_known = λ q k h e. s;
  on_new = λ q g h f. (
    s.0,
    rw (closed_listed r.key.owner.mpid (deal_ruling b.ledger g q.key q.deal).deed b.ledger (deal_closed b.ledger g q))
        (door_keeps (is_none (look by_mpid r.key.owner.mpid b.ledger.groups)) (look by_request r.key b.asked) _ (leb b.room (length b.asked)) _ r n s.1
        (lt-leb b.room (length b.asked) f.roomy) (λ y z. look_append by_request r.key b.asked _ z)),
  );
  on_seen = λ k w h q. s;
  on_next = λ k w h q. (s.0, rw (closed_listed r.key.owner.mpid (news_ruling b.ledger w).deed b.ledger (news_closed b.ledger w)) s.1);
}) x

-- and its first attempt settles it
pub settles : (b : Books) (r : Request) → b.opened ≡ true → Settled (step b (ask r)) r (judge b (ask r)).answer.number
unfolding Settled apply
settles b r o = rw (judge_ask b r o) (request_cases b r (λ v. Settled (apply v.edit b) r v.answer.number)
    (λ n e. (o, e))
    (λ g f. let u = deal_ruling b.ledger g r.key r.deal in let a : Asked = record { request = r; number = u.number } in (
      o,
      rw (closed_listed r.key.owner.mpid u.deed b.ledger (deal_closed b.ledger g r), f.desk, look_last by_request b.asked a f.unknown)
          (ap (λ t. some (cond t u.number 6)) (request_exact.self r)),
    )))

-- a settled request gets its number again, is not sent and changes nothing
pub settled_again : (b : Books) (r : Request) (n : ℕ) → Settled b r n → judge b (ask r) ≡ reply n
unfolding Settled
settled_again b r n s = judge_ask b r s.0 ∙ request_cases b r (λ v. v ≡ reply n)
    (λ k e. let p : k ≡ n = some-injective k n (sym e ∙ s.1) in ap reply p)
    (λ g f. absurd (none-ne-some n (sym (door_free b r g f) ∙ s.1)))

pub keeps_run : (b : Books) (r : Request) (n : ℕ) → Settled b r n → (xs : List Record) → Settled (run b xs) r n
keeps_run b r n s [] = s
keeps_run b r n s (x ∷ xs) = keeps_run (step b x) r n (keeps b r n s x) xs

-- a request's outcome goes by its number
pub by_number : (b : Books) (r : Request) → b.opened ≡ true → (judge b (ask r)).answer.outcome ≡ cond (eqb (judge b (ask r)).answer.number 0) "P" "R"
by_number b r o = rw (judge_ask b r o) (request_cases b r (λ v. v.answer.outcome ≡ cond (eqb v.answer.number 0) "P" "R") (λ n e. refl) (λ g f. refl))

-- what a retry is to get, from its first attempt's answer: its outcome and number, nothing sent, nothing changed
abbrev pub repeated : Answer → Verdict
repeated a = record { answer = record { outcome = a.outcome; number = a.number; sent = 0 }; edit = nothing }

-- after whatever came between, a request gets its first attempt's outcome and number
pub retry : (b : Books) (r : Request) (xs : List Record) → b.opened ≡ true → judge (run (step b (ask r)) xs) (ask r) ≡ repeated (judge b (ask r)).answer
retry b r xs o = rw (by_number b r o) (settled_again _ r _ (keeps_run _ r _ (settles b r o) xs))

-- a notice whose number was taken is seen, and changes nothing
pub late : (b : Books) (n : ℕ) (w : News) → b.opened ≡ true → n ≤ b.last → judge b (tell n w) ≡ see
late b n w o h = judge_tell b n w o ∙ notice_cases b n w (λ v. v ≡ see) (λ q. refl) (λ q. absurd (omega arith)) (λ q. absurd (omega arith))

-- ── the marks of the records so far, and the books ──
pub record Linked (m : Marks) (b : Books) : Type 0 where
  pub opened : b.opened ≡ m.opened
  pub last : b.last ≡ m.last
  pub seen : All (λ r. (n : ℕ) × Settled b r n) m.seen

-- what is struck changes nothing
pub struck_nothing : (m : Marks) (b : Books) → Linked m b → (x : Record) → struck m x ≡ true → (judge b x).edit ≡ nothing
unfolding struck
struck_nothing m b k broken h = absurd (false≢true h)
struck_nothing m b k open_day h = absurd (false≢true h)
struck_nothing m b k (group n t) h = absurd (false≢true h)
struck_nothing m b k (symbol n) h = absurd (false≢true h)
struck_nothing m b k (ask r) h =
    let f = some_of (find (λ q. same_request q r) m.seen) (not-true _ h) in
    let q : f.0 ≡ r = request_exact.only f.0 r (find_true (λ q. same_request q r) m.seen f.1) in
    let s = all_find (λ r. (n : ℕ) × Settled b r n) (λ q. same_request q r) m.seen k.seen f.1 in
    ap (λ (v : Verdict). v.edit) (settled_again b r s.0 (subst (λ z. Settled b z s.0) q s.1))
struck_nothing m b k (tell n w) h =
    let z = (and-eq-true_iff m.opened (leb n m.last)).0 h in
    ap (λ (v : Verdict). v.edit) (late b n w (k.opened ∙ z.0) (omega (arith, leb-true n m.last z.1, k.last)))

pub struck_step : (m : Marks) (b : Books) → Linked m b → (x : Record) → struck m x ≡ true → step b x ≡ b
unfolding apply
struck_step m b k x h = ap (λ e. apply e b) (struck_nothing m b k x h)

-- what the marks say stays true
abbrev marks : Books → List Request → Marks
marks b s = record { opened = b.opened; last = b.last; seen = s }

abbrev Agree : Marks → Books → Type 0
Agree m b = (b.opened ≡ m.opened) × (b.last ≡ m.last)

early_marks : (b : Books) (s : List Request) (x : Record) → Early b x → Agree (noted (marks b s) x) b
unfolding noted
early_marks b s broken q = (refl, refl)
early_marks b s open_day q = (q, refl)
early_marks b s (group m t) q = (refl, refl)
early_marks b s (symbol m) q = (refl, refl)
early_marks b s (ask r) q = (refl, refl)
early_marks b s (tell n w) q = (refl, ap (λ t. cond t n b.last) (sym off))
  where
    off : (b.opened && eqb n (suc b.last)) ≡ false
    off = on (λ t. (t && eqb n (suc b.last)) ≡ false) b.opened (λ h. ne_eqb n (suc b.last) (λ e. let f = q h in omega arith)) (λ h. refl)

step_marks : (b : Books) (s : List Request) (x : Record) → Agree (noted (marks b s) x) (step b x)
unfolding apply noted
step_marks b s x = judge_cases b (λ x v. Agree (noted (marks b s) x) (apply v.edit b)) (record {
  on_early = λ x k j q. early_marks b s x q;
  on_open = λ h. (refl, refl);
  on_group = λ m t h q k. (refl, refl);
  on_symbol = λ m h q k. (refl, refl);
  on_known = λ q k h e. (refl, refl);
  on_new = λ q g h f. (refl, refl);
  on_seen = λ k w h q. (refl, rw (h, ne_eqb k (suc b.last) (λ e. omega arith)) refl);
  on_next = λ k w h q. (refl, rw (h, eq-eqb k (suc b.last) q) (sym q));
}) x

step_seen : (b : Books) (s : List Request) (x : Record) → All (λ r. (n : ℕ) × Settled (step b x) r n) s → All (λ r. (n : ℕ) × Settled (step b x) r n) (noted (marks b s) x).seen
unfolding noted
step_seen b s broken a = a
step_seen b s open_day a = a
step_seen b s (group m t) a = a
step_seen b s (symbol m) a = a
step_seen b s (ask r) a = split (All (λ q. (n : ℕ) × Settled (step b (ask r)) q n)) b.opened (r ∷ s) s (λ h. ((_, settles b r h), a)) (λ h. a)
step_seen b s (tell n w) a = a

pub linked_step : (m : Marks) (b : Books) → Linked m b → (x : Record) → Linked (noted m x) (step b x)
linked_step m b k x =
    let e : marks b m.seen ≡ m = λ i. record { opened = k.opened i; last = k.last i; seen = m.seen } in
    let a = all_map (λ r. (n : ℕ) × Settled b r n) (λ r. (n : ℕ) × Settled (step b x) r n) (λ r z. (z.0, keeps b r z.0 z.1 x)) m.seen k.seen in
    let l : Linked (noted (marks b m.seen) x) (step b x) = record { opened = (step_marks b m.seen x).0; last = (step_marks b m.seen x).1; seen = step_seen b m.seen x a } in
    subst (λ z. Linked (noted z x) (step b x)) e l

pub linked_run : (m : Marks) (b : Books) → Linked m b → (xs : List Record) → Linked (foldl noted m xs) (run b xs)
linked_run m b k [] = k
linked_run m b k (x ∷ xs) = linked_run (noted m x) (step b x) (linked_step m b k x) xs

pub fresh_linked : (n : ℕ) → Linked no_marks (fresh_books n)
unfolding fresh_books
fresh_linked n = record { opened = refl; last = refl; seen = tt }

-- ── a day and its struck list ──
strike_run : (m : Marks) (b : Books) → Linked m b → (xs : List Record) → run b xs ≡ run b (strike (λ x. x) m xs)
strike_run m b k [] = refl
strike_run m b k (x ∷ xs) =
    let h = strike_run (noted m x) (step b x) (linked_step m b k x) xs in
    split (λ l. run (step b x) xs ≡ run b l) (struck m x) _ _ (λ q. h ∙ ap (λ z. run z (strike (λ x. x) (noted m x) xs)) (struck_step m b k x q)) (λ q. h)

strike_log : (m : Marks) (b : Books) → Linked m b → (xs : List Record) → strike (λ (e : Entry). e.line) m (log b xs) ≡ log b (strike (λ x. x) m xs)
strike_log m b k [] = refl
strike_log m b k (x ∷ xs) =
    let h = strike_log (noted m x) (step b x) (linked_step m b k x) xs in
    on (λ t. cond t (strike (λ (e : Entry). e.line) (noted m x) (log (step b x) xs)) (record { line = x; answer = (judge b x).answer } ∷ strike (λ (e : Entry). e.line) (noted m x) (log (step b x) xs)) ≡
    log b (cond t (strike (λ x. x) (noted m x) xs) (x ∷ strike (λ x. x) (noted m x) xs))) (struck m x)
    (λ q. h ∙ ap (λ z. log z (strike (λ x. x) (noted m x) xs)) (struck_step m b k x q))
    (λ q. ap (λ l. record { line = x; answer = (judge b x).answer } ∷ l) h)

-- THEOREM. The records that are left, run alone, leave the same books
pub same_books : (n : ℕ) (xs : List Record) → run (fresh_books n) xs ≡ run (fresh_books n) (rest xs)
same_books n xs = strike_run no_marks (fresh_books n) (fresh_linked n) xs

-- THEOREM. and get the same answers
pub same_answers : (n : ℕ) (xs : List Record) → strike (λ (e : Entry). e.line) no_marks (log (fresh_books n) xs) ≡ log (fresh_books n) (rest xs)
same_answers n xs = strike_log no_marks (fresh_books n) (fresh_linked n) xs

-- THEOREM. Two days that strike to one list end alike
pub alike : (n : ℕ) (xs ys : List Record) → rest xs ≡ rest ys → run (fresh_books n) xs ≡ run (fresh_books n) ys
alike n xs ys e = same_books n xs ∙ ap (run (fresh_books n)) e ∙ sym (same_books n ys)

-- ── what is struck ──
-- the first of a day's attempts: an identical request, after opening, that is not struck itself
pub record FirstAttempt (r : Request) (m : Marks) (xs : List Record) : Type 0 where
  pub before : List Record
  pub between : List Record
  pub parts : xs ≡ before ++ (ask r ∷ between)
  pub is_open : (foldl noted m before).opened ≡ true
  pub is_first : struck (foldl noted m before) (ask r) ≡ false

-- the record at which a request becomes known is that request
turns : (m : Marks) (r : Request) (x : Record) → struck m (ask r) ≡ false → struck (noted m x) (ask r) ≡ true → (x ≡ ask r) × (m.opened ≡ true)
unfolding noted struck
turns m r broken e h = absurd (false≢true (sym e ∙ h))
turns m r open_day e h = absurd (false≢true (sym e ∙ h))
turns m r (group k t) e h = absurd (false≢true (sym e ∙ h))
turns m r (symbol k) e h = absurd (false≢true (sym e ∙ h))
turns m r (tell n w) e h = absurd (false≢true (sym e ∙ h))
turns m r (ask q) e h = on (λ o. not (is_none (find (λ q. same_request q r) (cond o (q ∷ m.seen) m.seen))) ≡ true → (ask q ≡ ask r) × (m.opened ≡ true)) m.opened
    (λ o. on (λ t. not (is_none (cond t (some q) (find (λ q. same_request q r) m.seen))) ≡ true → (ask q ≡ ask r) × (m.opened ≡ true)) (same_request q r)
    (λ s p. (ap {B = Record} ask (request_exact.only q r s), o)) (λ s p. absurd (false≢true (sym e ∙ p))))
    (λ o p. absurd (false≢true (sym e ∙ p))) h

first_attempt : (r : Request) (m : Marks) (xs : List Record) → struck m (ask r) ≡ false → struck (foldl noted m xs) (ask r) ≡ true → FirstAttempt r m xs
first_attempt r m [] e h = absurd (false≢true (sym e ∙ h))
first_attempt r m (x ∷ xs) e h = on (λ t. FirstAttempt r m (x ∷ xs)) (struck (noted m x) (ask r))
    (λ q. let z = turns m r x e q in record { before = []; between = xs; parts = ap (λ y. y ∷ xs) z.0; is_open = z.1; is_first = e })
    (λ q. let f = first_attempt r (noted m x) xs q h in
    record { before = x ∷ f.before; between = f.between; parts = ap (λ l. x ∷ l) f.parts; is_open = f.is_open; is_first = f.is_first })

-- THEOREM. What a day strikes changes nothing
pub struck_unchanged : (n : ℕ) (xs : List Record) (x : Record) → struck (marked xs) x ≡ true → step (run (fresh_books n) xs) x ≡ run (fresh_books n) xs
struck_unchanged n xs x h = struck_step (marked xs) (run (fresh_books n) xs) (linked_run no_marks (fresh_books n) (fresh_linked n) xs) x h

-- THEOREM. Every struck request of a day has a first attempt, gets its outcome and number, sends nothing and changes nothing
pub struck_request : (n : ℕ) (xs : List Record) (r : Request) → struck (marked xs) (ask r) ≡ true →
    (f : FirstAttempt r no_marks xs) × (judge (run (fresh_books n) xs) (ask r) ≡ repeated (judge (run (fresh_books n) f.before) (ask r)).answer)
unfolding struck
struck_request n xs r h =
    let f = first_attempt r no_marks xs refl h in
    let b = run (fresh_books n) f.before in
    let o : b.opened ≡ true = (linked_run no_marks (fresh_books n) (fresh_linked n) f.before).opened ∙ f.is_open in
    (f, ap (λ l. judge (run (fresh_books n) l) (ask r)) f.parts ∙ ap (λ z. judge z (ask r)) (foldl-append step (fresh_books n) f.before (ask r ∷ f.between)) ∙ retry b r f.between o)

-- THEOREM. Every struck notice of a day is seen, and changes nothing
pub struck_notice : (n : ℕ) (xs : List Record) (k : ℕ) (w : News) → struck (marked xs) (tell k w) ≡ true → judge (run (fresh_books n) xs) (tell k w) ≡ see
unfolding struck
struck_notice n xs k w h =
    let m = marked xs in
    let l = linked_run no_marks (fresh_books n) (fresh_linked n) xs in
    let z = (and-eq-true_iff m.opened (leb k m.last)).0 h in
    late (run (fresh_books n) xs) k w (l.opened ∙ z.0) (omega (arith, leb-true k m.last z.1, l.last))
