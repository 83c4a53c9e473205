-- Document 01, "Requests and identifiers" and "Outcomes": how each record is judged, and what it changes.
-- Each list of checks stands in the order that the end of "Outcomes" gives.
use Rattle.std.specs.Prelude.{true, false, not, ◌&&◌, cond, List, [], ◌∷◌, ◌++◌, ℕ, suc, ◌*◌, length, leb, ltb, eqb}
use Rattle.std.proofs.Math.Option.{Option, Option-elim, get_or}
use Prim.Native.Char.{Char}
use Rattle.laws.specs.Tests.{is_none}
use Rattle.laws.specs.Tables.{look, Shift, stay, adds, puts, shifted}
use Rattle.laws.specs.Checks.{Check, ◌⇒◌, first}
use Rattle.rulebook.specs.Names.{Ident, Key}
use Rattle.rulebook.specs.Lines.{is_buy, is_short, ceiling, Deal, new, change, cancel, block, unblock, Request, News, quote, fill, reduction, cancel_refused, Record, broken, open_day, group, symbol, ask, tell, same_request}
use Rattle.rulebook.specs.Kept.{Figures, Order, Group, Symbol, Asked, Ledger, Books, by_mpid, by_id, by_key, by_request, new_group, new_symbol, new_order, remaining, is_open, with_figures, sized, asking, worked, traded, blocking, Tally, tally, metrics, limit_checks, tested}
use Rattle.rulebook.specs.Prices.{bad_price, off_market}
use Rattle.rulebook.specs.Outcomes.{Answer}

-- ── what is changed ──
-- a deed: at most one order, one group and one symbol
pub record Deed : Type 0 where
  pub order : Shift Order
  pub group : Shift Group
  pub symbol : Shift Symbol

abbrev pub deed : Shift Order → Shift Group → Shift Symbol → Deed
deed o g s = record { order = o; group = g; symbol = s }

abbrev pub idle : Deed
idle = deed stay stay stay

unfoldable pub enact : Deed → Ledger → Ledger
enact d l = record { groups = shifted by_mpid d.group l.groups; symbols = shifted by_id d.symbol l.symbols; orders = shifted by_key d.order l.orders }

-- the column "effect": none; a request remembered; a notice's number taken. What passes at setup opens the day or is listed
pub data Edit : Type 0 where
  nothing opened : Edit
  listed : Deed → Edit
  remembered : Asked → Deed → Edit
  taken : Deed → Edit

unfoldable pub apply : Edit → Books → Books
apply nothing b = b
apply opened b = record { opened = true; last = b.last; room = b.room; asked = b.asked; ledger = b.ledger }
apply (listed d) b = record { opened = b.opened; last = b.last; room = b.room; asked = b.asked; ledger = enact d b.ledger }
apply (remembered a d) b = record { opened = b.opened; last = b.last; room = b.room; asked = b.asked ++ (a ∷ []); ledger = enact d b.ledger }
apply (taken d) b = record { opened = b.opened; last = suc b.last; room = b.room; asked = b.asked; ledger = enact d b.ledger }

-- ── rulings: a number and a deed, which is idle unless the number is 0 ──
pub record Ruling : Type 0 where
  pub number : ℕ
  pub deed : Deed

abbrev pub hold : ℕ → Ruling
hold n = record { number = n; deed = idle }

abbrev pub rule : List Check → Deed → Ruling
rule l d = record { number = first l; deed = cond (eqb (first l) 0) d idle }

-- what is looked for, or the number of its absence
abbrev pub found : {A : Type 0} → ℕ → Option A → (A → Ruling) → Ruling
found n x f = Option-elim x (hold n) f

-- the order of the same owner that a target names
abbrev pub named : Key → Ident → Key
named k n = record { owner = k.owner; name = n }

-- a symbol's quotes, none known where it is not listed
abbrev pub quotes : Option Symbol → Symbol
quotes s = get_or s (new_symbol 0)

-- ── requests ──
-- t is the group's tally with the new order
unfoldable pub new_checks : Group → Option Symbol → Tally → Order → List Check
new_checks g s t o =
    (is_none s ⇒ 8)
    ∷ (g.blocked ⇒ 10)
    ∷ (is_short o.ticket.side && not g.terms.short_sales ⇒ 11)
    ∷ (ltb g.terms.max_size o.figures.size ⇒ 12)
    ∷ (bad_price o.figures.price ⇒ 13)
    ∷ (off_market o.ticket.side o.figures.price (quotes s).bid (quotes s).offer ⇒ 14)
    ∷ limit_checks g.terms.limits (metrics t)

-- o is the target as it stands, f its figures as changed, t the group's tally with them
unfoldable pub change_checks : Group → Option Symbol → Tally → Order → Figures → List Check
change_checks g s t o f =
    (not (is_open o) ⇒ 9)
    ∷ (o.figures.cancel_asked ⇒ 17)
    ∷ (g.blocked ⇒ 10)
    ∷ (ltb g.terms.max_size f.size ⇒ 12)
    ∷ (leb f.size f.done ⇒ 16)
    ∷ (bad_price f.price ⇒ 13)
    ∷ (off_market o.ticket.side f.price (quotes s).bid (quotes s).offer ⇒ 14)
    ∷ limit_checks g.terms.limits (metrics t)

unfoldable pub cancel_checks : Order → List Check
cancel_checks o = (not (is_open o) ⇒ 9) ∷ (o.figures.cancel_asked ⇒ 17) ∷ []

abbrev pub new_ruling : Ledger → Group → Order → Ruling
new_ruling l g o = rule (new_checks g (look by_id o.ticket.sym l.symbols) (tally g (shifted by_key (adds o) l.orders)) o) (deed (adds o) stay stay)

abbrev pub change_ruling : Ledger → Group → ℕ → ℕ → Order → Ruling
change_ruling l g z p o =
    let f = sized z p o.figures in
    let s = puts (with_figures o f) in
    rule (change_checks g (look by_id o.ticket.sym l.symbols) (tally g (shifted by_key s l.orders)) o f) (deed s stay stay)

abbrev pub cancel_ruling : Order → Ruling
cancel_ruling o = rule (cancel_checks o) (deed (puts (with_figures o (asking true o.figures))) stay stay)

unfoldable pub deal_ruling : Ledger → Group → Key → Deal → Ruling
deal_ruling l g k (new s x z p) = new_ruling l g (new_order k s x z p)
deal_ruling l g k (change n z p) = found 9 (look by_key (named k n) l.orders) (change_ruling l g z p)
deal_ruling l g k (cancel n) = found 9 (look by_key (named k n) l.orders) cancel_ruling
deal_ruling l g k block = rule [] (deed stay (puts (blocking true g)) stay)
deal_ruling l g k unblock = rule [] (deed stay (puts (blocking false g)) stay)

-- ── notices ──
-- t is the group's tally with the fill
unfoldable pub fill_checks : Tally → ℕ → Order → List Check
fill_checks t z o = (not (is_open o) ⇒ 9) ∷ (ltb (remaining o.figures) z ⇒ 19) ∷ (ltb ceiling (metrics t).gross_both ⇒ 20) ∷ []

unfoldable pub reduction_checks : ℕ → Order → List Check
reduction_checks z o = (not (is_open o) ⇒ 9) ∷ (ltb (remaining o.figures) z ⇒ 19) ∷ []

unfoldable pub refused_checks : Order → List Check
refused_checks o = (not (is_open o) ⇒ 9) ∷ []

abbrev pub quote_ruling : List Symbol → Symbol → Ruling
quote_ruling ss s = rule ((is_none (look by_id s.id ss) ⇒ 8) ∷ []) (deed stay stay (puts s))

abbrev pub fill_ruling : List Order → ℕ → ℕ → Group → Order → Ruling
fill_ruling os z p g o =
    let s = puts (with_figures o (worked z o.figures)) in
    let h = traded (is_buy o.ticket.side) (z * p) g in
    let t = tally h (shifted by_key s os) in
    rule (fill_checks t z o) (deed s (puts (tested h t)) stay)

abbrev pub reduction_ruling : List Order → ℕ → Group → Order → Ruling
reduction_ruling os z g o =
    let s = puts (with_figures o (worked z o.figures)) in
    rule (reduction_checks z o) (deed s (puts (tested g (tally g (shifted by_key s os)))) stay)

abbrev pub refused_ruling : Group → Order → Ruling
refused_ruling g o = rule (refused_checks o) (deed (puts (with_figures o (asking false o.figures))) stay stay)

-- 5, 9
abbrev pub at_order : Ledger → Key → (Group → Order → Ruling) → Ruling
at_order l k f = found 5 (look by_mpid k.owner.mpid l.groups) (λ g. found 9 (look by_key k l.orders) (f g))

unfoldable pub news_ruling : Ledger → News → Ruling
news_ruling l (quote s x y) = quote_ruling l.symbols (record { id = s; bid = x; offer = y })
news_ruling l (fill k z p) = at_order l k (fill_ruling l.orders z p)
news_ruling l (reduction k z) = at_order l k (reduction_ruling l.orders z)
news_ruling l (cancel_refused k) = at_order l k refused_ruling

-- ── verdicts ──
pub record Verdict : Type 0 where
  pub answer : Answer
  pub edit : Edit

-- the first outcome if the number is 0, else the second
abbrev pub verdict : Char → Char → ℕ → ℕ → Edit → Verdict
verdict good bad n sent e = record { answer = record { outcome = cond (eqb n 0) good bad; number = n; sent = sent }; edit = e }

-- refused with no effect, or a remembered outcome again
abbrev pub reply : ℕ → Verdict
reply n = verdict "P" "R" n 0 nothing

-- "1 if an order message is to be sent (first P of N, M, C), else 0"
abbrev pub messages : Deal → ℕ
messages (new s x z p) = 1
messages (change n z p) = 1
messages (cancel n) = 1
messages block = 0
messages unblock = 0

abbrev pub remember : Request → Ruling → Verdict
remember r u = verdict "P" "R" u.number (cond (eqb u.number 0) (messages r.deal) 0) (remembered (record { request = r; number = u.number }) u.deed)

-- "the number is taken and, as A with nothing else changed", or K
abbrev pub book : Ruling → Verdict
book u = verdict "K" "A" u.number 0 (taken u.deed)

abbrev pub see : Verdict
see = verdict "S" "S" 0 0 nothing

-- ── judging ──
-- 5, known identifier, 7
unfoldable pub judge_request : Books → Request → Verdict
judge_request b r =
    Option-elim (look by_mpid r.key.owner.mpid b.ledger.groups) (reply 5) λ g.
    Option-elim (look by_request r.key b.asked)
    (cond (leb b.room (length b.asked)) (reply 7) (remember r (deal_ruling b.ledger g r.key r.deal)))
    λ a. cond (same_request a.request r) (reply a.number) (reply 6)

-- "at or below the last is S with no effect; 18; then the number is taken"
unfoldable pub judge_notice : Books → ℕ → News → Verdict
judge_notice b n w = cond (leb n b.last) see (cond (ltb (suc b.last) n) (reply 18) (book (news_ruling b.ledger w)))

abbrev pub setup : List Check → Edit → Verdict
setup l e = verdict "P" "R" (first l) 0 (cond (eqb (first l) 0) e nothing)

-- 1, 2, and then by kind
unfoldable pub judge : Books → Record → Verdict
judge b broken = reply 1
judge b (group m t) = setup ((b.opened ⇒ 2) ∷ (not (is_none (look by_mpid m b.ledger.groups)) ⇒ 3) ∷ (leb 64 (length b.ledger.groups) ⇒ 4) ∷ []) (listed (deed stay (adds (new_group m t)) stay))
judge b (symbol s) = setup ((b.opened ⇒ 2) ∷ (not (is_none (look by_id s b.ledger.symbols)) ⇒ 3) ∷ (leb 256 (length b.ledger.symbols) ⇒ 4) ∷ []) (listed (deed stay stay (adds (new_symbol s))))
judge b open_day = setup ((b.opened ⇒ 2) ∷ []) opened
judge b (ask r) = cond b.opened (judge_request b r) (reply 2)
judge b (tell n w) = cond b.opened (judge_notice b n w) (reply 2)
