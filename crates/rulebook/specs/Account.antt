-- Demand 3, "the sums over what is left of the orders passed and over the fills booked in that list":
-- worked out from records and answers alone, with nothing of the books.
use Rattle.std.specs.Prelude.{Bool, true, false, ◌&&◌, cond, ℕ, ◌+◌, ◌*◌, ◌-◌, ltb, eqb}
use Rattle.std.proofs.Math.Option.{Option-elim}
use mathlib.Core.List.{List, [], ◌∷◌, ◌++◌, map, foldl}
use Prim.Native.Char.{code}
use Rattle.laws.specs.Tables.{find}
use Rattle.rulebook.specs.Names.{Mpid, Key, same_key}
use Rattle.rulebook.specs.Lines.{Deal, new, change, cancel, block, unblock, News, quote, fill, reduction, cancel_refused, Record, broken, open_day, group, symbol, ask, tell}
use Rattle.rulebook.specs.Kept.{Ticket, Tally, is_of}
use Rattle.rulebook.specs.Outcomes.{Answer}
use Rattle.rulebook.specs.Judging.{named}
use Rattle.rulebook.specs.Day.{Entry}

-- what is left of an order
pub record Left : Type 0 where
  pub size : ℕ
  pub price : ℕ
  pub done : ℕ

abbrev pub left_value : Left → ℕ
left_value l = (l.size - l.done) * l.price

-- a line of the list opens an order, or changes what is left of one and pays a value, or does neither
pub data Effect : Type 0 where
  no_effect : Effect
  opens : Ticket → Left → Effect
  moves : Key → (Left → Left) → (paid : ℕ) → Effect

abbrev pub deal_effect : Key → Deal → Effect
deal_effect k (new s x z p) = opens (record { key = k; sym = s; side = x }) (record { size = z; price = p; done = 0 })
deal_effect k (change n z p) = moves (named k n) (λ l. record { size = z; price = p; done = l.done }) 0
deal_effect k (cancel n) = no_effect
deal_effect k block = no_effect
deal_effect k unblock = no_effect

abbrev pub less : ℕ → Left → Left
less z l = record { size = l.size; price = l.price; done = l.done + z }

abbrev pub news_effect : News → Effect
news_effect (quote s x y) = no_effect
news_effect (fill k z p) = moves k (less z) (z * p)
news_effect (reduction k z) = moves k (less z) 0
news_effect (cancel_refused k) = no_effect

-- what a line of the list and its answer line tell: the record, the outcome's byte, and the messages sent
pub record Told : Type 0 where
  pub line : Record
  pub outcome : ℕ
  pub sent : ℕ

abbrev pub told : Entry → Told
told e = record { line = e.line; outcome = code e.answer.outcome; sent = e.answer.sent }

-- a request counts if it was sent, a notice if it was booked
abbrev pub effect_of : Record → (outcome sent : ℕ) → Effect
effect_of broken o s = no_effect
effect_of (group m t) o s = no_effect
effect_of (symbol i) o s = no_effect
effect_of open_day o s = no_effect
effect_of (ask r) o s = cond (eqb s 0) no_effect (deal_effect r.key r.deal)
effect_of (tell n w) o s = cond (eqb o (code "K")) (news_effect w) no_effect

abbrev pub effect : Record → Answer → Effect
effect x a = effect_of x (code a.outcome) a.sent

abbrev pub tickets : Effect → List Ticket
tickets no_effect = []
tickets (opens t l) = t ∷ []
tickets (moves k f v) = []

-- what is left of an order after a line that may name it, which names it only while it is open
abbrev pub after : Key → Left → Effect → Left
after i l no_effect = l
after i l (opens t m) = l
after i l (moves k f v) = cond (same_key k i && ltb 0 (l.size - l.done)) (f l) l

-- what a line leaves open of this desk's buys (true) or sells: what the rest of the list, h, leaves of the order that it opens
abbrev pub leaves : Mpid → Bool → List Effect → Effect → ℕ
leaves m b h no_effect = 0
leaves m b h (opens t l) = cond (is_of m b t) (left_value (foldl (after t.key) l h)) 0
leaves m b h (moves k f v) = 0

abbrev pub left_open : Mpid → Bool → List Effect → ℕ
left_open m b [] = 0
left_open m b (e ∷ h) = leaves m b h e + left_open m b h

-- what a line pays, if the N that its target names is of this desk and side; ts are the tickets that the list has opened so far
abbrev pub pays : Mpid → Bool → List Ticket → Effect → ℕ
pays m b ts no_effect = 0
pays m b ts (opens t l) = 0
pays m b ts (moves k f v) = cond (Option-elim (find (λ t. same_key k t.key) ts) false (is_of m b)) v 0

abbrev pub fills : Mpid → Bool → List Ticket → List Effect → ℕ
fills m b ts [] = 0
fills m b ts (e ∷ h) = pays m b ts e + fills m b (ts ++ tickets e) h

abbrev pub effects : List Told → List Effect
effects h = map (λ t. effect_of t.line t.outcome t.sent) h

-- a desk's traded and open values
abbrev pub account : Mpid → List Told → Tally
account m h = record { tb = fills m true [] (effects h); ts = fills m false [] (effects h); ob = left_open m true (effects h); os = left_open m false (effects h) }

-- the desks that have these: a G that passed lists one
abbrev pub listing : Record → (outcome : ℕ) → List Mpid
listing broken o = []
listing (group m t) o = cond (eqb o (code "P")) (m ∷ []) []
listing (symbol i) o = []
listing open_day o = []
listing (ask r) o = []
listing (tell n w) o = []

abbrev pub desks : List Told → List Mpid
desks [] = []
desks (t ∷ h) = listing t.line t.outcome ++ desks h
