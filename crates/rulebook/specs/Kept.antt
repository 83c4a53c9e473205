-- Document 01, "What is kept": the books, an order's open value, and the six metrics of a group.
-- Open values are no part of the books: they are the sums over the orders (the state rule that they are equal is the memory's).
use Rattle.std.specs.Prelude.{Bool, true, false, not, ◌&&◌, ◌||◌, cond, List, [], ◌∷◌, ℕ, ◌+◌, ◌*◌, ◌-◌, ℤ, pos, ◌-ℤ◌, nat_abs, ltb, eqb}
use Rattle.std.specs.Bool.{beq}
use Rattle.laws.specs.Tests.{eqb_exact}
use Rattle.laws.specs.Tables.{Table, sum}
use Rattle.laws.specs.Checks.{Check, ◌⇒◌, first}
use Rattle.rulebook.specs.Names.{Mpid, Key, same_mpid, mpid_exact, same_key, key_exact}
use Rattle.rulebook.specs.Lines.{Side, is_buy, Metrics, Terms, Request}

-- what an order is all day, known by the identifier of its N
pub record Ticket : Type 0 where
  pub key : Key
  pub sym : ℕ
  pub side : Side

-- what changes; done is filled plus reduced
pub record Figures : Type 0 where
  pub price : ℕ
  pub size : ℕ
  pub done : ℕ
  pub cancel_asked : Bool

pub record Order : Type 0 where
  pub ticket : Ticket
  pub figures : Figures

pub record Group : Type 0 where
  pub mpid : Mpid
  pub terms : Terms
  pub blocked : Bool
  pub traded_buys : ℕ
  pub traded_sells : ℕ

-- a bid or an offer of 0 is not known
pub record Symbol : Type 0 where
  pub id : ℕ
  pub bid : ℕ
  pub offer : ℕ

-- a place in the table: a request with its outcome, 0 if it passed and else the number of its refusal
pub record Asked : Type 0 where
  pub request : Request
  pub number : ℕ

pub record Ledger : Type 0 where
  pub groups : List Group
  pub symbols : List Symbol
  pub orders : List Order

-- `asked` answers a retry and only grows; `room` is the most places that it may have
pub record Books : Type 0 where
  pub opened : Bool
  pub last : ℕ
  pub room : ℕ
  pub asked : List Asked
  pub ledger : Ledger

-- "Making a fresh state": the last number is 0 and nothing is listed
unfoldable pub fresh_books : ℕ → Books
fresh_books room = record { opened = false; last = 0; room = room; asked = []; ledger = record { groups = []; symbols = []; orders = [] } }

-- how each is told
abbrev pub by_mpid : Table Group Mpid
by_mpid = record { key = λ g. g.mpid; same = same_mpid; exact = mpid_exact }

abbrev pub by_id : Table Symbol ℕ
by_id = record { key = λ s. s.id; same = eqb; exact = eqb_exact }

abbrev pub by_request : Table Asked Key
by_request = record { key = λ a. a.request.key; same = same_key; exact = key_exact }

abbrev pub by_key : Table Order Key
by_key = record { key = λ o. o.ticket.key; same = same_key; exact = key_exact }

-- "A group starts unblocked with totals of 0, a symbol with neither bid nor offer known"
abbrev pub new_group : Mpid → Terms → Group
new_group m t = record { mpid = m; terms = t; blocked = false; traded_buys = 0; traded_sells = 0 }

abbrev pub new_symbol : ℕ → Symbol
new_symbol s = record { id = s; bid = 0; offer = 0 }

-- "A passed N opens its order"
abbrev pub new_order : Key → ℕ → Side → ℕ → ℕ → Order
new_order k s x z p = record { ticket = record { key = k; sym = s; side = x }; figures = record { price = p; size = z; done = 0; cancel_asked = false } }

abbrev pub remaining : Figures → ℕ
remaining f = f.size - f.done

abbrev pub is_open : Order → Bool
is_open o = ltb 0 (remaining o.figures)

-- an order with other figures
abbrev pub with_figures : Order → Figures → Order
with_figures o f = record { ticket = o.ticket; figures = f }

-- "A passed M sets size and price at once"
abbrev pub sized : ℕ → ℕ → Figures → Figures
sized z p f = record { price = p; size = z; done = f.done; cancel_asked = f.cancel_asked }

-- "A passed C sets 'cancel asked' and changes no value; H clears it"
abbrev pub asking : Bool → Figures → Figures
asking x f = record { price = f.price; size = f.size; done = f.done; cancel_asked = x }

-- "D adds its size to done. F adds its size to done ..."
abbrev pub worked : ℕ → Figures → Figures
worked z f = record { price = f.price; size = f.size; done = f.done + z; cancel_asked = f.cancel_asked }

-- "... and size x fill price to the group's traded value for that side"
abbrev pub traded : Bool → ℕ → Group → Group
traded b v g = record { mpid = g.mpid; terms = g.terms; blocked = g.blocked; traded_buys = g.traded_buys + cond b v 0; traded_sells = g.traded_sells + cond b 0 v }

-- "B blocks, R removes the block"
abbrev pub blocking : Bool → Group → Group
blocking x g = record { mpid = g.mpid; terms = g.terms; blocked = x; traded_buys = g.traded_buys; traded_sells = g.traded_sells }

-- what an order counts for
unfoldable pub open_value : Order → ℕ
open_value o = remaining o.figures * o.figures.price

-- of a desk, and of its buys (true) or its sells
abbrev pub is_of : Mpid → Bool → Ticket → Bool
is_of m b t = same_mpid m t.key.owner.mpid && beq b (is_buy t.side)

unfoldable pub worth : Mpid → Bool → Order → ℕ
worth m b o = cond (is_of m b o.ticket) (open_value o) 0

-- TB, TS, OB, OS
pub record Tally : Type 0 where
  pub tb : ℕ
  pub ts : ℕ
  pub ob : ℕ
  pub os : ℕ

abbrev pub tally : Group → List Order → Tally
tally g os = record { tb = g.traded_buys; ts = g.traded_sells; ob = sum (worth g.mpid true) os; os = sum (worth g.mpid false) os }

-- "The net keeps its sign": minus is net sold, zero is neither
abbrev pub net : ℕ → ℕ → ℤ
net buys sells = pos buys -ℤ pos sells

abbrev pub metrics : Tally → Metrics
metrics t = record {
  gross_trade = t.tb + t.ts;
  net_trade = nat_abs (net t.tb t.ts);
  gross_open = t.ob + t.os;
  net_open = nat_abs (net t.ob t.os);
  gross_both = t.tb + t.ts + (t.ob + t.os);
  net_both = nat_abs (net (t.tb + t.ob) (t.ts + t.os));
}

-- "a metric would pass its limit": 31 to 36, one per metric in their order, "the first that fails being given" (document 02, order 1)
unfoldable pub limit_checks : Metrics → Metrics → List Check
limit_checks l m =
    (ltb l.gross_trade m.gross_trade ⇒ 31)
    ∷ (ltb l.net_trade m.net_trade ⇒ 32)
    ∷ (ltb l.gross_open m.gross_open ⇒ 33)
    ∷ (ltb l.net_open m.net_open ⇒ 34)
    ∷ (ltb l.gross_both m.gross_both ⇒ 35)
    ∷ (ltb l.net_both m.net_both ⇒ 36)
    ∷ []

-- "if any metric is above its limit, the group becomes blocked"
abbrev pub tested : Group → Tally → Group
tested g t = blocking (g.blocked || not (eqb (first (limit_checks g.terms.limits (metrics t))) 0)) g
