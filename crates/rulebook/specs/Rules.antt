-- Document 01, "Outcomes", "State rules": every rule of that list, of an order, of the ledger and of the books.
-- "Open values equal to the sums over the table" is a rule of the memory: here they are those sums.
use Rattle.std.specs.Prelude.{◌≡◌, Bool, true, false, ◌||◌, cond, List, [], ◌∷◌, ◌++◌, map, ℕ, ◌≤◌, length, eqb}
use Rattle.laws.specs.Tables.{All, Has, Apart}
use Rattle.rulebook.specs.Lines.{ceiling, among, group, ask, tell, quote, size, price, Fits, Formed}
use Rattle.rulebook.specs.Kept.{Ticket, Order, Group, Symbol, Asked, Ledger, Books, by_mpid, by_id, by_request, tally, metrics}
use Rattle.rulebook.specs.Outcomes.{kept_numbers}
use Rattle.rulebook.specs.Account.{tickets, deal_effect}

-- a number that the table remembers of a refusal
abbrev pub is_kept : ℕ → Bool
is_kept = among kept_numbers

-- the tickets of the table's passed N
abbrev pub tickets_at : Asked → List Ticket
tickets_at a = cond (eqb a.number 0) (tickets (deal_effect a.request.key a.request.deal)) []

abbrev pub tickets_in : List Asked → List Ticket
tickets_in [] = []
tickets_in (a ∷ l) = tickets_at a ++ tickets_in l

-- every field in range: as a G, a Q or a request in its form would have it
abbrev pub FitsGroup : Group → Type 0
FitsGroup g = Formed (group g.mpid g.terms)

abbrev pub FitsSymbol : Symbol → Type 0
FitsSymbol s = Formed (tell 1 (quote s.id s.bid s.offer))

abbrev pub FitsAsked : Asked → Type 0
FitsAsked a = Formed (ask a.request) × ((eqb a.number 0 || is_kept a.number) ≡ true)

pub record SoundOrder (ss : List Symbol) (o : Order) : Type 0 where
  -- every field in range
  pub size_fits : Fits (size o.figures.size)
  pub price_fits : Fits (price o.figures.price)
  -- every order's symbol listed
  pub listed : Has by_id o.ticket.sym ss
  -- done at most size
  pub done_within : o.figures.done ≤ o.figures.size

pub record SoundLedger (l : Ledger) : Type 0 where
  -- counts within room
  pub few_groups : length l.groups ≤ 64
  pub few_symbols : length l.symbols ≤ 256
  -- every field in range
  pub groups_fit : All FitsGroup l.groups
  pub symbols_fit : All FitsSymbol l.symbols
  pub orders_sound : All (SoundOrder l.symbols) l.orders
  -- listed MPIDs and symbols distinct
  pub groups_apart : Apart by_mpid l.groups
  pub symbols_apart : Apart by_id l.symbols
  -- gross of both at most the ceiling
  pub gross_within : All (λ g. (metrics (tally g l.orders)).gross_both ≤ ceiling) l.groups

pub record Sound (b : Books) : Type 0 where
  pub ledger : SoundLedger b.ledger
  -- counts within room
  pub few_asked : length b.asked ≤ b.room
  pub small_room : b.room ≤ 65_535
  -- every field in range
  pub last_fits : b.last ≤ 4_294_967_295
  pub asked_fit : All FitsAsked b.asked
  -- listed identifier pairs distinct
  pub asked_apart : Apart by_request b.asked
  -- every request's MPID listed
  pub asked_listed : All (λ a. Has by_mpid a.request.key.owner.mpid b.ledger.groups) b.asked
  -- "An order is known all day by the identifier of its N": the orders are those of the passed N, in order of arrival
  pub orders_asked : map (λ (o : Order). o.ticket) b.ledger.orders ≡ tickets_in b.asked
  -- before O no place taken and every total 0
  pub before_open : b.opened ≡ false → (b.asked ≡ []) × All (λ (g : Group). (g.traded_buys ≡ 0) × (g.traded_sells ≡ 0)) b.ledger.groups
