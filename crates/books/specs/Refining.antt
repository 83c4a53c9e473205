-- What an edit has to meet so that the words that it writes say the books that it makes.
use Rattle.std.specs.Prelude.{◌≡◌, Bool, false, ◌&&◌, List, ℕ, ◌+◌, ◌*◌, ◌≤◌, ◌<◌, length, eqb}
use Rattle.std.proofs.Math.Option.{some}
use Prim.Native.Char.{code}
use Rattle.laws.specs.Tables.{Shift, stay, adds, puts, look, Steady}
use Rattle.rulebook.specs.Names.{Mpid}
use Rattle.rulebook.specs.Lines.{Deal, new, change, cancel, block, unblock, Request}
use Rattle.rulebook.specs.Kept.{Order, Group, Symbol, Asked, Ledger, Books, by_mpid, by_id, by_key}
use Rattle.rulebook.specs.Judging.{Deed, Edit, nothing, opened, listed, remembered, taken}
use Rattle.books.specs.Layout.{least_words, place_words, room_of, groups_at, symbols_at, places_at}
use Rattle.books.specs.View.{head_in, rows_of}
use Rattle.books.specs.Writing.{said}

-- ── what is asked of an edit: what it amends is there, and what it adds has room ──
abbrev pub Desk : Ledger → Mpid → Type 0
Desk l m = (g : Group) × (look by_mpid m l.groups ≡ some g)

abbrev pub AptOrder : Ledger → Shift Order → Type 0
AptOrder l stay = Unit {0}
AptOrder l (adds o) = Desk l o.ticket.key.owner.mpid
AptOrder l (puts o) = Desk l o.ticket.key.owner.mpid × ((x : Order) × (look by_key o.ticket.key l.orders ≡ some x) × (x.ticket ≡ o.ticket))

abbrev pub AptGroup : Ledger → Shift Group → Type 0
AptGroup l stay = Unit {0}
AptGroup l (adds g) = length l.groups < 64
AptGroup l (puts g) = (x : Group) × (look by_mpid g.mpid l.groups ≡ some x) × (x.terms ≡ g.terms)

abbrev pub AptSymbol : Ledger → Shift Symbol → Type 0
AptSymbol l stay = Unit {0}
AptSymbol l (adds s) = length l.symbols < 256
AptSymbol l (puts s) = (x : Symbol) × (look by_id s.id l.symbols ≡ some x)

pub record AptDeed (l : Ledger) (d : Deed) : Type 0 where
  pub order : AptOrder l d.order
  pub group : AptGroup l d.group
  pub symbol : AptSymbol l d.symbol

-- the order that comes with a place is its request's, and a passed N has one
abbrev pub holds : Asked → Bool
holds a = eqb (said a.request.deal).kind (code "N") && eqb a.number 0

abbrev pub Born : Request → Order → Deal → Type 0
Born r o (new s x z p) = record { key = r.key; sym = s; side = x } ≡ o.ticket
Born r o (change n z p) = ⊥
Born r o (cancel n) = ⊥
Born r o block = ⊥
Born r o unblock = ⊥

abbrev pub Linked : Asked → Shift Order → Type 0
Linked a stay = holds a ≡ false
Linked a (adds o) = (a.number ≡ 0) × Born a.request o a.request.deal
Linked a (puts o) = holds a ≡ false

pub record AptPlace (b : Books) (a : Asked) (d : Deed) : Type 0 where
  pub free : length b.asked < b.room
  pub linked : Linked a d.order
  pub deed : AptDeed b.ledger d

pub record AptSteady (b : Books) (d : Deed) : Type 0 where
  pub steady : Steady d.order
  pub deed : AptDeed b.ledger d

abbrev pub Apt : Books → Edit → Type 0
Apt b nothing = Unit {0}
Apt b opened = Unit {0}
Apt b (listed d) = AptSteady b d
Apt b (remembered a d) = AptPlace b a d
Apt b (taken d) = AptSteady b d

-- ── on the words ──
-- the words are there, and the counts within them
pub record Counted (m : List ℕ) : Type 0 where
  pub long : least_words ≤ length m
  pub few_groups : head_in (rows_of m) groups_at ≤ 64
  pub few_symbols : head_in (rows_of m) symbols_at ≤ 256
  pub few_places : head_in (rows_of m) places_at ≤ room_of m
  pub whole : least_words + room_of m * place_words ≤ length m
  pub most : room_of m ≤ 65_535
