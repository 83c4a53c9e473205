-- The stores of an edit by rows, and that they are the rulebook's edit written.
use Rattle.std.specs.Prelude.{◌≡◌, false, List, [], ◌∷◌, ◌++◌, ℕ, suc, ◌≤◌, length, replicate}
use Rattle.std.proofs.Math.Path.{refl, ap, ap₂}
use Rattle.std.proofs.Common.{sym, subst, append_assoc, arith}
use Rattle.laws.specs.Tables.{All, Shift, stay, adds, puts, shifted}
use Rattle.laws.specs.Rows.{Sheet, Store, extent, Fit, run}
use Rattle.rulebook.specs.Kept.{Group, Symbol, Order, Asked, by_key}
use Rattle.rulebook.specs.Judging as judging
use Rattle.rulebook.specs.Judging.{nothing, opened, listed, remembered, taken}
use Rattle.books.specs.Layout.{groups, symbols, keys, requests, orders, layout, room_of, width_of, opened_at, last_at, groups_at, symbols_at, places_at, mpid_at, blocked_at, open_buys_at, id_at, bid_at, owner_at, kind_at, order_price_at}
use Rattle.books.specs.View.{head_in, orders_in, books_in, rows_of, view}
use Rattle.books.specs.Writing.{bit, head_store, store_at, order_stores, open_stores, group_stores, symbol_stores, deed_stores, place_stores, stores, write}
use Rattle.books.specs.Refining.{Counted, Apt}
use Rattle.books.proofs.Refining.{edit_fit}
use Rattle.books.specs.Rules.{Valid}
use Rattle.store.specs.declared.Key.{Key}
use Rattle.checks.specs.declared.Figures.{Figures}
use Rattle.edits.specs.InRows.{key_words, asking_words, order_in_rows, group_in_rows, symbol_in_rows, deed_in_rows, edit_in_rows}
use Rattle.edits.specs.declared.Asking.{Asking}
use Rattle.edits.specs.declared.OrderShift.{OrderShift}
use Rattle.edits.specs.declared.GroupShift.{GroupShift}
use Rattle.edits.specs.declared.SymbolShift.{SymbolShift}
use Rattle.edits.specs.declared.Deed.{Deed}
use Rattle.edits.specs.declared.Edit.{Edit}

abbrev pub figures_list : Figures → List ℕ
figures_list f = f.price ∷ f.size ∷ f.done ∷ bit f.asked ∷ []

unfoldable pub figures_stored : ℕ → Figures → List Store
figures_stored i f = store_at orders i order_price_at (figures_list f) ∷ []

unfoldable pub open_stored : ℕ → ℕ → ℕ → List Store
open_stored g ob os = store_at groups g open_buys_at (ob ∷ os ∷ []) ∷ []

-- an order amended, and the open values of its desk
unfoldable pub order_stored : OrderShift → List Store
order_stored OrderShift.Stay = []
order_stored (OrderShift.Adds f g ob os) = open_stored g ob os
order_stored (OrderShift.Puts i f g ob os) = figures_stored i f ++ open_stored g ob os

-- the row of a group listed, with open values of 0
unfoldable pub group_row : GroupShift → List ℕ
group_row GroupShift.Stay = replicate (width_of groups) 0
group_row (GroupShift.Adds m t b tb ts) = m ∷ t.gross_trade ∷ t.net_trade ∷ t.gross_open ∷ t.net_open ∷ t.gross_both ∷ t.net_both ∷ t.max_size ∷ bit t.short_sales ∷ bit b ∷ tb ∷ ts ∷ 0 ∷ 0 ∷ []
group_row (GroupShift.Puts g b tb ts) = replicate (width_of groups) 0

-- listed after so many
unfoldable pub group_stored : ℕ → GroupShift → List Store
group_stored n GroupShift.Stay = []
group_stored n (GroupShift.Adds m t b tb ts) = store_at groups n mpid_at (group_row (GroupShift.Adds m t b tb ts)) ∷ head_store groups_at (suc n) ∷ []
group_stored n (GroupShift.Puts g b tb ts) = store_at groups g blocked_at (bit b ∷ tb ∷ ts ∷ []) ∷ []

unfoldable pub symbol_stored : ℕ → SymbolShift → List Store
symbol_stored n SymbolShift.Stay = []
symbol_stored n (SymbolShift.Adds s b o) = store_at symbols n id_at (s ∷ b ∷ o ∷ []) ∷ head_store symbols_at (suc n) ∷ []
symbol_stored n (SymbolShift.Puts i b o) = store_at symbols i bid_at (b ∷ o ∷ []) ∷ []

unfoldable pub deed_stored : Sheet → Deed → List Store
deed_stored S d = order_stored d.order ++ (group_stored (head_in S groups_at) d.group ++ symbol_stored (head_in S symbols_at) d.symbol)

-- the figures that a place is taken with: those of a new order, or none
abbrev pub no_figures : Figures
no_figures = record { price = 0; size = 0; done = 0; asked = false }

abbrev pub born : OrderShift → Figures
born OrderShift.Stay = no_figures
born (OrderShift.Adds f g ob os) = f
born (OrderShift.Puts i f g ob os) = no_figures

-- the p-th place: who asked under which identifier; what was asked, and its outcome
unfoldable pub asked_stored : ℕ → Key → Asking → ℕ → List Store
asked_stored p k q n =
    store_at keys p owner_at (k.owner ∷ k.name.head ∷ k.name.middle ∷ k.name.tail ∷ [])
    ∷ store_at requests p kind_at (q.kind ∷ n ∷ q.target.head ∷ q.target.middle ∷ q.target.tail ∷ q.sym ∷ q.side ∷ q.size ∷ q.price ∷ [])
    ∷ []

unfoldable pub place_stored : ℕ → Key → Asking → ℕ → Figures → List Store
place_stored p k q n f = asked_stored p k q n ++ (figures_stored p f ++ (head_store places_at (suc p) ∷ []))

unfoldable pub edit_stored : Sheet → Edit → List Store
edit_stored S Edit.Nothing = []
edit_stored S Edit.Opened = head_store opened_at 1 ∷ []
edit_stored S (Edit.Listed d) = deed_stored S d
edit_stored S (Edit.Remembered k q n d) = deed_stored S d ++ place_stored (head_in S places_at) k q n (born d.order)
edit_stored S (Edit.Taken d) = deed_stored S d ++ (head_store last_at (suc (head_in S last_at)) ∷ [])

-- ── an edit of the rulebook, by rows, is stored as it is written ──
module _ (S : Sheet) where
  order_same : (s : Shift Order) → order_stored (order_in_rows S s) ≡ order_stores S s ++ open_stores S s (shifted by_key s (orders_in S))
  unfolding order_stored figures_stored open_stored
  order_same stay = refl
  order_same (adds o) = refl
  order_same (puts o) = refl

  group_same : (s : Shift Group) → group_stored (head_in S groups_at) (group_in_rows S s) ≡ group_stores S s
  unfolding group_stored group_row
  group_same stay = refl
  group_same (adds g) = refl
  group_same (puts g) = refl

  symbol_same : (s : Shift Symbol) → symbol_stored (head_in S symbols_at) (symbol_in_rows S s) ≡ symbol_stores S s
  unfolding symbol_stored
  symbol_same stay = refl
  symbol_same (adds y) = refl
  symbol_same (puts y) = refl

  deed_same : (d : judging.Deed) → deed_stored S (deed_in_rows S d) ≡ deed_stores S d
  unfolding deed_stored deed_in_rows
  deed_same d = rw (order_same d.order, group_same d.group, symbol_same d.symbol) (append_assoc (order_stores S d.order) _ _)

  place_same : (a : Asked) (s : Shift Order) → place_stored (head_in S places_at) (key_words a.request.key) (asking_words a.request.deal) a.number (born (order_in_rows S s)) ≡ place_stores S a s
  unfolding place_stored asked_stored figures_stored
  place_same a stay = refl
  place_same a (adds o) = refl
  place_same a (puts o) = refl

  remembered_same : (a : Asked) (d : judging.Deed) → deed_stored S (deed_in_rows S d) ++ place_stored (head_in S places_at) (key_words a.request.key) (asking_words a.request.deal) a.number (born (deed_in_rows S d).order) ≡ deed_stores S d ++ place_stores S a d.order
  unfolding deed_in_rows
  remembered_same a d = ap₂ (λ ss ps. ss ++ ps) (deed_same d) (place_same a d.order)

  pub edit_same : (e : judging.Edit) → edit_stored S (edit_in_rows S e) ≡ stores S e
  unfolding edit_stored edit_in_rows stores
  edit_same nothing = refl
  edit_same opened = refl
  edit_same (listed d) = deed_same d
  edit_same (remembered a d) = remembered_same a d
  edit_same (taken d) = ap (λ ss. ss ++ (head_store last_at (suc (head_in S last_at)) ∷ [])) (deed_same d)

-- THEOREM. The rulebook's edit, by rows, stored, is that edit written
pub stored_written : (m : List ℕ) (e : judging.Edit) → run (layout (room_of m)) (edit_stored (rows_of m) (edit_in_rows (rows_of m) e)) m ≡ write e m
unfolding write
stored_written m e = ap (λ ss. run (layout (room_of m)) ss m) (edit_same (rows_of m) e)

-- ── what stores need: the words are there, and each keeps to its row ──
pub record Storable (room : ℕ) (m : List ℕ) (ss : List Store) : Type 0 where
  pub few : room ≤ 65_535
  pub long : extent (layout room) ≤ length m
  pub fit : All (Fit (layout room)) ss

-- THEOREM. An edit that is apt has room
pub apt_storable : (m : List ℕ) → Counted m → (e : judging.Edit) → Apt (view m) e → Storable (room_of m) m (edit_stored (rows_of m) (edit_in_rows (rows_of m) e))
apt_storable m c e a = record { few = c.most; long = omega (arith, c.whole); fit = subst (All (Fit (layout (room_of m)))) (sym (edit_same (rows_of m) e)) (edit_fit m c e a) }

-- THEOREM. Over a memory that meets the state rules the last number has room for one more
pub valid_last : (m : List ℕ) → Valid m → head_in (rows_of m) last_at ≤ 4_294_967_295
unfolding books_in
valid_last m v = v.sound.last_fits
