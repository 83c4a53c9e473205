-- The rulebook's edits by rows: where each thing stands, the words that it has, and the open values after.
use Rattle.std.specs.Prelude.{Bool, true, false, ℕ}
use Rattle.laws.specs.Tables.{sum, Shift, stay, adds, puts, shifted}
use Rattle.laws.specs.Rows.{Sheet}
use Rattle.rulebook.specs.Names as names
use Rattle.rulebook.specs.Names.{Mpid}
use Rattle.rulebook.specs.Lines as lines
use Rattle.rulebook.specs.Lines.{Deal}
use Rattle.rulebook.specs.Kept as kept
use Rattle.rulebook.specs.Kept.{Order, Group, Symbol, by_key, worth}
use Rattle.rulebook.specs.Judging as judging
use Rattle.rulebook.specs.Judging.{nothing, opened, listed, remembered, taken}
use Rattle.books.specs.View.{orders_in}
use Rattle.books.specs.Writing.{group_index, symbol_index, order_index, said}
use Rattle.books.specs.declared.Terms.{Terms}
use Rattle.packing.specs.declared.Ident.{Ident}
use Rattle.store.specs.declared.Key.{Key}
use Rattle.checks.specs.declared.Figures.{Figures}
use Rattle.edits.specs.declared.Asking.{Asking}
use Rattle.edits.specs.declared.OrderShift.{OrderShift}
use Rattle.edits.specs.declared.GroupShift.{GroupShift}
use Rattle.edits.specs.declared.SymbolShift.{SymbolShift}
use Rattle.edits.specs.declared.Deed.{Deed}
use Rattle.edits.specs.declared.Edit.{Edit}

-- ── the words of a thing ──
abbrev pub ident_words : names.Ident → Ident
ident_words n = record { head = n.head; middle = n.middle; tail = n.tail }

abbrev pub key_words : names.Key → Key
key_words k = record { owner = k.owner.mpid.code; name = ident_words k.name }

abbrev pub figure_words : kept.Figures → Figures
figure_words f = record { price = f.price; size = f.size; done = f.done; asked = f.cancel_asked }

abbrev pub asking_words : Deal → Asking
asking_words d = let q = said d in record { kind = q.kind; target = ident_words q.target; sym = q.sym; side = q.side; size = q.size; price = q.price }

abbrev pub terms_words : lines.Terms → Terms
terms_words t = let l = t.limits in record { gross_trade = l.gross_trade; net_trade = l.net_trade; gross_open = l.gross_open; net_open = l.net_open; gross_both = l.gross_both; net_both = l.net_both; max_size = t.max_size; short_sales = t.short_sales }

-- ── by rows ──
-- the open values of an order's desk, over the orders as they are after
abbrev pub open_after : Sheet → Mpid → Shift Order → Bool → ℕ
open_after S m s b = sum (worth m b) (shifted by_key s (orders_in S))

abbrev pub order_in_rows : Sheet → Shift Order → OrderShift
order_in_rows S stay = OrderShift.Stay
order_in_rows S (adds o) = let m = o.ticket.key.owner.mpid in
    OrderShift.Adds (figure_words o.figures) (group_index S m) (open_after S m (adds o) true) (open_after S m (adds o) false)
order_in_rows S (puts o) = let m = o.ticket.key.owner.mpid in
    OrderShift.Puts (order_index S o.ticket.key) (figure_words o.figures) (group_index S m) (open_after S m (puts o) true) (open_after S m (puts o) false)

abbrev pub group_in_rows : Sheet → Shift Group → GroupShift
group_in_rows S stay = GroupShift.Stay
group_in_rows S (adds g) = GroupShift.Adds g.mpid.code (terms_words g.terms) g.blocked g.traded_buys g.traded_sells
group_in_rows S (puts g) = GroupShift.Puts (group_index S g.mpid) g.blocked g.traded_buys g.traded_sells

abbrev pub symbol_in_rows : Sheet → Shift Symbol → SymbolShift
symbol_in_rows S stay = SymbolShift.Stay
symbol_in_rows S (adds s) = SymbolShift.Adds s.id s.bid s.offer
symbol_in_rows S (puts s) = SymbolShift.Puts (symbol_index S s.id) s.bid s.offer

unfoldable pub deed_in_rows : Sheet → judging.Deed → Deed
deed_in_rows S d = record { order = order_in_rows S d.order; group = group_in_rows S d.group; symbol = symbol_in_rows S d.symbol }

unfoldable pub edit_in_rows : Sheet → judging.Edit → Edit
edit_in_rows S nothing = Edit.Nothing
edit_in_rows S opened = Edit.Opened
edit_in_rows S (listed d) = Edit.Listed (deed_in_rows S d)
edit_in_rows S (remembered a d) = Edit.Remembered (key_words a.request.key) (asking_words a.request.deal) a.number (deed_in_rows S d)
edit_in_rows S (taken d) = Edit.Taken (deed_in_rows S d)
