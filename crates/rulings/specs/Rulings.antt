-- What the code's deals and news say, and the rulebook's rulings by rows.
use Rattle.std.specs.Prelude.{Bool, cond, ℕ, ltb, Result, Ok, Err, Option, Some, None}
use Rattle.std.specs.Option.{ok_or}
use Rattle.laws.specs.Rows.{Sheet}
use Rattle.rulebook.specs.Names.{Key}
use Rattle.rulebook.specs.Lines as lines
use Rattle.rulebook.specs.Lines.{new, change, cancel, block, unblock, quote, fill, reduction, cancel_refused}
use Rattle.rulebook.specs.Judging as judging
use Rattle.fields.specs.Series.{side_of}
use Rattle.books.specs.Layout.{groups_at, places_at}
use Rattle.books.specs.View.{head_in}
use Rattle.books.specs.Writing.{group_index, order_index}
use Rattle.packing.specs.Words.{named}
use Rattle.store.specs.Finding.{named_by}
use Rattle.checks.specs.Refusing.{number_of}
use Rattle.checks.specs.declared.Refusal.{Refusal}
use Rattle.checks.specs.declared.Figures.{Figures as FigureWords}
use Rattle.checks.specs.declared.Tally.{Tally as TallyWords}
use Rattle.edits.specs.InRows.{deed_in_rows}
use Rattle.edits.specs.declared.OrderShift.{OrderShift}
use Rattle.edits.specs.declared.GroupShift.{GroupShift}
use Rattle.edits.specs.declared.SymbolShift.{SymbolShift}
use Rattle.edits.specs.declared.Deed.{Deed}
use Rattle.rulings.specs.declared.Deal.{Deal}
use Rattle.rulings.specs.declared.News.{News}

abbrev pub deal_said : Deal → lines.Deal
deal_said (Deal.New s x z p) = new s (side_of x) z p
deal_said (Deal.Change t z p) = change (named t) z p
deal_said (Deal.Cancel t) = cancel (named t)
deal_said Deal.Block = block
deal_said Deal.Unblock = unblock

abbrev pub news_said : News → lines.News
news_said (News.Quote s b o) = quote s b o
news_said (News.Fill t z p) = fill (named_by t) z p
news_said (News.Reduction t z) = reduction (named_by t) z
news_said (News.CancelRefused t) = cancel_refused (named_by t)

-- ── rulings ──
abbrev pub idle_words : Deed
idle_words = record { order = OrderShift.Stay; group = GroupShift.Stay; symbol = SymbolShift.Stay }

-- a number, and what is changed, which is nothing unless the number is 0
pub record Ruled : Type 0 where
  pub number : ℕ
  pub deed : Deed

-- a deed that is granted has the number 0, and a refusal its own with nothing changed
abbrev pub ruled : Result Deed Refusal → Ruled
ruled (Ok d) = record { number = 0; deed = d }
ruled (Err r) = record { number = number_of r; deed = idle_words }

-- a group's traded values, and its block
abbrev pub marked_with : ℕ → Bool → TallyWords → GroupShift
marked_with g b t = GroupShift.Puts g b t.tb t.ts

-- an order's figures and its desk's open values, and what else becomes of the group
abbrev pub amended_with : ℕ → ℕ → FigureWords → TallyWords → GroupShift → Deed
amended_with g i f t s = record { order = OrderShift.Puts i f g t.ob t.os; group = s; symbol = SymbolShift.Stay }

-- the rulebook's ruling by rows
unfoldable pub ruling_in_rows : Sheet → judging.Ruling → Ruled
ruling_in_rows S u = record { number = u.number; deed = deed_in_rows S u.deed }

-- ── where an order stands that a key names, and its desk ──
pub record Spot : Type 0 where
  pub group : ℕ
  pub order : ℕ

-- the place of the order with a key
unfoldable pub order_place : Sheet → Key → Option ℕ
order_place S k = let i = order_index S k in cond (ltb i (head_in S places_at)) (Some i) None

-- of the g-th group's order
abbrev pub spot_in : ℕ → Result ℕ Refusal → Result Spot Refusal
spot_in g (Ok i) = Ok (record { group = g; order = i })
spot_in g (Err r) = Err r

unfoldable pub own_spot : Sheet → ℕ → Key → Result Spot Refusal
own_spot S g k = spot_in g (ok_or (order_place S k) Refusal.NotOpen)

-- of the order that a notice names
unfoldable pub spot_of : Sheet → Key → Result Spot Refusal
spot_of S k = let g = group_index S k.owner.mpid in cond (ltb g (head_in S groups_at)) (own_spot S g k) (Err Refusal.NoDesk)
