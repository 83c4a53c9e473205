-- The checks as the code tries them: what it asks of its numbers, the parts that have a function of their own, and the laws by which
-- each test that the code makes is the check's.
use Rattle.std.specs.Prelude.{◌≡◌, refl, Bool, false, not, ◌&&◌, cond, List, ◌∷◌, ℕ, ◌-◌, ◌≤◌, ◌<◌, ltb, length}
use Rattle.std.proofs.Math.Option.{Option, none, some}
use Prim.Native.Char.{code}
use Rattle.std.proofs.Common.{arith, lt-ltb, le-ltb}
use Rattle.laws.specs.Tests.{is_none}
use Rattle.laws.specs.Checks.{Check, ◌⇒◌, first, here, past}
use Rattle.rulebook.specs.Lines.{Side, is_short}
use Rattle.rulebook.specs.Kept.{Order, Group, Symbol, Tally, metrics, limit_checks}
use Rattle.rulebook.specs.Prices.{bad_price, off_market}
use Rattle.rulebook.specs.Judging.{quotes}
use Rattle.books.specs.Layout.{least_words}
use Rattle.books.specs.View.{rows_of}
use Rattle.books.specs.Refining.{Counted}
use Rattle.checks.specs.Saying.{tally_said, order_said, symbol_at}
use Rattle.checks.specs.declared.Figures.{Figures as FigureWords}
use Rattle.checks.specs.declared.Tally.{Tally as TallyWords}

-- ── what is asked ──
-- a group's row is there, and its totals can be added up
pub record Measurable (m : List ℕ) (group : ℕ) (t : TallyWords) : Type 0 where
  pub long : least_words ≤ length m
  pub few : group < 64
  pub within : (metrics (tally_said t)).gross_both ≤ 5_000_000_000_000_000_000

-- a price and the quotes of a symbol's row are in range
pub record Quotable (m : List ℕ) (symbol price : ℕ) : Type 0 where
  pub counts : Counted m
  pub priced : price ≤ 999_999_999_999
  pub bid : (quotes (symbol_at (rows_of m) symbol)).bid ≤ 999_999_999_999
  pub offer : (quotes (symbol_at (rows_of m) symbol)).offer ≤ 999_999_999_999

-- both, for N and M
pub record Checkable (m : List ℕ) (group symbol : ℕ) (t : TallyWords) (price : ℕ) : Type 0 where
  pub measurable : Measurable m group t
  pub quotable : Quotable m symbol price

-- ── parts of the checks ──
-- the figures of a new order
abbrev pub new_figures : ℕ → ℕ → FigureWords
new_figures size price = record { price = price; size = size; done = 0; asked = false }

-- an order by its figures, of which C, F, D and H ask nothing else (Alike)
abbrev pub order_with : FigureWords → Order
order_with f = order_said (code "B") f

-- 11: "H or E where the group says N"
unfoldable pub is_barred : Side → Bool → Bool
is_barred x allowed = is_short x && not allowed

-- 14, by the quotes of a symbol
abbrev pub off_quotes : Option Symbol → Side → ℕ → Bool
off_quotes s x price = off_market x price (quotes s).bid (quotes s).offer

-- what N and M are tried by last: 13, 14, 31 to 36
abbrev pub price_checks : Group → Option Symbol → Tally → Side → ℕ → List Check
price_checks g s t x price = (bad_price price ⇒ 13) ∷ (off_quotes s x price ⇒ 14) ∷ limit_checks g.terms.limits (metrics t)

-- ── the tests ──
-- 8: a row that is not counted is not listed
pub here_unlisted : (i count n : ℕ) (s : Symbol) (l : List Check) → count ≤ i → n ≡ first ((is_none (cond (ltb i count) (some s) none) ⇒ n) ∷ l)
here_unlisted i count n s l h = here _ n l (rw (le-ltb i count h) refl)

pub past_listed : (i count n r : ℕ) (s : Symbol) (l : List Check) → i < count → r ≡ first l → r ≡ first ((is_none (cond (ltb i count) (some s) none) ⇒ n) ∷ l)
past_listed i count n r s l h k = past _ n r l (rw (lt-ltb i count h) refl) k

-- 9: nothing remains
pub here_closed : (size done n : ℕ) (l : List Check) → size ≤ done → n ≡ first ((not (ltb 0 (size - done)) ⇒ n) ∷ l)
here_closed size done n l h = here _ n l (rw (le-ltb 0 (size - done) (omega arith)) refl)

pub past_open : (size done n r : ℕ) (l : List Check) → done < size → r ≡ first l → r ≡ first ((not (ltb 0 (size - done)) ⇒ n) ∷ l)
past_open size done n r l h k = past _ n r l (rw (lt-ltb 0 (size - done) (omega arith)) refl) k

pub ruleset order_tried = (here_unlisted, past_listed, here_closed, past_open)
