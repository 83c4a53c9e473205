-- What the code's numbers say: figures, a tally, its metrics, a group's terms, the order that is checked, and the symbol of a row.
use Rattle.std.specs.Prelude.{cond, ℕ, ltb}
use Rattle.std.proofs.Math.Option.{Option, none, some}
use Rattle.laws.specs.Rows.{Sheet}
use Rattle.rulebook.specs.Names.{Key}
use Rattle.rulebook.specs.Lines.{Metrics, Terms}
use Rattle.rulebook.specs.Kept.{Figures, Order, Symbol, Tally}
use Rattle.fields.specs.Series.{side_of}
use Rattle.books.specs.Layout.{symbols_at}
use Rattle.books.specs.View.{head_in, symbol_of}
use Rattle.books.specs.declared.Terms.{Terms as TermWords}
use Rattle.checks.specs.declared.Figures.{Figures as FigureWords}
use Rattle.checks.specs.declared.Metrics.{Metrics as MetricWords}
use Rattle.checks.specs.declared.Tally.{Tally as TallyWords}

abbrev pub figures_said : FigureWords → Figures
figures_said f = record { price = f.price; size = f.size; done = f.done; cancel_asked = f.asked }

abbrev pub tally_said : TallyWords → Tally
tally_said t = record { tb = t.tb; ts = t.ts; ob = t.ob; os = t.os }

abbrev pub metrics_said : MetricWords → Metrics
metrics_said m = record { gross_trade = m.gross_trade; net_trade = m.net_trade; gross_open = m.gross_open; net_open = m.net_open; gross_both = m.gross_both; net_both = m.net_both }

abbrev pub terms_said : TermWords → Terms
terms_said t = record {
  limits = record { gross_trade = t.gross_trade; net_trade = t.net_trade; gross_open = t.gross_open; net_open = t.net_open; gross_both = t.gross_both; net_both = t.net_both };
  max_size = t.max_size;
  short_sales = t.short_sales;
}

-- no check goes by an order's key or symbol ID
abbrev no_key : Key
no_key = record { owner = record { mpid = record { code = 0 } }; name = record { head = 0; middle = 0; tail = 0 } }

-- an order by its side's letter and its figures
abbrev pub order_said : ℕ → FigureWords → Order
order_said side f = record { ticket = record { key = no_key; sym = 0; side = side_of side }; figures = figures_said f }

-- the symbol at a row, none where so many are not listed
abbrev pub symbol_at : Sheet → ℕ → Option Symbol
symbol_at S i = cond (ltb i (head_in S symbols_at)) (some (symbol_of S i)) none
