-- `judge::symbol_verdict` meets its contract: its row is one of those listed exactly if its symbol ID is.
use borrow.Author.Rules.{rules}
use mathlib.Core.Path.{◌∙◌, ap}
use Prim.Native.Nat.{ℕ}
use Rattle.laws.specs.Checks.{first}
use Rattle.books.specs.Layout.{opened_at, symbols_at}
use Rattle.books.specs.View.{head_in, rows_of}
use Rattle.books.proofs.Judged.{valid_counted}
use Rattle.store.specs.Finding.{first_symbol}
use Rattle.edits.specs.InRows.{edit_in_rows, deed_in_rows}
use Rattle.judge.specs.Verdicts.{listing_checks, symbol_set_up}
use Rattle.judge.proofs.symbol_verdict.Goals as goal

pub find_word-row-requires : goal.find_word-row-requires
find_word-row-requires c = let v = valid_counted _ c.requires in search rules

pub returns : goal.returns
unfolding edit_in_rows deed_in_rows
returns c = let m = c.args.mem.now in c.listing_verdict.ensures ∙ symbol_set_up m c.args.id _ (ap (λ (i : ℕ). first (listing_checks (head_in (rows_of m) opened_at) i (head_in (rows_of m) symbols_at) 256)) (c.find_word-row.ensures ∙ first_symbol m c.args.id))
