-- `judge::group_verdict` meets its contract: its row is one of those listed exactly if its MPID is.
use mathlib.Core.Path.{◌∙◌, ap}
use Prim.Native.Nat.{ℕ}
use Rattle.laws.specs.Checks.{first}
use Rattle.books.specs.Layout.{opened_at, groups_at}
use Rattle.books.specs.View.{head_in, rows_of}
use Rattle.books.proofs.Judged.{valid_counted}
use Rattle.store.specs.Finding.{mpid_word}
use Rattle.edits.specs.InRows.{edit_in_rows, deed_in_rows}
use Rattle.judge.specs.Verdicts.{listing_checks, terms_of, group_set_up}
use Rattle.judge.proofs.group_verdict.Goals as goal

pub find_group-row-requires : goal.find_group-row-requires
find_group-row-requires c = valid_counted _ c.requires

pub returns : goal.returns
unfolding edit_in_rows deed_in_rows
returns c = let m = c.args.mem.now in c.listing_verdict.ensures ∙ group_set_up m (mpid_word c.args.mpid) (terms_of c.args.terms) _ (ap (λ (i : ℕ). first (listing_checks (head_in (rows_of m) opened_at) i (head_in (rows_of m) groups_at) 64)) c.find_group-row.ensures)
