-- `state::symbols_ok` meets its contract: every row is tried.
use Rattle.std.proofs.Common.{◌∙◌, refl, arith, rules, tests}
use Rattle.std.proofs.lemmas.Iterator.{YieldsList-from_range}
use Rattle.std.proofs.lemmas.Iterator.Search.{all_from_yields_List}
use Rattle.books.specs.Layout.{symbols_at}
use Rattle.books.specs.View.{head_in, rows_of}
use Rattle.rules.specs.Passing.{symbol_ok}
use Rattle.state.proofs.Ranges.{every_of_range}
use Rattle.state.proofs.symbols_ok.Goals as goal

pub returns : goal.returns
returns c =
    let n = head_in (rows_of c.args.mem.now) symbols_at in
    all_from_yields_List (symbol_ok c.args.mem.now) _ _ _ c.all.ensures.ran (YieldsList-from_range 0 n n refl (omega arith)) (λ x b q k. search (rules, tests))
    ∙ every_of_range (symbol_ok c.args.mem.now) n
