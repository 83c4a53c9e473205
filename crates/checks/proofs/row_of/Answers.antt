-- `checks::row_of` meets its contract: what the search over the table finds is the row that the price is among.
use Rattle.std.proofs.Common.{◌≡◌, ◌∙◌, ap, rules, tests, nat_lt}
use Rattle.std.specs.List.{find}
use Rattle.std.proofs.lemmas.Iterator.{YieldsList-from_slice}
use Rattle.std.proofs.lemmas.Iterator.Consumers.{YieldsList-from_copied}
use Rattle.std.proofs.lemmas.Iterator.Search.{find_from_yields_List}
use Rattle.std.specs.Option.{unwrap_or, option_map}
use Rattle.checks.specs.Protection.{table, row_said, terms}
use Rattle.checks.proofs.Protection.{found_right, last}
use Rattle.checks.specs.declared.Row.{Row}
use Rattle.checks.proofs.row_of.Goals as goal

pub returns-clause-found : goal.returns-clause-found
returns-clause-found c =
    let above = λ (r : Row). nat_lt c.args.price r.bound in
    let found : option_map (λ x. x) c.find.result ≡ find above table = find_from_yields_List above _ _ c.find.result c.find.ensures.ran (YieldsList-from_copied (YieldsList-from_slice table cc)) (λ x b q k. search (rules, tests)) in
    let is : c.find.result ≡ find above table = search (rules, found) in
    c.unwrap_or.ensures ∙ ap (λ o. unwrap_or o last) is

pub returns-clause-right : goal.returns-clause-right
returns-clause-right c = ap (λ (r : Row). terms (row_said r)) (returns-clause-found c) ∙ found_right c.args.price
