-- `lines::line_at` meets its contract: the line ends with the first LF from the place on.
use Rattle.std.proofs.Common.{eqb, rules, tests, ◌∙◌}
use Rattle.std.proofs.lemmas.List.{take_rest}
use Rattle.std.proofs.lemmas.Iterator.{YieldsList-from_slice}
use Rattle.std.proofs.lemmas.Iterator.Search.{position_from_yields_List}
use Rattle.fields.specs.Parts.{stretch}
use Rattle.lines.specs.Splitting.{line_at}
use Rattle.lines.proofs.Places.{line_some, line_none, line_within}
use Rattle.lines.proofs.line_at.Goals as goal

pub returns-in-Some-clause-line : goal.returns-in-Some-clause-line
unfolding line_at stretch
returns-in-Some-clause-line c =
    let u = c.part-rest.result.now in
    let e = c.part-rest.ensures ∙ take_rest c.args.text.now c.args.at in
    let q = position_from_yields_List (λ b. eqb b 10) _ _ c.position.result c.position.ensures.ran (YieldsList-from_slice u cc) (λ x b q k. search (rules, tests)) in
    rw (← e) (line_some u c.position.result q c.in-Some.n c.in-Some.is)

pub returns-in-None-clause-line : goal.returns-in-None-clause-line
unfolding line_at stretch
returns-in-None-clause-line c =
    let u = c.part-rest.result.now in
    let e = c.part-rest.ensures ∙ take_rest c.args.text.now c.args.at in
    let q = position_from_yields_List (λ b. eqb b 10) _ _ c.position.result c.position.ensures.ran (YieldsList-from_slice u cc) (λ x b q k. search (rules, tests)) in
    rw (← e) (line_none u c.position.result q c.in-None.is)

pub returns-in-Some-clause-within : goal.returns-in-Some-clause-within
returns-in-Some-clause-within c = rw (returns-in-Some-clause-line c) (line_within c.args.text.now c.args.at)
