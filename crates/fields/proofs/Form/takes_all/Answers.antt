-- `fields::Form::takes_all` meets its contract: `every` recurses as `all` does.
use Rattle.std.proofs.Common.{◌&&◌, refl, rules, tests, sym, ◌∙◌}
use Rattle.std.specs.List.{list_all}
use Rattle.std.proofs.lemmas.Iterator.{YieldsList-from_slice}
use Rattle.std.proofs.lemmas.Iterator.Search.{all_from_yields_List}
use Rattle.std.proofs.lemmas.List.Recursion.{same_from_clauses}
use Rattle.fields.specs.Parts.{form, takes, every}
use Rattle.fields.proofs.Form.takes_all.Goals as goal

pub returns : goal.returns
unfolding every
returns c =
    let t = takes (form c.args.self) in
    all_from_yields_List t _ _ _ c.all.ensures.ran (YieldsList-from_slice c.args.f.now cc) (λ x b q k. search (rules, tests)) ∙ sym (same_from_clauses (every t) (list_all t) (λ x b. t x && b) refl (λ x xs. refl) (λ x xs. refl) c.args.f.now)
