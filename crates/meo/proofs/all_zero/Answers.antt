-- `meo::all_zero` meets its contract.
use Rattle.std.proofs.Common.{rules, tests, ◌≡◌, ◌∙◌, refl, ap, eqb, ◌&&◌, Bool, ℕ, List, [], ◌∷◌}
use Rattle.std.specs.List.{list_all}
use Rattle.std.proofs.lemmas.Iterator.{YieldsList-from_slice}
use Rattle.std.proofs.lemmas.Iterator.Search.{all_from_yields_List}
use Rattle.fields.specs.Parts.{every}
use Rattle.meo.specs.Messages.{zeros}
use Rattle.meo.proofs.all_zero.Goals as goal

-- the library's word for it
all_every : (t : ℕ → Bool) (xs : List ℕ) → list_all t xs ≡ every t xs
unfolding every
all_every t [] = refl
all_every t (x ∷ xs) = ap (λ b. t x && b) (all_every t xs)

pub returns : goal.returns
unfolding zeros
returns c = all_from_yields_List (λ b. eqb b 0) _ _ _ c.all.ensures.ran (YieldsList-from_slice c.args.f.now cc) (λ x b q k. search (rules, tests)) ∙ all_every (λ b. eqb b 0) c.args.f.now
