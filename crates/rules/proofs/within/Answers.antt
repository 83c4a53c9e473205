-- `rules::within` meets its contract: every word of the slice is tried.
use Rattle.std.specs.Prelude.{◌≡◌, ℕ, zero, suc, ◌+◌, ◌-◌, ◌≤◌, ◌<◌, List, ◌&&◌, nat_le, length, take, drop, get_or, refl}
use Rattle.std.proofs.Common.{◌∙◌, ap, ap₂, add-one, arith, rules, tests, get_or-drop, length-drop}
use Rattle.std.specs.List.{list_all}
use Rattle.std.proofs.lemmas.List.Folds.{list_all_more}
use Rattle.std.proofs.lemmas.Iterator.{YieldsList-from_slice}
use Rattle.std.proofs.lemmas.Iterator.Search.{all_from_yields_List}
use Rattle.laws.specs.Numbered.{every}
use Rattle.rules.specs.Passing.{words_within}
use Rattle.rules.proofs.within.Goals as goal

slice_within : (m : List ℕ) (at n most : ℕ) → at + n ≤ length m → list_all (λ w. nat_le w most) (take n (drop at m)) ≡ words_within m at n most
unfolding words_within every
slice_within m at zero most le = refl
slice_within m at (suc n) most le =
    let lt : n < length (drop at m) = simp length-drop (omega arith) in
    let one : nat_le (get_or (drop at m) n 0) most ≡ nat_le (get_or m (at + n) 0) most = ap (λ w. nat_le w most) (get_or-drop at m n 0) in
    let more = list_all_more (λ w. nat_le w most) (drop at m) n 0 lt in
    rw (← add-one n) (more ∙ ap₂ (λ a b. a && b) (slice_within m at n most (omega arith)) one)

pub returns : goal.returns
returns c =
    let n : c.args.at + c.args.n - c.args.at ≡ c.args.n = omega arith in
    all_from_yields_List (λ w. nat_le w c.args.most) _ _ _ c.all.ensures.ran (YieldsList-from_slice _ c.iter.ensures.rest) (λ x b q k. search (rules, tests))
    ∙ rw n (slice_within c.args.mem.now c.args.at c.args.n c.args.most c.requires)
