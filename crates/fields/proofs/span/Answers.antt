-- `fields::span` meets its contract: the place of the first byte that ends a field, or the end.
use Rattle.std.proofs.Common.{◌≡◌, refl, ℕ, suc, ◌+◌, ◌≤◌, cond, ltb, List, ◌∷◌, [], length, Some, None, unwrap_or, rules, tests, arith}
use Rattle.std.proofs.lemmas.Iterator.{YieldsList-from_slice}
use Rattle.std.proofs.lemmas.Iterator.Search.{position_from_yields_List}
use Rattle.std.proofs.lemmas.List.Recursion.{is_position_or_len}
use Rattle.fields.specs.Parts.{ends, span}
use Rattle.fields.specs.Seams.{span_le}
use Rattle.fields.proofs.span.Goals as goal

or_end : (k n : ℕ) → k ≤ n → unwrap_or (cond (ltb k n) (Some k) None) n ≡ k
or_end k n h = grind (arith, tests)

span_next : (x : ℕ) (xs : List ℕ) → span (x ∷ xs) ≡ cond (ends x) 0 (1 + span xs)
unfolding span
span_next x xs = let e : suc (span xs) ≡ 1 + span xs = omega arith in rw e

span_none : span [] ≡ 0
unfolding span
span_none = refl

pub returns : goal.returns
returns c =
    let rest = c.args.rest.now in
    let by_call = position_from_yields_List ends _ _ c.position.result c.position.ensures.ran (YieldsList-from_slice rest cc) (λ x b q k. search (rules, tests)) in
    let by_spec = is_position_or_len span ends span_none span_next rest in
    let value : c.unwrap_or.result ≡ span rest = rw (c.unwrap_or.ensures, by_call, ← by_spec) (or_end (span rest) (length rest) (span_le rest)) in
    record { value = value; within = omega (arith, value, span_le rest) }
