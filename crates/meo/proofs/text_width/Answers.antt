-- `meo::text_width` meets its contract.
use Rattle.std.proofs.Common.{rules, tests, ◌≡◌, ◌∙◌, refl, sym, ap, eqb, cond, ltb, ◌≤◌, length, ℕ, arith}
use Rattle.std.specs.Prelude.{Some, None}
use Rattle.std.specs.Option.{unwrap_or}
use Rattle.std.specs.List.{position_or_len}
use Rattle.std.proofs.Common.{ltb-false}
use Rattle.std.proofs.lemmas.Iterator.{YieldsList-from_slice}
use Rattle.std.proofs.lemmas.Iterator.Search.{position_from_yields_List}
use Rattle.std.proofs.lemmas.List.Sums.{prefix_len-le-length}
use Rattle.std.proofs.lemmas.List.Recursion.{is_position_or_len}
use Rattle.laws.specs.Tests.{on}
use Rattle.meo.specs.Messages.{text_width}
use Rattle.meo.proofs.text_width.Goals as goal

or_length : (n k : ℕ) → k ≤ n → unwrap_or (cond (ltb k n) (Some k) None) n ≡ k
or_length n k h = on (λ t. ltb k n ≡ t → unwrap_or (cond t (Some k) None) n ≡ k) (ltb k n) (λ z e. refl) (λ z e. omega (arith, ltb-false k n e, h)) refl

pub returns : goal.returns
unfolding text_width
returns c =
    c.unwrap_or.ensures
    ∙ ap (λ o. unwrap_or o (length c.args.f.now)) (position_from_yields_List (λ b. eqb b 0) _ _ _ c.position.ensures.ran (YieldsList-from_slice c.args.f.now cc) (λ x b q k. search (rules, tests)))
    ∙ or_length (length c.args.f.now) (position_or_len (λ b. eqb b 0) c.args.f.now) (prefix_len-le-length _ c.args.f.now)
    ∙ sym (is_position_or_len text_width (λ b. eqb b 0) refl (λ x xs. ap (λ (n : ℕ). cond (eqb x 0) 0 n) (omega arith)) c.args.f.now)
