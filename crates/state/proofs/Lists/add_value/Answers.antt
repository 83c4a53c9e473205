-- `state::Lists::add_value` meets its contract: the place counts for its owner and its side alone.
use Rattle.std.proofs.Common.{◌≡◌, ℕ, List, Bool, true, false, ◌+◌, sym, ◌∙◌, ap, subst, arith, get_or}
use Rattle.rulebook.specs.Lines.{is_buy}
use Rattle.fields.specs.Series.{side_of}
use Rattle.rules.specs.Passing.{is_order}
use Rattle.rules.specs.Agreeing.{is_order_is}
use Rattle.books.specs.Layout.{side_at, request_start, order_start}
use Rattle.books.specs.View.{rows_of, opens_of}
use Rattle.books.specs.Refining.{Counted}
use Rattle.state.specs.declared.Sides.{Sides}
use Rattle.state.specs.Summing.{Sums, added, passed, Due, Priced, value_at, value_small, value_is, priced, with_value, no_sides, sums_skip, Adding, adding, sums_over, sums_add, side_of_row}
use Rattle.state.proofs.Lists.add_value.Goals as goal

module _ (m : List ℕ) (i : ℕ) {b : ℕ} (at : b ≡ request_start m i) where
  -- the place holds an order exactly where its request is a passed N
  is_held : {h : Bool} → h ≡ is_order m b → opens_of (rows_of m) i ≡ h
  is_held e = sym (e ∙ ap (is_order m) at ∙ is_order_is m i)

  -- the side that its value is added to
  side_at_row : is_buy (side_of (get_or m (b + side_at) 0)) ≡ side_of_row (rows_of m) i
  side_at_row = ap (λ b. is_buy (side_of (get_or m (b + side_at) 0))) at

module _ (m : List ℕ) (i k : ℕ) {o : ℕ} (at : o ≡ order_start m i) (c : Counted m) (d : Due m i k) (h : opens_of (rows_of m) i ≡ true) where
  priced_at : Priced m o
  priced_at = subst (Priced m) (sym at) (priced m i c d.taken d.fine h)

  to_add : {sums : List Sides} {v : ℕ} → Sums (rows_of m) sums i → v ≡ value_at m o → Adding m sums i k v
  to_add {sums} {v} s e = adding m sums i k v c d s h (e ∙ ap (value_at m) at ∙ value_is m i)

pub returns-then-not-opens : goal.returns-then-not-opens
returns-then-not-opens c = let a = c.args in added (sums_skip _ _ _ c.requires.sums (is_held a.self.mem.now a.i c.request_at-b.ensures c.opens.ensures ∙ c.if-not-opens.true))

pub value_of-v-requires : goal.value_of-v-requires
value_of-v-requires c = let a = c.args in
    priced_at a.self.mem.now a.i a.k c.order_at.ensures a.self.listed.counts c.requires.due (is_held a.self.mem.now a.i c.request_at-b.ensures c.opens.ensures ∙ c.if-not-opens.false)

pub with-requires-clause-buys_most : goal.with-requires-clause-buys_most
with-requires-clause-buys_most c = let a = c.args in let r = c.requires in
    omega (arith, r.sums.each a.k true r.due.listed, r.sums.within a.k true r.due.listed)

pub with-requires-clause-sells_most : goal.with-requires-clause-sells_most
with-requires-clause-sells_most c = let a = c.args in let r = c.requires in
    omega (arith, r.sums.each a.k false r.due.listed, r.sums.within a.k false r.due.listed)

pub with-requires-clause-value_most : goal.with-requires-clause-value_most
with-requires-clause-value_most c = let a = c.args in
    let h = is_held a.self.mem.now a.i c.request_at-b.ensures c.opens.ensures ∙ c.if-not-opens.false in
    omega (arith, c.value_of-v.ensures, value_small _ _ (priced_at a.self.mem.now a.i a.k c.order_at.ensures a.self.listed.counts c.requires.due h))

pub returns-in-Some : goal.returns-in-Some
returns-in-Some c = let a = c.args in let r = c.requires in
    let h = is_held a.self.mem.now a.i c.request_at-b.ensures c.opens.ensures ∙ c.if-not-opens.false in
    let w = to_add a.self.mem.now a.i a.k c.order_at.ensures a.self.listed.counts r.due h r.sums c.value_of-v.ensures in
    added (sums_add _ _ _ _ _ w _ (ap (λ b. with_value b c.value_of-v.result (get_or a.sums.now a.k no_sides)) (sym (side_at_row a.self.mem.now a.i c.request_at-b.ensures)) ∙ sym c.in-Some.ensures))

pub returns-in-None : goal.returns-in-None
returns-in-None c = let a = c.args in let r = c.requires in
    let h = is_held a.self.mem.now a.i c.request_at-b.ensures c.opens.ensures ∙ c.if-not-opens.false in
    let w = to_add a.self.mem.now a.i a.k c.order_at.ensures a.self.listed.counts r.due h r.sums c.value_of-v.ensures in
    passed (sums_over _ _ _ _ _ w (ap (λ b. with_value b c.value_of-v.result (get_or a.sums.now a.k no_sides)) (sym (side_at_row a.self.mem.now a.i c.request_at-b.ensures)) ∙ sym c.in-None.ensures))
