-- `chains::is_fresh` meets its contract: what the walk from the row's link has passed begins with other words, and at its end it has passed
-- every row before.
use Rattle.std.proofs.Common.{sym, ◌∙◌, arith}
use borrow.Author.Tests.{le-leb, lt-leb}
use Rattle.chains.specs.Chain.{walk_step, walk_met, walk_end}
use Rattle.chains.specs.Words.{begins, same_row, walk_fresh, met_fresh}
use Rattle.chains.proofs.chaining.is_fresh.Goals as goal

pub loop-q-init : goal.loop-q-init
loop-q-init c = rw c.from-q.ensures (walk_fresh _ _ _ _ c.requires.linked)

pub returns-then-same : goal.returns-then-same
unfolding begins same_row
returns-then-same c = sym (lt-leb _ _ (omega (arith, c.loop-q.invariant.below))) ∙ met_fresh _ _ _ _ _ (walk_met c.loop-q.invariant (omega arith) (sym c.same.ensures ∙ c.if-same.true))

pub loop-q-preserved : goal.loop-q-preserved
unfolding begins same_row
loop-q-preserved c = rw c.from-q-in-loop-q.ensures (walk_step c.loop-q.invariant (omega arith) (sym c.same.ensures ∙ c.if-same.false))

pub returns : goal.returns
returns c = sym (le-leb _ _ (omega arith)) ∙ met_fresh _ _ _ _ _ (walk_end c.loop-q.invariant (omega arith))
