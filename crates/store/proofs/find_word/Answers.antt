-- `store::find_word` meets its contract: no row before begins with the word, and the row that ends the search does.
use Rattle.std.proofs.Common.{sym, arith, eq-eqb}
use Rattle.laws.specs.Numbered.{least_at, least_none}
use Rattle.store.specs.Finding.{first_row}
use Rattle.store.proofs.find_word.Goals as goal

pub returns-then-word-mem : goal.returns-then-word-mem
unfolding first_row
returns-then-word-mem c = sym (least_at _ _ _ (omega arith) c.loop-i.invariant (eq-eqb _ _ c.if-word-mem.true))

pub returns : goal.returns
unfolding first_row
returns c = sym (least_none _ _ (λ j lt. c.loop-i.invariant j (omega arith)))
