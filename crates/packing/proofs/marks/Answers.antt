-- `packing::marks` meets its contract: no byte's sum passes 255, so the word's sum has the bytes' sums.
use native.Mathlib.Omega.{arith}
use Rattle.packing.specs.Together.{times, sum_fits, marked_together}
use Rattle.packing.proofs.marks.Goals as goal

pub overflow_mul-result : goal.overflow_mul-result
unfolding times
overflow_mul-result c = omega (arith, sum_fits c.args.more 8 c.args.w (omega arith) c.requires)

pub overflow_add-result : goal.overflow_add-result
unfolding times
overflow_add-result c = omega (arith, sum_fits c.args.more 8 c.args.w (omega arith) c.requires)

pub returns : goal.returns
unfolding times
returns c = marked_together c.args.more 8 c.args.w (omega arith) c.requires
