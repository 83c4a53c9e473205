-- `meo::order_at` meets its contract: each field is read where the table has it.
use mathlib.Core.Path.{ap}
use native.Mathlib.Omega.{arith}
use Rattle.meo.specs.Messages.{text_width, order_at}
use Rattle.meo.specs.Laying.{text_width_most}
use Rattle.meo.proofs.order_at.Goals as goal

pub overflow_add-result : goal.overflow_add-result
overflow_add-result c = omega (arith, c.text_width.ensures, ap text_width c.part-text.ensures, text_width_most c.args.m.now 14 34)

pub returns : goal.returns
unfolding order_at
returns c = rw (c.binary_at-3.ensures, c.binary_at-2.ensures, c.side_with.ensures, c.binary_at.ensures, c.text_width.ensures, c.binary_at-bits.ensures, c.part-text.ensures)
