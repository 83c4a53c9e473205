-- `meo::put_order` meets its contract: the texts, then the numbers.
use Rattle.std.proofs.Common.{◌∙◌}
use Rattle.fields.specs.Out.{cursor}
use Rattle.meo.specs.Messages.{order_said}
use Rattle.meo.specs.Laying.{own_puts}
use Rattle.meo.proofs.put_order.Goals as goal

pub returns : goal.returns
returns c = (c.put_numbers.ensures.0 ∙ c.put_texts.ensures.0, rw (← own_puts (cursor c.args.to.now) c.args.house.now (order_said c.args.line.now c.args.n), ← c.instructions_of.ensures, ← c.put_texts.ensures.1) c.put_numbers.ensures.1)
