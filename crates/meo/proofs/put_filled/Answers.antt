-- `meo::put_filled` meets its contract: the text, then what fills it up.
use Rattle.std.proofs.Common.{◌∙◌}
use Rattle.fields.specs.Puts.{puts_then}
use Rattle.meo.proofs.put_filled.Goals as goal

pub returns : goal.returns
returns c = (c.put_times.ensures.0 ∙ c.put_all.ensures.0, rw (puts_then, ← c.put_all.ensures.1) c.put_times.ensures.1)
