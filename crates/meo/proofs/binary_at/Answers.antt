-- `meo::binary_at` meets its contract: at most eight bytes are all packed.
use mathlib.Core.Path.{ap}
use Rattle.rulebook.specs.Names.{word}
use Rattle.meo.specs.Parts.{stretch_whole}
use Rattle.meo.proofs.binary_at.Goals as goal

pub returns : goal.returns
returns c = rw c.pack_number.ensures (ap word (stretch_whole _ _ _ 8 c.requires))
