-- `rulings::desks::OwnDesk::block` meets its contract: the traded values stay, and the mark is set.
use Rattle.std.proofs.Math.Logic.{∥∥₁_elim}
use Rattle.std.proofs.Props.{props}
use Rattle.store.specs.Finding.{named_by}
use Rattle.rulings.specs.Granting.{block_granted}
use Rattle.rulings.proofs.desks.OwnDesk.block.Goals as goal

pub returns : goal.returns
returns c = let s = c.args.self in ∥∥₁_elim s.listed (hlevel props) (λ d. block_granted s.table.mem.now (named_by (record { owner = s.owner; name = record { head = 0; middle = 0; tail = 0 } })) s.group d c.args.blocked _ c.tally_at-t.ensures)
