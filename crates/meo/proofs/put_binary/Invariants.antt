use Rattle.std.proofs.Common.{◌≡◌, ◌-◌}
use Rattle.fields.specs.Out.{puts, cursor}
use Rattle.packing.specs.Words.{row}
use Rattle.meo.proofs.put_binary.Given as goal

-- the rest, put from here, makes what the whole makes
abbrev pub invariant-loop : goal.invariant-loop
invariant-loop l = (l.to.to.ghost_name ≡ l.initial.to.to.ghost_name) × (puts (cursor l.to) (row (l.width - l.counter) l.left) ≡ puts (cursor l.initial.to) (row l.width l.n))
