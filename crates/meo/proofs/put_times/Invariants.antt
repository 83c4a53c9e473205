use Rattle.std.proofs.Common.{◌≡◌, ◌-◌, replicate}
use Rattle.fields.specs.Out.{puts, cursor}
use Rattle.meo.proofs.put_times.Given as goal

-- the rest, put from here, makes what the whole makes
abbrev pub invariant-loop : goal.invariant-loop
invariant-loop l = (l.to.to.ghost_name ≡ l.initial.to.to.ghost_name) × (puts (cursor l.to) (replicate (l.times - l.counter) l.b) ≡ puts (cursor l.initial.to) (replicate l.times l.b))
