-- `meo::put_times` meets its contract.
use Rattle.std.proofs.Common.{◌≡◌, ◌∙◌, suc, ◌+◌, ◌-◌, arith}
use Rattle.fields.specs.Out.{puts}
use Rattle.meo.proofs.put_times.Goals as goal

pub loop-preserved : goal.loop-preserved
unfolding puts
loop-preserved c =
    let n = c.args.times in
    let k : n - c.loop.counter ≡ suc (n - (c.loop.counter + 1)) = omega arith in
    (c.put.ensures.0 ∙ c.loop.invariant.0, rw c.put.ensures.1 (rw k at c.loop.invariant.1))

pub returns : goal.returns
unfolding puts
returns c = let z : c.args.times - c.loop.counter ≡ 0 = omega arith in (c.loop.invariant.0, rw z at c.loop.invariant.1)
