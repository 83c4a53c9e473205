-- `meo::put_binary` meets its contract.
use Rattle.std.proofs.Common.{◌≡◌, ◌∙◌, suc, ◌+◌, ◌-◌, arith}
use Rattle.fields.specs.Out.{puts}
use Rattle.packing.specs.Words.{row}
use Rattle.meo.proofs.put_binary.Goals as goal

pub loop-preserved : goal.loop-preserved
unfolding puts row
loop-preserved c =
    let n = c.args.width in
    let k : n - c.loop.counter ≡ suc (n - (c.loop.counter + 1)) = omega arith in
    (c.put.ensures.0 ∙ c.loop.invariant.0, rw c.put.ensures.1 (rw k at c.loop.invariant.1))

pub returns : goal.returns
unfolding puts row
returns c = let z : c.args.width - c.loop.counter ≡ 0 = omega arith in (c.loop.invariant.0, rw z at c.loop.invariant.1)
