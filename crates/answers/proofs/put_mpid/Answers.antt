-- `answers::put_mpid` meets its contract: the word's third byte and its fourth, divided by 256 one time after the other.
use Rattle.std.specs.Prelude.{◌≡◌, ◌/◌}
use Rattle.std.proofs.Common.{rules, arith}
use Rattle.fields.specs.Out.{puts}
use Rattle.answers.proofs.put_mpid.Goals as goal

pub returns : goal.returns
unfolding puts
returns c =
    let w = c.args.w in
    let third : w / 256 / 256 ≡ w / 65536 = omega arith in
    let fourth : w / 65536 / 256 ≡ w / 16777216 = omega arith in
    rw (third, fourth) (search rules)
