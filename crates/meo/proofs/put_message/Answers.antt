-- `meo::put_message` meets its contract: what is laid over the house message is the message.
use Rattle.std.proofs.Common.{arith, ap, ◌++◌, drop, length-take, List, ℕ}
use Rattle.std.proofs.Common.{rules}
use Rattle.meo.specs.Laying.{message_long}
use Rattle.meo.proofs.Laying.{message_laid}
use Rattle.meo.proofs.put_message.Goals as goal

pub copy_from_slice-requires : goal.copy_from_slice-requires
copy_from_slice-requires c = let m = message_long _ c.requires.0 in rw length-take (omega (arith, m, c.requires.2))

pub returns : goal.returns
returns c =
    let laid = message_laid c.args.line.now c.args.n c.args.house.now c.args.to.now c.requires.0 c.requires.1 c.requires.2 _ _ _ _ _ _ _ (ap (λ (x : List ℕ). x ++ drop 131 c.args.to.now) c.copy_from_slice.ensures.after) c.put_order.ensures.1 c.put_times.ensures.1 c.put.ensures.1 in
    search (rules, laid)
