-- `lines::lent` meets its contract: a line of at most 161 bytes is lent whole.
use Rattle.std.proofs.Common.{◌≡◌, length, sym, ◌∙◌, ⊎_elim, arith, take_all}
use Rattle.fields.specs.Numbers.{below}
use Rattle.lines.proofs.lent.Goals as goal

pub returns : goal.returns
returns c =
    let line = c.args.line.now in
    ⊎_elim (λ h. let e : c.min.result ≡ 161 = omega (arith, c.min.ensures) in rw e)
    (λ h. take_all c.min.result line (omega (arith, c.min.ensures)) ∙ sym (take_all 161 line h))
    (below 161 (length line))
