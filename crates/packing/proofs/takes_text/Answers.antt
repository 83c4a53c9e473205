-- `packing::takes_text` meets its contract: the bits say of each byte whether it is an identifier's.
use mathlib.Core.Path.{sym, ◌∙◌}
use native.Mathlib.Omega.{arith}
use Rattle.packing.specs.Together.{untold, told}
use Rattle.packing.proofs.takes_text.Goals as goal

pub returns-then-marks-ne0 : goal.returns-then-marks-ne0
returns-then-marks-ne0 c = untold 8 c.args.w (λ t. c.if-marks-ne0.true (c.marks.ensures ∙ t.low))

pub returns-then-marks-ne0-2 : goal.returns-then-marks-ne0-2
returns-then-marks-ne0-2 c = untold 8 c.args.w (λ t. c.if-marks-ne0-2.true (c.marks-2.ensures ∙ t.most))

pub returns-then-some-marks : goal.returns-then-some-marks
returns-then-some-marks c = untold 8 c.args.w (λ t. c.if-some-marks.true (c.marks-some.ensures ∙ t.least ∙ sym c.marks-3.ensures))

pub returns-then-next-some : goal.returns-then-next-some
returns-then-next-some c = untold 8 c.args.w (λ t. c.if-next-some.true (rw c.marks-some.ensures t.joined))

pub returns : goal.returns
returns c = rw (c.marks-4.ensures, c.marks-5.ensures) (told 8 c.args.w (omega arith) (λ o. record { low = sym c.marks.ensures ∙ c.if-marks-ne0.false; most = sym c.marks-2.ensures ∙ c.if-marks-ne0-2.false; least = sym c.marks-some.ensures ∙ c.if-some-marks.false ∙ c.marks-3.ensures; joined = rw c.marks-some.ensures at c.if-next-some.false; other = o }))
