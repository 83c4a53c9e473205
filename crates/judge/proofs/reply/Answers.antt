-- `judge::reply` meets its contract: the rulebook's reply changes nothing, whatever the rows.
use mathlib.Core.Path.{sym, ap, ◌∙◌}
use Prim.Native.Nat.{ℕ}
use Rattle.rulebook.specs.Judging.{nothing, reply}
use Rattle.edits.specs.InRows.{edit_in_rows}
use Rattle.judge.specs.Verdicts.{verdict_in_rows, passed_in_rows, reply_in_rows}
use Rattle.judge.proofs.reply.Goals as goal

pub returns-then-number-eq0 : goal.returns-then-number-eq0
unfolding edit_in_rows
returns-then-number-eq0 c = λ S. rw c.if-number-eq0.true at c.give.ensures ∙ passed_in_rows S nothing ∙ ap (λ (n : ℕ). verdict_in_rows S (reply n)) (sym c.if-number-eq0.true)

pub returns : goal.returns
returns c = λ S. c.give-2.ensures ∙ reply_in_rows S c.args.number c.if-number-eq0.false
