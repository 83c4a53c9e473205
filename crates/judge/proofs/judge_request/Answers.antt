-- `judge::judge_request` meets its contract: before O it is refused.
use mathlib.Core.Path.{sym, ap, ◌∙◌}
use native.Mathlib.Omega.{arith}
use Rattle.rulebook.proofs.Cases.{judge_ask}
use Rattle.books.specs.View.{rows_of, view}
use Rattle.checks.specs.declared.Refusal.{Refusal}
use Rattle.judge.specs.Verdicts.{verdict_in_rows, refused}
use Rattle.judge.specs.Doors.{is_opened, early_ask}
use Rattle.judge.proofs.judge_request.Goals as goal

pub returns-then-table-eq0 : goal.returns-then-table-eq0
returns-then-table-eq0 c = let m = c.args.table.mem.now in refused (rows_of m) Refusal.NotNow (early_ask m _ (omega (arith, c.if-table-eq0.true)))

pub returns : goal.returns
returns c = let m = c.args.table.mem.now in c.request_verdict.ensures ∙ ap (verdict_in_rows (rows_of m)) (sym (judge_ask (view m) _ (is_opened m (omega (arith, c.if-table-eq0.false)))))
