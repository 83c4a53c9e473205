-- `judge::judge_notice` meets its contract: before O it is refused.
use mathlib.Core.Path.{sym, ap, ◌∙◌}
use native.Mathlib.Omega.{arith}
use Rattle.rulebook.proofs.Cases.{judge_tell}
use Rattle.books.specs.View.{rows_of, view}
use Rattle.checks.specs.declared.Refusal.{Refusal}
use Rattle.rulings.specs.Rulings.{news_said}
use Rattle.judge.specs.Verdicts.{verdict_in_rows, refused}
use Rattle.judge.specs.Doors.{is_opened, early_tell}
use Rattle.judge.proofs.judge_notice.Goals as goal

pub returns-then-table-eq0 : goal.returns-then-table-eq0
returns-then-table-eq0 c = let m = c.args.table.mem.now in refused (rows_of m) Refusal.NotNow (early_tell m c.args.notice.number (news_said c.args.notice.news) (omega (arith, c.if-table-eq0.true)))

pub returns : goal.returns
returns c = let m = c.args.table.mem.now in c.notice_verdict.ensures ∙ ap (verdict_in_rows (rows_of m)) (sym (judge_tell (view m) c.args.notice.number (news_said c.args.notice.news) (is_opened m (omega (arith, c.if-table-eq0.false)))))
