-- `judge::notice_verdict` meets its contract: its number is held against the last.
use mathlib.Core.Path.{sym, ap, ◌∙◌}
use Rattle.books.specs.View.{rows_of}
use Rattle.checks.specs.declared.Refusal.{Refusal}
use Rattle.rulings.specs.Rulings.{news_said}
use Rattle.judge.specs.Verdicts.{verdict_in_rows, seen_in_rows, refused}
use Rattle.judge.specs.Doors.{notice_old, notice_far, notice_next}
use Rattle.judge.proofs.notice_verdict.Goals as goal

pub returns-then-number-last : goal.returns-then-number-last
returns-then-number-last c = let m = c.args.table.mem.now in c.give.ensures ∙ seen_in_rows (rows_of m) ∙ ap (verdict_in_rows (rows_of m)) (sym (notice_old m c.args.notice.number (news_said c.args.notice.news) c.if-number-last.true))

pub returns-then-number-last-2 : goal.returns-then-number-last-2
returns-then-number-last-2 c = let m = c.args.table.mem.now in refused (rows_of m) Refusal.TooEarly (notice_far m c.args.notice.number (news_said c.args.notice.news) c.if-number-last-2.true)

pub returns : goal.returns
returns c = let m = c.args.table.mem.now in c.next_verdict.ensures ∙ ap (verdict_in_rows (rows_of m)) (sym (notice_next m c.args.notice.number (news_said c.args.notice.news) c.if-number-last.false c.if-number-last-2.false))
