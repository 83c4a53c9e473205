-- `rulings::news_ruling` meets its contract, kind by kind.
use Rattle.std.proofs.Common.{rules}
use Rattle.books.specs.View.{view}
use Rattle.rulebook.specs.Judging.{news_ruling, fill_ruling, reduction_ruling, refused_ruling}
use Rattle.rulings.specs.Granting.{notice_aside, notice_aimed}
use Rattle.rulings.proofs.news_ruling.Goals as goal

pub returns-in_err-find_target-in-Fill : goal.returns-in_err-find_target-in-Fill
unfolding news_ruling
returns-in_err-find_target-in-Fill c = let aside = notice_aside (λ m. fill_ruling (view m).ledger.orders c.in-Fill.size c.in-Fill.price) c.args.table.mem.now _ _ c.in_err-find_target-in-Fill.ensures.spot in rw c.in-Fill.is (search rules)

pub returns-in_ok-find_target-in-Fill : goal.returns-in_ok-find_target-in-Fill
unfolding news_ruling
returns-in_ok-find_target-in-Fill c = rw c.in-Fill.is (notice_aimed (λ m. fill_ruling (view m).ledger.orders c.in-Fill.size c.in-Fill.price) c.args.table.mem.now _ _ _ _ c.in_ok-find_target-in-Fill.ensures.spot c.in_ok-find_target-in-Fill.ensures.words c.fill.ensures)

pub returns-in_err-find_target-in-Reduction : goal.returns-in_err-find_target-in-Reduction
unfolding news_ruling
returns-in_err-find_target-in-Reduction c = let aside = notice_aside (λ m. reduction_ruling (view m).ledger.orders c.in-Reduction.size) c.args.table.mem.now _ _ c.in_err-find_target-in-Reduction.ensures.spot in rw c.in-Reduction.is (search rules)

pub returns-in_ok-find_target-in-Reduction : goal.returns-in_ok-find_target-in-Reduction
unfolding news_ruling
returns-in_ok-find_target-in-Reduction c = rw c.in-Reduction.is (notice_aimed (λ m. reduction_ruling (view m).ledger.orders c.in-Reduction.size) c.args.table.mem.now _ _ _ _ c.in_ok-find_target-in-Reduction.ensures.spot c.in_ok-find_target-in-Reduction.ensures.words c.reduce.ensures)

pub returns-in_err-find_target-in-CancelRefused : goal.returns-in_err-find_target-in-CancelRefused
unfolding news_ruling
returns-in_err-find_target-in-CancelRefused c = let aside = notice_aside (λ m. refused_ruling) c.args.table.mem.now _ _ c.in_err-find_target-in-CancelRefused.ensures.spot in rw c.in-CancelRefused.is (search rules)

pub returns-in_ok-find_target-in-CancelRefused : goal.returns-in_ok-find_target-in-CancelRefused
unfolding news_ruling
returns-in_ok-find_target-in-CancelRefused c = rw c.in-CancelRefused.is (notice_aimed (λ m. refused_ruling) c.args.table.mem.now _ _ _ _ c.in_ok-find_target-in-CancelRefused.ensures.spot c.in_ok-find_target-in-CancelRefused.ensures.words c.keep.ensures)
