-- `rulings::deal_ruling` meets its contract, kind by kind.
use Rattle.std.proofs.Common.{rules}
use Rattle.books.specs.View.{view}
use Rattle.rulebook.specs.Judging.{deal_ruling, change_ruling, cancel_ruling}
use Rattle.rulings.specs.Granting.{own_aside, own_aimed}
use Rattle.rulings.proofs.deal_ruling.Goals as goal

pub returns-in_err-order-in-Change : goal.returns-in_err-order-in-Change
unfolding deal_ruling
returns-in_err-order-in-Change c = let aside = own_aside (λ m g. change_ruling (view m).ledger g c.in-Change.size c.in-Change.price) c.args.table.mem.now _ c.args.group _ c.in_err-order-in-Change.ensures.spot in rw c.in-Change.is (search rules)

pub returns-in_ok-order-in-Change : goal.returns-in_ok-order-in-Change
unfolding deal_ruling
returns-in_ok-order-in-Change c = rw c.in-Change.is (own_aimed (λ m g. change_ruling (view m).ledger g c.in-Change.size c.in-Change.price) c.args.table.mem.now _ c.args.group _ _ _ c.in_ok-order-in-Change.ensures.spot c.in_ok-order-in-Change.ensures.words c.change.ensures)

pub returns-in_err-order-in-Cancel : goal.returns-in_err-order-in-Cancel
unfolding deal_ruling
returns-in_err-order-in-Cancel c = let aside = own_aside (λ m g. cancel_ruling) c.args.table.mem.now _ c.args.group _ c.in_err-order-in-Cancel.ensures.spot in rw c.in-Cancel.is (search rules)

pub returns-in_ok-order-in-Cancel : goal.returns-in_ok-order-in-Cancel
unfolding deal_ruling
returns-in_ok-order-in-Cancel c = rw c.in-Cancel.is (own_aimed (λ m g. cancel_ruling) c.args.table.mem.now _ c.args.group _ _ _ c.in_ok-order-in-Cancel.ensures.spot c.in_ok-order-in-Cancel.ensures.words c.cancel.ensures)
