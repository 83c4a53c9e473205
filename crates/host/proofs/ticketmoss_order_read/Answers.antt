-- `host::ticketmoss_order_read` meets its contract: it says what `meo::read` says, and 43 last.
use mathlib.Core.Path.{sym, ◌∙◌}
use Rattle.std.proofs.Common.{rules}
use Rattle.host.proofs.Telling.{order_refused, order_short, order_told}
use Rattle.host.proofs.ticketmoss_order_read.Goals as goal

pub returns-then-words-lt-ORDER-clause-answer : goal.returns-then-words-lt-ORDER-clause-answer
returns-then-words-lt-ORDER-clause-answer c = let e = (order_short c.args.message.now c.args.words.now _ (sym c.in-Ok.ensures) c.if-words-lt-ORDER.true).0 in search rules

pub returns-then-words-lt-ORDER-clause-words : goal.returns-then-words-lt-ORDER-clause-words
returns-then-words-lt-ORDER-clause-words c = (order_short c.args.message.now c.args.words.now _ (sym c.in-Ok.ensures) c.if-words-lt-ORDER.true).1

pub returns-else-words-lt-ORDER : goal.returns-else-words-lt-ORDER
returns-else-words-lt-ORDER c = let t = order_told c.args.message.now c.args.words.now _ (sym c.in-Ok.ensures) c.if-words-lt-ORDER.false in record { answer = t.0; words = c.put_order.ensures ∙ t.1 }

pub returns-in-Err-clause-answer : goal.returns-in-Err-clause-answer
returns-in-Err-clause-answer c = let e = (order_refused c.args.message.now c.args.words.now c.in-Err.why (sym c.in-Err.ensures)).0 in search rules

pub returns-in-Err-clause-words : goal.returns-in-Err-clause-words
returns-in-Err-clause-words c = (order_refused c.args.message.now c.args.words.now c.in-Err.why (sym c.in-Err.ensures)).1
