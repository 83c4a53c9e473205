-- `judge::known_verdict` meets its contract: a place's words are its request, so the same words are the same request.
use mathlib.Core.Path.{sym, ap, ◌∙◌}
use native.Mathlib.Omega.{arith}
use Rattle.books.specs.View.{rows_of}
use Rattle.books.proofs.Judged.{valid_counted}
use Rattle.checks.specs.declared.Refusal.{Refusal}
use Rattle.judge.specs.Verdicts.{verdict_in_rows, refused}
use Rattle.judge.specs.Comparing.{known_row, retried, differs}
use Rattle.judge.proofs.known_verdict.Goals as goal

pub request_at-b-requires : goal.request_at-b-requires
request_at-b-requires c = let v = valid_counted _ c.requires.valid in record { counted = v; i_bound = omega (arith, c.requires.placed) }

pub same_asking-requires : goal.same_asking-requires
same_asking-requires c = known_row c.args.mem.now c.args.request.key c.args.i _ c.requires c.request_at-b.ensures

pub bounds-mem-b : goal.bounds-mem-b
bounds-mem-b c = omega (arith, known_row c.args.mem.now c.args.request.key c.args.i _ c.requires c.request_at-b.ensures)

pub returns-then-same_asking : goal.returns-then-same_asking
returns-then-same_asking c = let m = c.args.mem.now in c.reply.ensures (rows_of m) ∙ ap (verdict_in_rows (rows_of m)) (retried m c.args.request.key c.args.request.deal c.args.i _ _ c.requires c.request_at-b.ensures c.asking_of.ensures (sym c.same_asking.ensures ∙ c.if-same_asking.true))

pub returns : goal.returns
returns c = let m = c.args.mem.now in refused (rows_of m) Refusal.OtherInstruction (sym (differs m c.args.request.key c.args.request.deal c.args.i _ _ c.requires c.request_at-b.ensures c.asking_of.ensures (sym c.same_asking.ensures ∙ c.if-same_asking.false)))
