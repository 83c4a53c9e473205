-- `judge::request_verdict` meets its contract: the desk is looked up first, and then what the search of the table says.
use mathlib.Core.Path.{refl, ◌∙◌}
use Rattle.books.specs.View.{rows_of}
use Rattle.checks.specs.declared.Refusal.{Refusal}
use Rattle.judge.specs.Verdicts.{refused}
use Rattle.judge.specs.Comparing.{requested}
use Rattle.judge.specs.Doors.{no_desk, at_found, known_at}
use Rattle.judge.proofs.request_verdict.Goals as goal

pub returns-then-group-table : goal.returns-then-group-table
returns-then-group-table c = let m = c.args.table.mem.now in refused (rows_of m) Refusal.NoDesk (no_desk m (requested c.args.request.key c.args.request.deal) _ c.find_group-group.ensures c.if-group-table.true)

pub known_verdict-requires : goal.known_verdict-requires
known_verdict-requires c = known_at c.args.table.mem.now c.requires c.args.request.key _ c.in-At.ensures

pub returns-in-At : goal.returns-in-At
returns-in-At c = c.known_verdict.ensures ∙ at_found c.args.table.mem.now c.requires (requested c.args.request.key c.args.request.deal) c.find_group-group.ensures c.if-group-table.false c.in-At.ensures

pub returns-in-Free : goal.returns-in-Free
returns-in-Free c = c.new_verdict.ensures ∙ at_found c.args.table.mem.now c.requires (requested c.args.request.key c.args.request.deal) c.find_group-group.ensures c.if-group-table.false c.in-Free.ensures

pub returns-in-Full : goal.returns-in-Full
returns-in-Full c = refused (rows_of c.args.table.mem.now) Refusal.TableFull refl ∙ at_found c.args.table.mem.now c.requires (requested c.args.request.key c.args.request.deal) c.find_group-group.ensures c.if-group-table.false c.in-Full.ensures
