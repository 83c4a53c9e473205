-- `calls::judge_line` meets its contract: the verdict's edit is stored, and its answer line has room.
use mathlib.Core.Path.{sym, ◌∙◌, subst}
use Rattle.codec.specs.Lines.{InForm}
use Rattle.codec.proofs.Lines.{read_in_form}
use Rattle.books.proofs.Judged.{valid_counted}
use Rattle.rules.specs.Meaning.{exactly}
use Rattle.edits.specs.Storing.{valid_last}
use Rattle.fields.specs.Out.{begun}
use Rattle.calls.specs.Calling.{bytes_said, wrote, record_left}
use Rattle.calls.specs.Keeping.{line_begun, line_count, is_written, judged_line}
use Rattle.calls.specs.Recording.{told}
use Rattle.calls.proofs.judge_line.Goals as goal

pub invariant_of-judge-clause-counted : goal.invariant_of-judge-clause-counted
invariant_of-judge-clause-counted c = valid_counted c.args.mem.now ((exactly c.args.mem.now).0 c.requires.mem_value)

pub judge-verdict-requires-clause-valid : goal.judge-verdict-requires-clause-valid
judge-verdict-requires-clause-valid c = (exactly c.args.mem.now).0 c.requires.mem_value

pub judge-verdict-requires-clause-in_form : goal.judge-verdict-requires-clause-in_form
judge-verdict-requires-clause-in_form c = subst (InForm c.args.line.now) (sym c.read-rec.ensures) (read_in_form c.args.line.now)

pub write_edit-requires-clause-storable : goal.write_edit-requires-clause-storable
write_edit-requires-clause-storable c = (told c.args.mem.now c.args.line.now c.requires.mem_value _ c.read-rec.ensures _ c.judge-verdict.ensures).storable

pub write_edit-requires-clause-last_at_bound : goal.write_edit-requires-clause-last_at_bound
write_edit-requires-clause-last_at_bound c = valid_last c.args.mem.now ((exactly c.args.mem.now).0 c.requires.mem_value)

pub unwrap-requires : goal.unwrap-requires
unwrap-requires c = let t = told c.args.mem.now c.args.line.now c.requires.mem_value _ c.read-rec.ensures _ c.judge-verdict.ensures in is_written _ _ _ _ _ c.write_answer.ensures (t.short, c.requires.in_bounds)

pub returns : goal.returns
returns c =
    let t = told c.args.mem.now c.args.line.now c.requires.mem_value _ c.read-rec.ensures _ c.judge-verdict.ensures in
    let bytes = line_count _ _ _ _ _ c.write_answer.ensures (t.short, c.requires.in_bounds) _ c.unwrap.ensures in
    let buffer = line_begun _ _ _ _ _ c.write_answer.ensures (t.short, c.requires.in_bounds) in
    (λ j. record_left (bytes_said (bytes j)) (c.write_edit.ensures j) (buffer j))
    ∙ (λ j. record_left (wrote (t.answer j)) (t.written j) (begun (t.answer j) c.args.to.now)) ∙ sym (judged_line c.args.mem.now c.args.line.now c.args.to.now c.requires.in_bounds c.requires.mem_value)
