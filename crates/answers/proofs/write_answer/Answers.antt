-- `answers::write_answer` meets its contract: the line is put into memory of its own, and handed over from there.
use Rattle.std.specs.Prelude.{replicate}
use Rattle.std.proofs.Common.{◌∙◌}
use Rattle.fields.specs.Puts.{staged_line}
use Rattle.codec.specs.Readings.{letter_of}
use Rattle.answers.specs.Answering.{answer_fields}
use Rattle.answers.proofs.write_answer.Goals as goal

pub returns : goal.returns
returns c = let a = c.args.answer in c.hand_over.ensures ∙ staged_line (letter_of c.args.rec) (answer_fields c.args.line.now c.args.rec a.outcome a.number a.sent) (replicate 32 0) _ _ _ c.put_answer-count.ensures
