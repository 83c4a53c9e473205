-- `codec::write_record` meets its contract: the line is put into memory of its own, and handed over from there.
use Rattle.std.specs.Prelude.{replicate}
use Rattle.std.proofs.Common.{◌∙◌}
use Rattle.fields.specs.Puts.{staged_line}
use Rattle.codec.specs.Readings.{letter_of}
use Rattle.codec.specs.Writing.{fields_of}
use Rattle.codec.proofs.write_record.Goals as goal

pub returns : goal.returns
returns c = c.hand_over.ensures ∙ staged_line (letter_of c.args.rec) (fields_of c.args.line.now c.args.rec) (replicate 161 0) _ _ _ c.put_record-count.ensures
