-- When a reading's fields are in their forms.
use Rattle.std.specs.Prelude.{List, ℕ}
use Rattle.laws.specs.Tables.{Each}
use Rattle.rulebook.specs.Lines.{line_of}
use Rattle.fields.specs.Forms.{Says}
use Rattle.codec.specs.Readings.{record_of}
use Rattle.codec.specs.Writing.{fields_of}
use Rattle.codec.specs.declared.Reading.{Reading}

-- a reading whose fields, as they stand in the line beside it, are in their forms
abbrev pub InForm : List ℕ → Reading → Type 0
InForm l r = Each Says (line_of (record_of l r)).fields (fields_of l r)
