-- Document 01, "The day's lines": the bytes of a record's line.
use Rattle.std.specs.Prelude.{ℕ, List, ◌∷◌}
use Rattle.fields.specs.Series.{all_bytes, tails}
use Rattle.codec.specs.Readings.{values_of, letter_of, forms_of}
use Rattle.codec.specs.declared.Reading.{Reading}

-- the line of a record: its reading, with the line that its texts stand in
abbrev pub fields_of : List ℕ → Reading → List (List ℕ)
fields_of l r = all_bytes (forms_of r) l (values_of r)

abbrev pub record_line : List ℕ → Reading → List ℕ
record_line l r = letter_of r ∷ tails (fields_of l r)
