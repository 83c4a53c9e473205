-- Document 01, "The day's lines": the forms of fields as tests.
use Rattle.std.specs.Prelude.{Bool, true, ◌&&◌, List, [], ◌∷◌}
use Rattle.rulebook.specs.Names.{ident_of, same_ident}
use Rattle.rulebook.specs.Lines.{Field, text, letter, number, from_to, Record, line_of}
use Rattle.fields.specs.Parts.{takes, has_form}
use Rattle.packing.specs.Words.{unpacked}

-- a packed text has its form if the bytes of its words have it, and pack to these words
unfoldable pub fits : Field → Bool
fits (text least most t x) = has_form (text least most t x) (unpacked x) && same_ident (ident_of (unpacked x)) x
fits (letter set c) = takes (letter set c) c
fits (number low high n) = from_to low high n

unfoldable pub every_fits : List Field → Bool
every_fits [] = true
every_fits (t ∷ ts) = fits t && every_fits ts

-- a record whose fields have their forms
unfoldable pub formed : Record → Bool
formed x = every_fits (line_of x).fields
