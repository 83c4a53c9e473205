-- Document 01's sample day as bytes, and lines that break a form, computed from the definitions.
use Rattle.std.specs.Prelude.{◌≡◌, refl, cond, List, [], ◌∷◌, ◌++◌, map, ℕ, eqb}
use Prim.Native.String.{String}
use Rattle.rulebook.specs.Names.{bytes, word}
use Rattle.rulebook.proofs.Examples.{sample}
use Rattle.fields.specs.Digits.{digit_step, number_of}
use Rattle.fields.specs.Parts.{stretch, span, field_at, every, has_form, end_at, ended}
use Rattle.codec.specs.Readings.{record_of, form_number, read_as, read_line, reading}

-- "Tabs are shown as spaces": a line as the paper prints it
abbrev pub printed : String → List ℕ
printed s = map (λ c. cond (eqb c 32) 9 c) (bytes s) ++ (10 ∷ [])

unfoldable pub computing : Unit {0}
unfolding word digit_step number_of stretch span field_at every has_form end_at ended read_as read_line reading
computing = tt

abbrev pub sample_lines : List (List ℕ)
sample_lines = map printed (
    "G ABCD 5000000000 5000000000 2000000000 2000000000 6000000000 6000000000 25000 N"
    ∷ "S 7"
    ∷ "O"
    ∷ "Q 1 7 9990000 10000000"
    ∷ "N T1 ABCD 7 B 100 10000000"
    ∷ "N T1 ABCD 7 B 100 10000000"
    ∷ "N T1 ABCD 7 B 200 10000000"
    ∷ "N T2 ABCD 7 B 101 10000000"
    ∷ "F 2 ABCD T1 40 9990000"
    ∷ "F 2 ABCD T1 40 9990000"
    ∷ "N T2 ABCD 7 B 101 10000000"
    ∷ "D 4 ABCD T1 60"
    ∷ "C T3 ABCD T1"
    ∷ "D 3 ABCD T1 60"
    ∷ "M T4 ABCD T1 100 10000000"
    ∷ []
    )

-- THEOREM. The lines of document 01's day are read as its records
pub sample_read : map (λ l. record_of l (reading l)) sample_lines ≡ sample
unfolding computing sample
sample_read = refl

-- THEOREM. These break a form
pub broken_lines : map (λ s. form_number (reading (printed s))) (
    ""
    ∷ "O "
    ∷ "S"
    ∷ "S 0"
    ∷ "S 07"
    ∷ "S 4294967296"
    ∷ "S 7 7"
    ∷ "B T|1 ABCD"
    ∷ "B T1 ABcD"
    ∷ "D 3 ABCD T1 1000001"
    ∷ []
    ) ≡ 1 ∷ 1 ∷ 1 ∷ 1 ∷ 1 ∷ 1 ∷ 1 ∷ 1 ∷ 1 ∷ 1 ∷ []
unfolding computing
broken_lines = refl
