-- Document 01's day over the public calls, byte for byte.
use Rattle.std.specs.Prelude.{◌≡◌, refl, true, List, [], ◌∷◌, map, ℕ, ◌+◌, ◌*◌, ◌≤◌, length}
use Rattle.std.proofs.Common.{sym, ◌∙◌, subst, arith}
use Rattle.std.proofs.Math.Path.{ap}
use Rattle.std.proofs.Math.Option
use Rattle.std.proofs.Math.Option.{Option, none, some, none-ne-some, some-injective}
use Rattle.std.proofs.Math.ListN.{get_elem?}
use Rattle.laws.specs.Tests.{opt}
use Rattle.rulebook.specs.Kept.{Group, Books, fresh_books, tally}
use Rattle.rulebook.specs.Day as day
use Rattle.rulebook.specs.Day.{run, no_marks, noted}
use Rattle.rulebook.proofs.Examples.{judging}
use Rattle.fields.specs.Digits.{digits, digits_in}
use Rattle.fields.specs.Series.{tails}
use Rattle.codec.proofs.Examples.{printed, computing, sample_lines}
use Rattle.answers.specs.Answering.{closing_bytes}
use Rattle.books.specs.Layout.{least_words, place_words, room_for, room_of}
use Rattle.books.specs.View.{view}
use Rattle.store.specs.Making.{made_words}
use Rattle.rules.specs.Testing.{state_ok}
use Rattle.calls.specs.Calling.{said_by, closing_of, group_at, recorded}
use Rattle.promises.specs.Day.{Call, lines, Ample, left, Reply, replies, sheet, rest}
use Rattle.promises.proofs.Striking.{strike_same}
use Rattle.promises.proofs.Carrying.{all_answered}
use Rattle.promises.proofs.Attempts.{records}
use Rattle.promises.proofs.Closing.{sheet_some}
use Rattle.promises.proofs.Fresh.{day_ok, day_says, replies_is, fresh_says}

-- "Tabs are shown as spaces": the answers that the paper prints
abbrev pub sample_answers : List (List ℕ)
sample_answers = map printed (
    "G ABCD P 0 0"
    ∷ "S 7 P 0 0"
    ∷ "O - P 0 0"
    ∷ "Q 1 K 0 0"
    ∷ "N T1 P 0 1"
    ∷ "N T1 P 0 0"
    ∷ "N T1 R 6 0"
    ∷ "N T2 R 33 0"
    ∷ "F 2 K 0 0"
    ∷ "F 2 S 0 0"
    ∷ "N T2 R 33 0"
    ∷ "D 4 R 18 0"
    ∷ "C T3 P 0 1"
    ∷ "D 3 K 0 0"
    ∷ "M T4 R 9 0"
    ∷ []
    )

-- THEOREM. The second attempts of T1 and T2 and the second F 2 are struck, and no other line
pub sample_rest : rest sample_lines ≡ map printed (
    "G ABCD 5000000000 5000000000 2000000000 2000000000 6000000000 6000000000 25000 N"
    ∷ "S 7"
    ∷ "O"
    ∷ "Q 1 7 9990000 10000000"
    ∷ "N T1 ABCD 7 B 100 10000000"
    ∷ "N T1 ABCD 7 B 200 10000000"
    ∷ "N T2 ABCD 7 B 101 10000000"
    ∷ "F 2 ABCD T1 40 9990000"
    ∷ "D 4 ABCD T1 60"
    ∷ "C T3 ABCD T1"
    ∷ "D 3 ABCD T1 60"
    ∷ "M T4 ABCD T1 100 10000000"
    ∷ []
    )
unfolding computing judging day.struck noted
sample_rest = strike_same (λ l. l) none no_marks refl sample_lines

-- the program's memory: 400 places
abbrev pub words_of_400 : ℕ
words_of_400 = least_words + 400 * place_words

room_of_400 : room_for words_of_400 ≡ 400
unfolding room_for
room_of_400 = refl

-- the bytes of the closing line at a place, by the books
abbrev closing_at : Books → ℕ → Option (List ℕ)
closing_at b i = Option.map (λ (g : Group). let t = tally g b.ledger.orders in closing_bytes g.mpid.code t.tb t.ts t.ob t.os g.blocked) (get_elem? b.ledger.groups i)

sheet_at : (m : List ℕ) (i : ℕ) (b l : List ℕ) → 96 ≤ length b → state_ok m ≡ true → closing_at (view m) i ≡ some l → sheet m i b ≡ record { number = 0; line = l }
sheet_at m i b l h e q = opt (λ o. group_at m i ≡ o → Option.map (closing_of m) o ≡ some l → sheet m i b ≡ record { number = 0; line = l }) (group_at m i)
    (λ z p r. absurd (none-ne-some l r)) (λ g z p r. sheet_some m i b h e g p ∙ ap (λ l. record { number = 0; line = l }) (some-injective (closing_of m g) l r)) refl q

module _ (m : List ℕ) (size : length m ≡ words_of_400) where
  pub enough : least_words ≤ length m
  enough = subst (λ n. least_words ≤ n) (sym size) (omega arith)

  pub room : room_of m ≡ 400
  room = ap room_for size ∙ room_of_400

  pub says_400 : (cs : List Call) → Ample cs → view (left recorded (made_words m) cs) ≡ run (fresh_books 400) (records cs)
  says_400 cs a = day_says m enough cs a ∙ ap (λ n. run (fresh_books n) (records cs)) room

  module _ (cs : List Call) (a : Ample cs) (e : lines cs ≡ sample_lines) where
    -- THEOREM. Document 01's day gets document 01's answer lines
    pub sample_day : map (λ (r : Reply). r.answer) (replies recorded (made_words m) cs) ≡ sample_answers
    unfolding computing judging tails digits digits_in
    sample_day = ap (map (λ (r : Reply). r.answer)) (replies_is m enough cs a ∙ (λ i. all_answered ((fresh_says m enough ∙ ap fresh_books room) i) (e i)))

    -- THEOREM. and its closing line
    pub sample_sheet : (b : List ℕ) → 96 ≤ length b → sheet (left recorded (made_words m) cs) 0 b ≡ record { number = 0; line = printed "E ABCD 399600000 0 0 0 N" }
    unfolding computing judging tails digits digits_in
    sample_sheet b h = sheet_at (left recorded (made_words m) cs) 0 b _ h (day_ok m enough cs a) (ap (λ x. closing_at x 0) (says_400 cs a ∙ ap (λ ls. run (fresh_books 400) (map said_by ls)) e))
