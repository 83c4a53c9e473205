-- A day: its records and answers, and what demand 3 strikes from it.
use Rattle.std.specs.Prelude.{Bool, true, false, not, ◌&&◌, cond, ℕ, suc, leb, eqb}
use mathlib.Core.List.{List, [], ◌∷◌, foldl}
use Rattle.laws.specs.Tests.{is_none}
use Rattle.laws.specs.Tables.{find}
use Rattle.rulebook.specs.Lines.{Request, Record, broken, open_day, group, symbol, ask, tell, same_request}
use Rattle.rulebook.specs.Kept.{Books}
use Rattle.rulebook.specs.Outcomes.{Answer}
use Rattle.rulebook.specs.Judging.{apply, judge}

abbrev pub step : Books → Record → Books
step b x = apply (judge b x).edit b

abbrev pub run : Books → List Record → Books
run b xs = foldl step b xs

pub record Entry : Type 0 where
  pub line : Record
  pub answer : Answer

-- the day's records with their answers
abbrev pub log : Books → List Record → List Entry
log b [] = []
log b (x ∷ xs) = record { line = x; answer = (judge b x).answer } ∷ log (step b x) xs

-- ── striking, from the records alone ──
-- whether the day is open, the last number taken, the requests since opening
pub record Marks : Type 0 where
  pub opened : Bool
  pub last : ℕ
  pub seen : List Request

abbrev pub no_marks : Marks
no_marks = record { opened = false; last = 0; seen = [] }

unfoldable pub noted : Marks → Record → Marks
noted m broken = m
noted m (group k t) = m
noted m (symbol k) = m
noted m open_day = record { opened = true; last = m.last; seen = m.seen }
noted m (ask r) = record { opened = m.opened; last = m.last; seen = cond m.opened (r ∷ m.seen) m.seen }
noted m (tell n w) = record { opened = m.opened; last = cond (m.opened && eqb n (suc m.last)) n m.last; seen = m.seen }

abbrev pub marked : List Record → Marks
marked xs = foldl noted no_marks xs

-- "every request identical to an earlier one and every notice whose number was already taken"
unfoldable pub struck : Marks → Record → Bool
struck m broken = false
struck m (group k t) = false
struck m (symbol k) = false
struck m open_day = false
struck m (ask r) = not (is_none (find (λ q. same_request q r) m.seen))
struck m (tell n w) = m.opened && leb n m.last

-- what is left of a list of records, or of anything that has a record
abbrev pub strike : {A : Type 0} → (A → Record) → Marks → List A → List A
strike f m [] = []
strike f m (x ∷ xs) = cond (struck m (f x)) (strike f (noted m (f x)) xs) (x ∷ strike f (noted m (f x)) xs)

abbrev pub rest : List Record → List Record
rest xs = strike (λ x. x) no_marks xs
