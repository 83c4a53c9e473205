-- A struck request has a first attempt in the day, and its answer line repeats that attempt's.
use Rattle.std.specs.Prelude.{◌≡◌, refl, true, not, ℕ}
use Rattle.std.proofs.Common.{sym, ap, ◌∙◌, subst}
use Rattle.std.proofs.Math.Option.{none, some}
use mathlib.Core.List.{List, [], ◌∷◌, map, map-map, foldl}
use Rattle.std.proofs.lemmas.Bool.{not-true}
use Rattle.laws.specs.Tests.{is_none}
use Rattle.laws.specs.Tables.{part_back}
use Rattle.rulebook.specs.Lines.{Request, Record, ask}
use Rattle.rulebook.specs.Judging.{judge}
use Rattle.rulebook.specs.Kept.{fresh_books}
use Rattle.rulebook.specs.Day as day
use Rattle.rulebook.specs.Day.{Marks, no_marks, noted, marked, run}
use Rattle.rulebook.proofs.Retries.{repeated, struck_request}
use Rattle.calls.specs.Calling.{said_by}
use Rattle.promises.specs.Day.{Call, lines, Since, heard, struck_after, FirstAttempt}
use Rattle.promises.proofs.Striking.{same_line, Agree, agree_heard, struck_same}

-- what the lines of a day mark is what its records mark
abbrev pub records : List Call → List Record
records cs = map said_by (lines cs)

agree_all : (s : Since) (k : Marks) → Agree s k → (ls : List (List ℕ)) → Agree (foldl heard s ls) (foldl noted k (map said_by ls))
agree_all s k a [] = a
agree_all s k a (l ∷ ls) = agree_all (heard s l) (noted k (said_by l)) (agree_heard s k a l) ls

module _ (cs : List Call) where
  day_agrees : Agree (foldl heard none (lines cs)) (marked (records cs))
  day_agrees = agree_all none no_marks refl (lines cs)

  pub struck_record : (l : List ℕ) → struck_after (lines cs) l ≡ day.struck (marked (records cs)) (said_by l)
  struck_record l = struck_same (foldl heard none (lines cs)) (marked (records cs)) day_agrees l

  pub opened_same : (marked (records cs)).opened ≡ not (is_none (foldl heard none (lines cs)))
  opened_same = has_lines (foldl heard none (lines cs)) (marked (records cs)) day_agrees
    where
      has_lines : (s : Since) (k : Marks) → Agree s k → k.opened ≡ not (is_none s)
      has_lines none k a = ap (λ (k : Marks). k.opened) a
      has_lines (some e) k a = a.0

-- THEOREM. A struck request's first attempt, and the verdict that it gets
pub first_attempt : (n : ℕ) (cs : List Call) (l : List ℕ) (r : Request) → said_by l ≡ ask r → struck_after (lines cs) l ≡ true →
    (f : FirstAttempt l cs) × (judge (run (fresh_books n) (records cs)) (ask r) ≡ repeated (judge (run (fresh_books n) (records f.before)) (ask r)).answer)
first_attempt n cs l r q h =
    let s : day.struck (marked (records cs)) (ask r) ≡ true = subst (λ x. day.struck (marked (records cs)) x ≡ true) q (sym (struck_record cs l) ∙ h) in
    let w = struck_request n (records cs) r s in
    let f = w.0 in
    let p = part_back (λ (c : Call). said_by c.line) cs f.before (ask r) f.between (sym (map-map said_by (λ (c : Call). c.line) cs) ∙ f.parts) in
    let i : records p.before ≡ f.before = map-map said_by (λ (c : Call). c.line) p.before ∙ p.images in (
      record {
        before = p.before;
        call = p.at;
        between = p.between;
        parted = p.parted;
        same = same_line p.at.line l r p.image q;
        is_open = not-true _ (sym (opened_same p.before) ∙ ap (λ xs. (marked xs).opened) i ∙ f.is_open);
        is_first = struck_record p.before l ∙ ap (day.struck (marked (records p.before))) q ∙ ap (λ xs. day.struck (marked xs) (ask r)) i ∙ f.is_first;
      },
      w.1 ∙ ap (λ xs. repeated (judge (run (fresh_books n) xs) (ask r)).answer) (sym i),
    )
