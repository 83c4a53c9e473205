-- A record judged by the code: its edit, stored, is the rulebook's edit written, and its answer is the rulebook's.
use Rattle.std.specs.Prelude.{◌≡◌, true, List, ℕ, ◌≤◌, length}
use Rattle.std.proofs.Common.{sym, ap, ◌∙◌, subst}
use Rattle.laws.specs.Rows.{run}
use Rattle.rulebook.specs.Judging.{judge}
use Rattle.codec.specs.Readings.{record_of, reading}
use Rattle.codec.specs.declared.Reading.{Reading}
use Rattle.answers.specs.Answering.{answer_bytes}
use Rattle.books.specs.Layout.{layout, room_of}
use Rattle.books.specs.View.{rows_of, view}
use Rattle.books.specs.Writing.{write}
use Rattle.books.proofs.Judged.{judged_apt, valid_counted}
use Rattle.rules.specs.Testing.{state_ok}
use Rattle.rules.specs.Meaning.{exactly}
use Rattle.edits.specs.InRows.{edit_in_rows}
use Rattle.edits.specs.Storing.{edit_stored, Storable, apt_storable, stored_written}
use Rattle.judge.specs.Verdicts.{verdict_in_rows}
use Rattle.judge.specs.declared.Verdict.{Verdict}
use Rattle.calls.specs.Calling.{said_by, verdict_on, answer_to}
use Rattle.calls.specs.Keeping.{answer_written}

-- what a verdict of the code gives: stores that have room and are the rulebook's edit written, and its answer line, of at most 32 bytes
pub record Told (m l : List ℕ) (r : Reading) (w : Verdict) : Type 0 where
  pub storable : Storable (room_of m) m (edit_stored (rows_of m) w.edit)
  pub written : run (layout (room_of m)) (edit_stored (rows_of m) w.edit) m ≡ write (verdict_on m l).edit m
  pub answer : answer_bytes l r w.answer.outcome w.answer.number w.answer.sent ≡ answer_to m l
  pub short : length (answer_bytes l r w.answer.outcome w.answer.number w.answer.sent) ≤ 32

pub told : (m l : List ℕ) → state_ok m ≡ true → (r : Reading) → r ≡ reading l → (w : Verdict) → w ≡ verdict_in_rows (rows_of m) (judge (view m) (record_of l r)) → Told m l r w
unfolding verdict_in_rows
told m l e r q w j =
    let v : w ≡ verdict_in_rows (rows_of m) (verdict_on m l) = j ∙ ap (λ r. verdict_in_rows (rows_of m) (judge (view m) (record_of l r))) q in
    let edit : w.edit ≡ edit_in_rows (rows_of m) (verdict_on m l).edit = ap (λ (w : Verdict). w.edit) v in
    let answer : answer_bytes l r w.answer.outcome w.answer.number w.answer.sent ≡ answer_to m l = λ i. answer_bytes l (q i) (v i).answer.outcome (v i).answer.number (v i).answer.sent in
    record {
      storable = subst (λ e. Storable (room_of m) m (edit_stored (rows_of m) e)) (sym edit) (apt_storable m (valid_counted m ((exactly m).0 e)) (verdict_on m l).edit (judged_apt (view m) (said_by l)));
      written = ap (λ e. run (layout (room_of m)) (edit_stored (rows_of m) e) m) edit ∙ stored_written m (verdict_on m l).edit;
      answer = answer;
      short = subst (λ (cs : List ℕ). length cs ≤ 32) (sym answer) (answer_written m l e).1;
    }
