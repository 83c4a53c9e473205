-- A day over the public calls is a day of the rulebook: its memory and its answer lines go by the lines alone, and say the books and the answers.
use Rattle.std.specs.Prelude.{◌≡◌, refl, true, cond, ℕ, ◌≤◌, length, drop, take}
use Rattle.std.proofs.Common.{sym, ap, ap₂, ◌∙◌, subst}
use mathlib.Core.List.{List, [], ◌∷◌, map, foldl}
use Prim.Native.Char.{code}
use Rattle.std.proofs.Math.Seq.{take-append_seam}
use Rattle.laws.specs.Tests.{on}
use Rattle.rulebook.specs.Kept.{Books}
use Rattle.rulebook.specs.Judging.{apply, judge}
use Rattle.rulebook.specs.Day.{step, run}
use Rattle.rulebook.specs.Rules.{Sound}
use Rattle.rulebook.proofs.Keeping.{step_sound}
use Rattle.rulebook.proofs.Sums as sums
use Rattle.codec.specs.Readings.{reading}
use Rattle.codec.proofs.Lines.{read_formed}
use Rattle.answers.specs.Answering.{answer_bytes}
use Rattle.answers.specs.Lines.{gate_answer}
use Rattle.books.specs.View.{view}
use Rattle.books.specs.Writing.{write, stores}
use Rattle.books.proofs.Judged.{judged}
use Rattle.books.proofs.Kept.{kept}
use Rattle.rules.specs.Testing.{state_ok}
use Rattle.rules.specs.Meaning.{exactly}
use Rattle.calls.specs.Calling.{said_by, verdict_on, answer_to, Recorded, recorded}
use Rattle.calls.specs.Keeping.{judged_line, state_kept, books_after}
use Rattle.promises.specs.Day.{Call, lines, Ample, after, left, Reply, reply, replies, Since, heard, struck, strike, shown, tells}
use Rattle.promises.proofs.Showing.{shows, answer_shown}
use Rattle.promises.proofs.Striking.{Fair, fair_step, struck_idle}

-- ── one line ──
-- the memory after it, and the reply to it, over books
abbrev pub booked : List ℕ → List ℕ → List ℕ
booked m l = write (verdict_on m l).edit m

abbrev pub answered : Books → List ℕ → Reply
answered b l = let a = (judge b (said_by l)).answer in record { line = l; number = 0; answer = answer_bytes l (reading l) (code a.outcome) a.number a.sent }

module _ (m : List ℕ) (c : Call) (h : 32 ≤ length c.buffer) (e : state_ok m ≡ true) where
  pub after_is : after recorded m c ≡ booked m c.line
  after_is = ap (λ (r : Recorded). r.memory) (judged_line m c.line c.buffer h e)

  pub reply_is : reply recorded m c ≡ answered (view m) c.line
  reply_is = ap (λ (r : Recorded). record { line = c.line; number = r.said.number; answer = take r.said.bytes r.buffer }) (judged_line m c.line c.buffer h e)
      ∙ ap (λ l. record { line = c.line; number = 0; answer = l }) (take-append_seam (answer_to m c.line) (drop (length (answer_to m c.line)) c.buffer))

module _ (m : List ℕ) (e : state_ok m ≡ true) (l : List ℕ) where
  pub booked_ok : state_ok (booked m l) ≡ true
  booked_ok = (exactly (booked m l)).1 (kept m ((exactly m).0 e) (said_by l) (read_formed l))

  pub booked_view : view (booked m l) ≡ step (view m) (said_by l)
  booked_view = judged m ((exactly m).0 e) (said_by l)

-- ── a day ──
abbrev pub all_booked : List ℕ → List (List ℕ) → List ℕ
all_booked m ls = foldl booked m ls

abbrev pub all_answered : Books → List (List ℕ) → List Reply
all_answered b [] = []
all_answered b (l ∷ ls) = answered b l ∷ all_answered (step b (said_by l)) ls

pub left_ok : (m : List ℕ) (cs : List Call) → state_ok m ≡ true → state_ok (left recorded m cs) ≡ true
left_ok m [] e = e
left_ok m (c ∷ cs) e = left_ok (after recorded m c) cs (state_kept m c.line c.buffer e)

pub left_is : (m : List ℕ) (cs : List Call) → Ample cs → state_ok m ≡ true → left recorded m cs ≡ all_booked m (lines cs)
left_is m [] a e = refl
left_is m (c ∷ cs) a e = left_is (after recorded m c) cs a.1 (state_kept m c.line c.buffer e) ∙ ap (λ k. all_booked k (lines cs)) (after_is m c a.0 e)

pub replies_are : (m : List ℕ) (cs : List Call) → Ample cs → state_ok m ≡ true → replies recorded m cs ≡ all_answered (view m) (lines cs)
replies_are m [] a e = refl
replies_are m (c ∷ cs) a e = ap₂ {C = List Reply} ◌∷◌ (reply_is m c a.0 e)
    (replies_are (after recorded m c) cs a.1 (state_kept m c.line c.buffer e) ∙ ap (λ b. all_answered b (lines cs)) (books_after m c.line c.buffer a.0 e))

pub booked_all : (m : List ℕ) (ls : List (List ℕ)) → state_ok m ≡ true → view (all_booked m ls) ≡ run (view m) (map said_by ls)
booked_all m [] e = refl
booked_all m (l ∷ ls) e = booked_all (booked m l) ls (booked_ok m e l) ∙ ap (λ b. run b (map said_by ls)) (booked_view m e l)

-- ── and its struck lines ──
abbrev pub left_over : Since → List (List ℕ) → List (List ℕ)
left_over s ls = strike (λ l. l) s ls

pub struck_booked : (s : Since) (m : List ℕ) → Fair s (view m) → (l : List ℕ) → struck s l ≡ true → booked m l ≡ m
unfolding write stores
struck_booked s m f l h = ap (λ e. write e m) (struck_idle s (view m) f l h)

struck_step : (s : Since) (b : Books) → Fair s b → (l : List ℕ) → struck s l ≡ true → step b (said_by l) ≡ b
unfolding apply
struck_step s b f l h = ap (λ e. apply e b) (struck_idle s b f l h)

pub booked_struck : (s : Since) (m : List ℕ) → state_ok m ≡ true → Fair s (view m) → (ls : List (List ℕ)) → all_booked m ls ≡ all_booked m (left_over s ls)
booked_struck s m e f [] = refl
booked_struck s m e f (l ∷ ls) =
    let k = booked_struck (heard s l) (booked m l) (booked_ok m e l) (subst (Fair (heard s l)) (sym (booked_view m e l)) (fair_step s (view m) f l)) ls in
    on (λ t. all_booked (booked m l) ls ≡ all_booked m (cond t (left_over (heard s l) ls) (l ∷ left_over (heard s l) ls))) (struck s l)
    (λ h. k ∙ ap (λ m. all_booked m (left_over (heard s l) ls)) (struck_booked s m f l h)) (λ h. k)

pub answered_struck : (s : Since) (b : Books) → Fair s b → (ls : List (List ℕ)) → strike (λ (r : Reply). r.line) s (all_answered b ls) ≡ all_answered b (left_over s ls)
answered_struck s b f [] = refl
answered_struck s b f (l ∷ ls) =
    let k = answered_struck (heard s l) (step b (said_by l)) (fair_step s b f l) ls in
    on (λ t. cond t (strike (λ (r : Reply). r.line) (heard s l) (all_answered (step b (said_by l)) ls)) (answered b l ∷ strike (λ (r : Reply). r.line) (heard s l) (all_answered (step b (said_by l)) ls)) ≡
    all_answered b (cond t (left_over (heard s l) ls) (l ∷ left_over (heard s l) ls))) (struck s l)
    (λ h. k ∙ ap (λ b. all_answered b (left_over (heard s l) ls)) (struck_step s b f l h)) (λ h. ap (λ rs. answered b l ∷ rs) k)

-- ── what a day's answer lines show ──
pub answered_shown : (b : Books) (l : List ℕ) → Sound b → shown (answered b l).answer ≡ shows (judge b (said_by l)).answer
answered_shown b l s = answer_shown (said_by l) (judge b (said_by l)).answer (answered b l).answer (gate_answer b l s).0

pub all_told : (b : Books) (ls : List (List ℕ)) → Sound b → tells (all_answered b ls) ≡ sums.tells b (map said_by ls)
all_told b [] s = refl
all_told b (l ∷ ls) s =
    let p = answered_shown b l s in
    let q = all_told (step b (said_by l)) ls (step_sound b (said_by l) s (read_formed l)) in
    λ i. record { line = said_by l; outcome = (p i).outcome; sent = (p i).sent } ∷ q i
