-- A day from a fresh state: its memory says the books of the rulebook's day, and its struck list leaves the same memory and gets the same replies.
use Rattle.std.specs.Prelude.{◌≡◌, true, ℕ, ◌≤◌, length, replicate}
use Rattle.std.proofs.Math.Path.{refl}
use Rattle.std.proofs.Common.{sym, ap, ◌∙◌, subst, le-ltb}
use Rattle.std.proofs.Math.Option.{none}
use mathlib.Core.List.{List, [], ◌∷◌, map, foldl}
use Rattle.laws.specs.Tables.{All}
use Rattle.rulebook.specs.Lines.{Record}
use Rattle.rulebook.specs.Kept.{Books, fresh_books}
use Rattle.rulebook.specs.Judging.{judge}
use Rattle.rulebook.specs.Day.{step, run}
use Rattle.rulebook.proofs.Sums as sums
use Rattle.books.specs.Layout.{least_words, room_of}
use Rattle.books.specs.View.{view}
use Rattle.store.specs.Making.{made_words, fresh_view}
use Rattle.rules.specs.Testing.{state_ok}
use Rattle.rules.specs.Meaning.{exactly}
use Rattle.calls.specs.Calling.{said_by, recorded}
use Rattle.calls.specs.Keeping.{fresh_state}
use Rattle.promises.specs.Day.{Call, lines, Ample, left, Reply, reply, replies, Since, heard, rest, rest_replies, shown, tells}
use Rattle.promises.proofs.Showing.{shows}
use Rattle.promises.proofs.Striking.{Fair, fresh_fair, fair_step}
use Rattle.promises.proofs.Carrying.{all_booked, all_answered, reply_is, left_ok, left_is, replies_are, booked_all, booked_struck, answered_struck, answered_shown, all_told}
use Rattle.promises.proofs.Attempts.{records}

fair_run : (s : Since) (b : Books) → Fair s b → (ls : List (List ℕ)) → Fair (foldl heard s ls) (run b (map said_by ls))
fair_run s b f [] = f
fair_run s b f (l ∷ ls) = fair_run (heard s l) (step b (said_by l)) (fair_step s b f l) ls

pub all_answer : (b : Books) (ls : List (List ℕ)) → All (λ (r : Reply). r.number ≡ 0) (all_answered b ls)
all_answer b [] = tt
all_answer b (l ∷ ls) = (refl, all_answer (step b (said_by l)) ls)

module _ (m : List ℕ) (long : least_words ≤ length m) where
  pub fresh_ok : state_ok (made_words m) ≡ true
  fresh_ok = fresh_state m long

  pub made_is : made_words m ≡ replicate (length m) 0
  unfolding made_words
  made_is = rw (le-ltb (length m) least_words long) refl

  pub fresh_says : view (made_words m) ≡ fresh_books (room_of m)
  fresh_says = ap view made_is ∙ fresh_view (length m)

  fresh_start : Fair none (view (made_words m))
  fresh_start = subst (Fair none) (sym fresh_says) (fresh_fair (room_of m))

  module _ (cs : List Call) (a : Ample cs) where
    pub day_ok : state_ok (left recorded (made_words m) cs) ≡ true
    day_ok = left_ok (made_words m) cs fresh_ok

    -- by the lines alone
    pub memory_is : left recorded (made_words m) cs ≡ all_booked (made_words m) (lines cs)
    memory_is = left_is (made_words m) cs a fresh_ok

    pub replies_is : replies recorded (made_words m) cs ≡ all_answered (view (made_words m)) (lines cs)
    replies_is = replies_are (made_words m) cs a fresh_ok

    pub day_says : view (left recorded (made_words m) cs) ≡ run (fresh_books (room_of m)) (records cs)
    day_says = ap view memory_is ∙ booked_all (made_words m) (lines cs) fresh_ok ∙ ap (λ b. run b (records cs)) fresh_says

    -- what is left of it
    pub same_memory : left recorded (made_words m) cs ≡ all_booked (made_words m) (rest (lines cs))
    same_memory = memory_is ∙ booked_struck none (made_words m) fresh_ok fresh_start (lines cs)

    pub same_replies : rest_replies (replies recorded (made_words m) cs) ≡ all_answered (view (made_words m)) (rest (lines cs))
    same_replies = ap rest_replies replies_is ∙ answered_struck none (view (made_words m)) fresh_start (lines cs)

    pub rest_says : view (left recorded (made_words m) cs) ≡ run (fresh_books (room_of m)) (map said_by (rest (lines cs)))
    rest_says = ap view same_memory ∙ booked_all (made_words m) (rest (lines cs)) fresh_ok ∙ ap (λ b. run b (map said_by (rest (lines cs)))) fresh_says

    pub rest_tells : tells (rest_replies (replies recorded (made_words m) cs)) ≡ sums.tells (fresh_books (room_of m)) (map said_by (rest (lines cs)))
    rest_tells = ap tells same_replies ∙ all_told (view (made_words m)) (rest (lines cs)) ((exactly (made_words m)).0 fresh_ok).sound ∙ ap (λ b. sums.tells b (map said_by (rest (lines cs)))) fresh_says

    pub day_fair : Fair (foldl heard none (lines cs)) (view (left recorded (made_words m) cs))
    day_fair = subst (Fair (foldl heard none (lines cs))) (sym day_says) (fair_run none (fresh_books (room_of m)) (fresh_fair (room_of m)) (lines cs))

    -- what the next call's answer line shows
    pub next_shown : (c : Call) → 32 ≤ length c.buffer → (x : Record) → said_by c.line ≡ x → shown (reply recorded (left recorded (made_words m) cs) c).answer ≡ shows (judge (run (fresh_books (room_of m)) (records cs)) x).answer
    next_shown c h x q = ap (λ (r : Reply). shown r.answer) (reply_is (left recorded (made_words m) cs) c h day_ok) ∙ answered_shown (view (left recorded (made_words m) cs)) c.line ((exactly (left recorded (made_words m) cs)).0 day_ok).sound
        ∙ (λ i. shows (judge (day_says i) (q i)).answer)
