-- The doors of a record: what opens the day or keeps it shut, the door of a request and that of a notice, by the rows of the lent words.
use Rattle.std.specs.Prelude.{◌≡◌, true, false, List, ℕ, suc, ◌+◌, ◌≤◌, ◌<◌, leb, eqb, length, Ok, Err}
use Rattle.std.proofs.Math.Path.{refl, ap}
use Rattle.std.proofs.Common.{sym, ◌∙◌, subst, arith, ne_eqb}
use Rattle.std.proofs.Math.Bool.{cond}
use Rattle.std.proofs.Math.Option.{Option, Option-elim}
use Prim.Native.Char.{code}
use borrow.Author.Tests.{lt-ltb, le-ltb, le-leb, lt-leb}
use Rattle.laws.specs.Tables.{look, look_key}
use Rattle.laws.specs.Checks.{first}
use Rattle.laws.specs.Numbered.{numbered, length_numbered}
use Rattle.laws.specs.Rows.{Sheet}
use Rattle.rulebook.specs.Lines.{Request, News, Record, open_day, ask, tell, same_request}
use Rattle.rulebook.specs.Kept.{Asked, by_request}
use Rattle.rulebook.specs.Judging as judging
use Rattle.rulebook.specs.Judging.{opened, remembered, taken, Verdict, messages, reply, remember, see, book, deal_ruling, news_ruling, judge_request, judge_notice, judge}
use Rattle.rulebook.specs.Cases.{pass}
use Rattle.books.specs.Layout.{room_of, opened_at, last_at, groups_at, places_at}
use Rattle.books.specs.View.{head_in, group_of, asked_of, books_in, rows_of, view}
use Rattle.books.specs.Writing.{group_index}
use Rattle.books.specs.Rules.{Valid}
use Rattle.store.specs.Finding.{named_by, found_place, found_cases}
use Rattle.store.specs.declared.Key.{Key as KeyWords}
use Rattle.store.specs.declared.Found.{Found}
use Rattle.store.specs.declared.Found.TheVariants.{At, Free, Full}
use Rattle.checks.specs.Refusing.{number_of}
use Rattle.checks.specs.declared.Refusal.{Refusal}
use Rattle.checks.proofs.Refusing.{never_0}
use Rattle.edits.specs.InRows.{asking_words, edit_in_rows}
use Rattle.edits.specs.declared.Deed.{Deed}
use Rattle.edits.specs.declared.Edit.{Edit}
use Rattle.rulings.specs.Looking.{group_looked, row_missing}
use Rattle.rulings.specs.Rulings.{deal_said, idle_words, Ruled, ruled, ruling_in_rows}
use Rattle.rulings.specs.Standing.{Desk, desk_looked}
use Rattle.rulings.specs.declared.Deal.{Deal as DealWords}
use Rattle.judge.specs.Comparing.{Known, requested, compared}
use Rattle.judge.specs.Verdicts.{verdict_in_rows, given, answered, answered_in_rows, answered_bad}

module _ (m : List ℕ) where
  abbrev S : Sheet
  S = rows_of m

  -- ── the day ──
  pub is_opened : 0 < head_in S opened_at → (view m).opened ≡ true
  unfolding books_in
  is_opened h = lt-ltb 0 (head_in S opened_at) h

  pub not_opened : head_in S opened_at ≤ 0 → (view m).opened ≡ false
  unfolding books_in
  not_opened h = le-ltb 0 (head_in S opened_at) h

  pub early_ask : (r : Request) → head_in S opened_at ≤ 0 → judge (view m) (ask r) ≡ reply 2
  unfolding judge
  early_ask r h = rw (not_opened h) refl

  pub early_tell : (n : ℕ) (w : News) → head_in S opened_at ≤ 0 → judge (view m) (tell n w) ≡ reply 2
  unfolding judge
  early_tell n w h = rw (not_opened h) refl

  -- the verdict on a record that is the same
  pub on_record : (x y : Record) → x ≡ y → verdict_in_rows S (judge (view m) x) ≡ verdict_in_rows S (judge (view m) y)
  on_record x y e = ap (λ (x : Record). verdict_in_rows S (judge (view m) x)) e

  pub open_late : 0 < head_in S opened_at → judge (view m) open_day ≡ reply 2
  unfolding judge first
  open_late h = rw (is_opened h) refl

  pub open_first : head_in S opened_at ≤ 0 → judge (view m) open_day ≡ pass opened
  unfolding judge first
  open_first h = rw (not_opened h) refl

  -- ── a request ──
  pub no_desk : (r : Request) (g : ℕ) → g ≡ group_index S r.key.owner.mpid → head_in S groups_at ≤ g → judge_request (view m) r ≡ reply 5
  unfolding judge_request Option-elim
  no_desk r g e h = rw (group_looked m r.key.owner.mpid ∙ row_missing (group_of S) (group_index S r.key.owner.mpid) (head_in S groups_at) (omega arith)) refl

  -- what the search of the table means for a request of the g-th desk
  abbrev pub at_place : Request → ℕ → Found → Verdict
  at_place r g (At i) = compared S i r
  at_place r g (Free i) = remember r (deal_ruling (view m).ledger (group_of S g) r.key r.deal)
  at_place r g Full = reply 7

  pub at_table : (r : Request) (g : ℕ) → Desk m r.key.owner.mpid g → judge_request (view m) r ≡ at_place r g (found_place S (room_of m) r.key)
  unfolding judge_request Option-elim books_in
  at_table r g d =
      let seek : Option Asked → Verdict = λ o. Option-elim o (cond (leb (room_of m) (length (view m).asked)) (reply 7) (at_place r g (Free 0))) (λ a. cond (same_request a.request r) (reply a.number) (reply 6)) in
      let n = length_numbered (asked_of S) (head_in S places_at) in
      rw (desk_looked m r.key.owner.mpid g d) (found_cases S (room_of m) r.key (λ f. seek (look by_request r.key (view m).asked) ≡ at_place r g f) (λ i lt e. rw e refl)
      (λ e lt. rw (e, n, lt-leb (room_of m) (head_in S places_at) lt) refl) (λ e le. rw (e, n, le-leb (room_of m) (head_in S places_at) le) refl))

  -- by the desk's row, and by what the search found
  pub at_found : Valid m → (r : Request) {g : ℕ} {f : Found} → g ≡ group_index S r.key.owner.mpid → g < head_in S groups_at → f ≡ found_place S (room_of m) r.key →
      verdict_in_rows S (at_place r g f) ≡ verdict_in_rows S (judge_request (view m) r)
  at_found v r {g} e lt h = ap (verdict_in_rows S) (sym (at_table r g (record { valid = v; listed = lt; found = sym e }) ∙ ap (at_place r g) (sym h)))

  -- the place that has the key
  pub known_at : Valid m → (k : KeyWords) (i : ℕ) → At i ≡ found_place S (room_of m) (named_by k) → Known m k i
  known_at v k i e = found_cases S (room_of m) (named_by k) (λ f. At i ≡ f → Known m k i)
      (λ j lt l q. let p : j ≡ i = cc in subst (Known m k) p (record { valid = v; placed = lt; keyed = sym (look_key by_request (named_by k) (numbered (asked_of S) (head_in S places_at)) l) }))
      (λ l lt q. let z : ◌≡◌ {A = ℕ} 0 1 = cc in absurd (omega arith)) (λ l le q. let z : ◌≡◌ {A = ℕ} 0 1 = cc in absurd (omega arith)) e

  -- ── a notice ──
  pub notice_old : (n : ℕ) (w : News) → n ≤ head_in S last_at → judge_notice (view m) n w ≡ see
  unfolding judge_notice books_in
  notice_old n w h = rw (le-leb n (head_in S last_at) h) refl

  pub notice_far : (n : ℕ) (w : News) → head_in S last_at + 1 < n → judge_notice (view m) n w ≡ reply 18
  unfolding judge_notice books_in
  notice_far n w h = rw (lt-leb n (head_in S last_at) (omega arith), lt-ltb (suc (head_in S last_at)) n (omega arith)) refl

  pub notice_next : (n : ℕ) (w : News) → head_in S last_at < n → n ≤ head_in S last_at + 1 → judge_notice (view m) n w ≡ book (news_ruling (view m).ledger w)
  unfolding judge_notice books_in
  notice_next n w h k = rw (lt-leb n (head_in S last_at) h, le-ltb (suc (head_in S last_at)) n (omega arith)) refl

-- ── a ruling given as a verdict ──
module _ (S : Sheet) (x : Ruled) (u : judging.Ruling) (e : x ≡ ruling_in_rows S u) where
  pub booked : answered (code "K") (code "A") x.number 0 (Edit.Taken x.deed) ≡ verdict_in_rows S (book u)
  unfolding ruling_in_rows edit_in_rows
  booked = ap (λ (x : Ruled). answered (code "K") (code "A") x.number 0 (Edit.Taken x.deed)) e ∙ answered_in_rows S "K" "A" u.number 0 (taken u.deed)

  pub remembers : (k : KeyWords) (d : DealWords) → answered (code "P") (code "R") x.number (cond (eqb x.number 0) (messages (deal_said d)) 0) (Edit.Remembered k (asking_words (deal_said d)) x.number x.deed) ≡ verdict_in_rows S (remember (requested k d) u)
  unfolding ruling_in_rows edit_in_rows
  remembers k d = ap (λ (x : Ruled). answered (code "P") (code "R") x.number (cond (eqb x.number 0) (messages (deal_said d)) 0) (Edit.Remembered k (asking_words (deal_said d)) x.number x.deed)) e
      ∙ answered_in_rows S "P" "R" u.number (cond (eqb u.number 0) (messages (deal_said d)) 0) (remembered (record { request = requested k d; number = u.number }) u.deed)

-- granted, or refused
module _ (S : Sheet) (u : judging.Ruling) where
  pub booked_deed : (d : Deed) → ruled (Ok d) ≡ ruling_in_rows S u → given (code "K") 0 0 (Edit.Taken d) ≡ verdict_in_rows S (book u)
  unfolding answered
  booked_deed d e = booked S (ruled (Ok d)) u e

  pub set_aside : (r : Refusal) → ruled (Err r) ≡ ruling_in_rows S u → given (code "A") (number_of r) 0 (Edit.Taken idle_words) ≡ verdict_in_rows S (book u)
  set_aside r e = answered_bad (code "K") (code "A") (number_of r) 0 (Edit.Taken idle_words) (never_0 r) ∙ booked S (ruled (Err r)) u e

  module _ (k : KeyWords) (d : DealWords) where
    pub remembers_deed : (f : Deed) → ruled (Ok f) ≡ ruling_in_rows S u → given (code "P") 0 (messages (deal_said d)) (Edit.Remembered k (asking_words (deal_said d)) 0 f) ≡ verdict_in_rows S (remember (requested k d) u)
    unfolding answered
    remembers_deed f e = remembers S (ruled (Ok f)) u e k d

    pub remembers_refusal : (r : Refusal) → ruled (Err r) ≡ ruling_in_rows S u → given (code "R") (number_of r) 0 (Edit.Remembered k (asking_words (deal_said d)) (number_of r) idle_words) ≡ verdict_in_rows S (remember (requested k d) u)
    remembers_refusal r e = let edit = Edit.Remembered k (asking_words (deal_said d)) (number_of r) idle_words in
        answered_bad (code "P") (code "R") (number_of r) 0 edit (never_0 r)
        ∙ ap (λ b. answered (code "P") (code "R") (number_of r) (cond b (messages (deal_said d)) 0) edit) (sym (ne_eqb (number_of r) 0 (never_0 r)))
        ∙ remembers S (ruled (Err r)) u e k d
