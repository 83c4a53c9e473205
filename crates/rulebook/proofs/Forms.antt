-- What the gate writes is in its form too: every answer line and every closing line.
use Rattle.std.specs.Prelude.{◌≡◌, refl, Bool, true, false, ◌||◌, cond, ℕ, ◌≤◌, length, leb, eqb}
use Rattle.std.proofs.Common.{subst, arith, eqb-true}
use Rattle.std.proofs.Math.Bool.{or-true}
use Rattle.std.proofs.Math.Option.{Option, none, some, map, none-ne-some, some-injective}
use Prim.Native.Char.{Char, code}
use Rattle.std.proofs.Math.ListN.{get_elem?}
use Rattle.laws.specs.Tests.{on, split, opt, is_none}
use Rattle.laws.specs.Tables.{All, all_at, look, all_look}
use Rattle.rulebook.specs.Names.{bytes}
use Rattle.rulebook.specs.Lines.{ceiling, highest, Deal, new, change, cancel, block, unblock, Request, News, Record, same_request, letter, Fits, Line, Formed}
use Rattle.rulebook.specs.Kept.{Group, Asked, Ledger, Books, by_mpid, by_request, tally, metrics}
use Rattle.rulebook.specs.Outcomes.{Answer, record_numbers, answer_line, closing_line, closing}
use Rattle.rulebook.specs.Judging.{deal_ruling, news_ruling, messages, judge}
use Rattle.rulebook.specs.Rules.{is_kept, FitsGroup, FitsAsked, Sound}
use Rattle.rulebook.proofs.Cases.{is_number, among_most, kept_number, door, at_door, judge_cases, news_cases}
use Rattle.rulebook.proofs.Keeping.{name_fits, deal_kept}

-- a number that a record may get, or 0
abbrev pub is_told : ℕ → Bool
is_told n = eqb n 0 || is_number n

number_told : (n : ℕ) → is_number n ≡ true → is_told n ≡ true
number_told n h = rw h (or-true (eqb n 0))

told_small : (n : ℕ) → is_told n ≡ true → n ≤ highest record_numbers
told_small n h = on (λ t. (t || is_number n) ≡ true → n ≤ highest record_numbers) (eqb n 0) (λ e k. omega (arith, eqb-true n 0 e)) (λ e k. among_most n record_numbers k) h

-- an answer's outcome, number and count
abbrev pub FitsAnswer : Answer → Type 0
FitsAnswer a = Fits (letter (bytes "PKSRA") (code a.outcome)) × (is_told a.number ≡ true) × (a.sent ≤ 1)

answer_fits : (good bad : Char) (n s : ℕ) → Fits (letter (bytes "PKSRA") (code good)) → Fits (letter (bytes "PKSRA") (code bad)) → is_told n ≡ true → s ≤ 1 → FitsAnswer (record { outcome = cond (eqb n 0) good bad; number = n; sent = s })
answer_fits good bad n s f g h k = (split (λ c. Fits (letter (bytes "PKSRA") (code c))) (eqb n 0) good bad (λ q. f) (λ q. g), h, k)

-- a number that the table remembers
kept_told : (n : ℕ) → (eqb n 0 || is_kept n) ≡ true → is_told n ≡ true
kept_told n h = on (λ t. (t || is_kept n) ≡ true → (t || is_number n) ≡ true) (eqb n 0) (λ e k. refl) (λ e k. kept_number n k) h

-- what the door answers: 5, 6, 7 or such a number
door_told : (u : Bool) (p : Option Asked) (f : Bool) (r : Request) (n : ℕ) → ((a : Asked) → p ≡ some a → is_told a.number ≡ true) → door u p f r ≡ some n → is_told n ≡ true
door_told true p f r n k e = subst (λ n. is_told n ≡ true) (some-injective 5 n e) refl
door_told false (some a) f r n k e = subst (λ n. is_told n ≡ true) (some-injective (cond (same_request a.request r) a.number 6) n e) (split (λ n. is_told n ≡ true) (same_request a.request r) a.number 6 (λ h. k a refl) (λ h. refl))
door_told false none true r n k e = subst (λ n. is_told n ≡ true) (some-injective 7 n e) refl
door_told false none false r n k e = absurd (none-ne-some n e)

known_told : (b : Books) (r : Request) (n : ℕ) → Sound b → at_door b r ≡ some n → is_told n ≡ true
known_told b r n s e = door_told (is_none (look by_mpid r.key.owner.mpid b.ledger.groups)) (look by_request r.key b.asked) (leb b.room (length b.asked)) r n
    (λ a q. kept_told a.number (all_look by_request FitsAsked r.key b.asked s.asked_fit q).1) e

one_message : (d : Deal) → messages d ≤ 1
one_message (new s x z p) = omega arith
one_message (change n z p) = omega arith
one_message (cancel n) = omega arith
one_message block = omega arith
one_message unblock = omega arith

news_told : (l : Ledger) (w : News) → is_told (news_ruling l w).number ≡ true
news_told l w = news_cases l (λ w u. is_told u.number ≡ true) (record {
  on_aside = λ w n h. number_told n h;
  on_quote = λ s x y h. refl;
  on_fill = λ k z p g o s h q. refl;
  on_reduction = λ k z g o s h. refl;
  on_refused = λ k g o s. refl;
}) w

-- THEOREM. The answer to every record has an outcome of five, a number that a record may get, or 0, and at most one message
pub answer_fit : (b : Books) (x : Record) → Sound b → FitsAnswer (judge b x).answer
answer_fit b x s = judge_cases b (λ x v. FitsAnswer v.answer) (record {
  on_early = λ x n j q. answer_fits "P" "R" n 0 refl refl (number_told n j) (omega arith);
  on_open = λ h. (refl, refl, omega arith);
  on_group = λ m t h q k. (refl, refl, omega arith);
  on_symbol = λ m h q k. (refl, refl, omega arith);
  on_known = λ r n h e. answer_fits "P" "R" n 0 refl refl (known_told b r n s e) (omega arith);
  on_new = λ r g h f. let u = deal_ruling b.ledger g r.key r.deal in
      answer_fits "P" "R" u.number (cond (eqb u.number 0) (messages r.deal) 0) refl refl (kept_told u.number (deal_kept b.ledger g r.key r.deal)) (split (λ n. n ≤ 1) (eqb u.number 0) (messages r.deal) 0 (λ q. one_message r.deal) (λ q. omega arith));
  on_seen = λ n w h q. (refl, refl, omega arith);
  on_next = λ n w h q. answer_fits "K" "A" (news_ruling b.ledger w).number 0 refl refl (news_told b.ledger w) (omega arith);
}) x

-- THEOREM. The answer line of every record in its form is in its form
pub answer_formed : (b : Books) (x : Record) → Sound b → Formed x → All Fits (answer_line x (judge b x).answer).fields
answer_formed b x s w = let f = answer_fit b x s in (name_fits x w, (f.0, omega (arith, told_small (judge b x).answer.number f.1, f.2)))

-- THEOREM. and so is every closing line
pub closing_formed : (b : Books) (i : ℕ) {c : Line} → Sound b → closing b i ≡ some c → All Fits c.fields
closing_formed b i {c} s e = opt (λ o. map (λ g. closing_line g (tally g b.ledger.orders)) o ≡ some c → All Fits c.fields) (get_elem? b.ledger.groups i)
    (λ q h. absurd (none-ne-some c h))
    (λ g q h.
    let m = all_at FitsGroup b.ledger.groups i s.ledger.groups_fit q in
    let t = all_at (λ (g : Group). (metrics (tally g b.ledger.orders)).gross_both ≤ ceiling) b.ledger.groups i s.ledger.gross_within q in
    subst (λ (c : Line). All Fits c.fields) (some-injective (closing_line g (tally g b.ledger.orders)) c h)
    (m.0, (omega arith, (omega arith, (omega arith, (omega arith, (split (λ n. Fits (letter (bytes "YN") n)) g.blocked (code "Y") (code "N") (λ z. refl) (λ z. refl), tt))))))) e
