-- Document 01, "What a desk may hold us to": useless gates, and what stops them. Silence does not satisfy the promises.
use Rattle.std.specs.Prelude.{◌≡◌, refl, Bool, true, false, not, ◌&&◌, ◌||◌, cond, List, [], ◌∷◌, ◌++◌, map, ℕ, ◌≤◌, length, replicate, take, eqb}
use Rattle.std.proofs.Common.{sym, ap, ◌∙◌, subst, arith}
use Rattle.std.proofs.Math.Option.{none}
use Prim.Native.Char.{code}
use Rattle.std.proofs.lemmas.List.{length-replicate}
use Rattle.std.proofs.Math.ListN.{get_elem?}
use Rattle.rulebook.specs.Kept.{Books, Tally, fresh_books}
use Rattle.rulebook.specs.Judging.{judge}
use Rattle.rulebook.specs.Day as day
use Rattle.rulebook.specs.Day.{run, no_marks, noted}
use Rattle.rulebook.specs.Account.{Told, desks}
use Rattle.rulebook.proofs.Sums as sums
use Rattle.rulebook.proofs.Examples.{judging}
use Rattle.codec.proofs.Examples.{printed, computing, sample_lines}
use Rattle.books.specs.Layout.{least_words}
use Rattle.books.specs.View.{view}
use Rattle.store.specs.Making.{made_words}
use Rattle.calls.specs.Calling.{said_by, Recorded, record_left, recorded}
use Rattle.promises.specs.Day.{Call, Gate, lines, Ample, after, left, reply, replies, Sheet, sheet, is_kind, Shown, shown, totals_shown, tells, Closes, rest, rest_replies}
use Rattle.promises.proofs.Showing.{shows}
use Rattle.promises.proofs.Striking.{strike_same}
use Rattle.promises.proofs.Attempts.{records}
use Rattle.promises.proofs.Fresh.{next_shown, rest_tells}
use Rattle.promises.proofs.Promises.{closing_sums}
use Rattle.promises.proofs.Examples.{words_of_400, enough, room, says_400}

-- ── useless gates ──
-- a gate meets the record call's statement if it leaves what that says
abbrev pub Meets : Gate → Type 0
Meets G = (m l b : List ℕ) → G m l b ≡ recorded m l b

-- "one that refuses all": every request, whatever was before
abbrev pub RefusesAll : Gate → Type 0
RefusesAll G = (m : List ℕ) (c : Call) → 32 ≤ length c.buffer → is_kind "NMCBR" c.line ≡ true → (shown (reply G m c).answer).outcome ≡ code "R"

-- "one that answers and books nothing": no request and no notice changes its memory
abbrev pub BooksNothing : Gate → Type 0
BooksNothing G = (m : List ℕ) (c : Call) → is_kind "NMCBRQFDH" c.line ≡ true → after G m c ≡ m

-- "one that books the first record and then only talks": once a request or a notice has changed its memory, none does
abbrev pub BooksFirstOnly : Gate → Type 0
BooksFirstOnly G = (m : List ℕ) (c d : Call) → is_kind "NMCBRQFDH" c.line ≡ true → is_kind "NMCBRQFDH" d.line ≡ true → (after G m c ≡ m → ⊥) → after G (after G m c) d ≡ after G m c

-- a day with one order and a fill of it
abbrev spare : List ℕ
spare = replicate 32 0

abbrev order : List ℕ
order = printed "N T1 ABCD 7 B 100 10000000"

abbrev filled : List ℕ
filled = printed "F 2 ABCD T1 40 9990000"

abbrev before_it : List (List ℕ)
before_it = take 4 sample_lines

abbrev call : List ℕ → Call
call l = record { line = l; buffer = spare }

abbrev calls : List (List ℕ) → List Call
calls ls = map call ls

ample : (ls : List (List ℕ)) → Ample (calls ls)
ample [] = tt
ample (l ∷ ls) = (omega arith, ample ls)

abbrev lent : List ℕ
lent = replicate words_of_400 0

abbrev memory : List (List ℕ) → List ℕ
memory ls = left recorded (made_words lent) (calls ls)

size : length lent ≡ words_of_400
size = length-replicate {A = ℕ} words_of_400 0

says : (ls : List (List ℕ)) → view (memory ls) ≡ run (fresh_books 400) (records (calls ls))
says ls = says_400 lent size (calls ls) (ample ls)

kinds : (is_kind "NMCBR" order ≡ true) × (is_kind "NMCBRQFDH" order ≡ true) × (is_kind "NMCBRQFDH" filled ≡ true)
unfolding computing
kinds = (refl, refl, refl)

-- how many places are taken, and which number was last, before it, with it and after its fill
counted : (length (run (fresh_books 400) (records (calls before_it))).asked ≡ 0) × (length (run (fresh_books 400) (records (calls (before_it ++ (order ∷ []))))).asked ≡ 1) ×
    ((run (fresh_books 400) (records (calls (before_it ++ (order ∷ []))))).last ≡ 1) × ((run (fresh_books 400) (records (calls (before_it ++ (order ∷ filled ∷ []))))).last ≡ 2)
unfolding computing judging
counted = (refl, refl, refl, refl)

order_books : memory (before_it ++ (order ∷ [])) ≡ memory before_it → ⊥
order_books e = let z : ◌≡◌ {A = ℕ} 1 0 = sym counted.1 ∙ ap (λ (b : Books). length b.asked) (sym (says (before_it ++ (order ∷ []))) ∙ ap view e ∙ says before_it) ∙ counted.0 in omega arith

fill_books : memory (before_it ++ (order ∷ filled ∷ [])) ≡ memory (before_it ++ (order ∷ [])) → ⊥
fill_books e = let z : ◌≡◌ {A = ℕ} 2 1 = sym counted.3 ∙ ap (λ (b : Books). b.last) (sym (says (before_it ++ (order ∷ filled ∷ []))) ∙ ap view e ∙ says (before_it ++ (order ∷ []))) ∙ counted.2 in omega arith

-- THEOREM. None of them meets the record call's statement
pub not_refusing : (G : Gate) → Meets G → RefusesAll G → ⊥
unfolding computing judging
not_refusing G g r =
    let m = memory before_it in
    let p = next_shown lent (enough lent size) (calls before_it) (ample before_it) (call order) (omega arith) (said_by order) refl ∙ ap (λ n. shows (judge (run (fresh_books n) (records (calls before_it))) (said_by order)).answer) (room lent size) in
    let q : shown (reply G m (call order)).answer ≡ shown (reply recorded m (call order)).answer = ap (λ (r : Recorded). shown (take r.said.bytes r.buffer)) (g m order spare) in
    let z : ◌≡◌ {A = ℕ} (code "P") (code "R") = ap (λ (s : Shown). s.outcome) (sym (q ∙ p)) ∙ r m (call order) (omega arith) kinds.0 in
    omega arith

-- the memory that it leaves is ours
same_after : (G : Gate) → Meets G → (m : List ℕ) (c : Call) → after G m c ≡ after recorded m c
same_after G g m c = ap (λ (r : Recorded). r.memory) (g m c.line c.buffer)

pub not_idle : (G : Gate) → Meets G → BooksNothing G → ⊥
not_idle G g n = order_books (sym (same_after G g (memory before_it) (call order)) ∙ n (memory before_it) (call order) kinds.1)

pub not_first_only : (G : Gate) → Meets G → BooksFirstOnly G → ⊥
not_first_only G g f =
    let p = same_after G g (memory before_it) (call order) in
    let q = f (memory before_it) (call order) (call filled) kinds.1 kinds.2 (λ e. order_books (sym p ∙ e)) in
    fill_books (sym (ap (λ m. after G m (call filled)) p ∙ same_after G g (memory (before_it ++ (order ∷ []))) (call filled)) ∙ q ∙ p)

-- ── "breaks demand 2's totals and demand 3's sums" ──
-- what `closing_sums` says, of any gate
abbrev pub Sums : Gate → Type 0
Sums G = (m : List ℕ) → least_words ≤ length m → (cs : List Call) → Ample cs → (place : ℕ) (b : List ℕ) → 96 ≤ length b →
    let h = tells (rest_replies (replies G (made_words m) cs)) in Closes (get_elem? (desks h) place) h (sheet (left G (made_words m) cs) place b)

-- THEOREM. It is promised of the record call
pub ours_sums : Sums recorded
ours_sums = closing_sums

-- a gate that answers as the record call does, and where a test says so leaves the memory as it was
abbrev talks : (List ℕ → List ℕ → Bool) → Gate
talks t m l b = let r = recorded m l b in record_left r.said (cond (t m l) m r.memory) r.buffer

-- it answers and books nothing
abbrev pub idle : Gate
idle = talks (λ m l. is_kind "NMCBRQFDH" l)

-- something is booked: a place or a number is taken
abbrev has_booked_in : Books → Bool
has_booked_in b = not (eqb (length b.asked) 0) || not (eqb b.last 0)

abbrev has_booked : List ℕ → Bool
has_booked m = has_booked_in (view m)

-- it books the first request or notice and then only talks
abbrev pub first_only : Gate
first_only = talks (λ m l. is_kind "NMCBRQFDH" l && has_booked m)

abbrev set_up : List (List ℕ)
set_up = take 3 sample_lines

abbrev quote : List ℕ
quote = printed "Q 1 7 9990000 10000000"

-- what the struck list of these lines tells
abbrev told : List (List ℕ) → List Told
told ls = sums.tells (fresh_books 400) (map said_by (day.strike said_by no_marks ls))

-- a sheet is the first desk's, as a list tells
abbrev First : List Told → Sheet → Type 0
First h s = Closes (get_elem? (desks h) 0) h s

-- the open buys that the desk's closing line shows: none without the order, and its value with it
open_buys : (s : Sheet) → (First (told set_up) s → (totals_shown s.line).ob ≡ 0) × (First (told (set_up ++ (order ∷ []))) s → (totals_shown s.line).ob ≡ 1_000_000_000)
    × (First (told before_it) s → (totals_shown s.line).ob ≡ 0) × (First (told (before_it ++ (order ∷ []))) s → (totals_shown s.line).ob ≡ 1_000_000_000)
unfolding computing judging day.struck noted
open_buys s = (λ c. ap (λ (t : Tally). t.ob) c.2, λ c. ap (λ (t : Tally). t.ob) c.2, λ c. ap (λ (t : Tally). t.ob) c.2, λ c. ap (λ (t : Tally). t.ob) c.2)

-- and it is the closing line of a day over these lines that shows them
abbrev wide : List ℕ
wide = replicate 96 0

shows_told : (ls : List (List ℕ)) → lines (calls ls) ≡ ls → tells (rest_replies (replies recorded (made_words lent) (calls ls))) ≡ told ls
shows_told ls e = rest_tells lent (enough lent size) (calls ls) (ample ls) ∙ (λ i. sums.tells (fresh_books (room lent size i)) (map said_by (rest (e i)))) ∙ ap (λ ks. sums.tells (fresh_books 400) (map said_by ks)) (strike_same (λ l. l) none no_marks refl ls)

-- THEOREM. A gate that answers and books nothing breaks the sums
pub idle_breaks : Sums idle → ⊥
unfolding computing
idle_breaks h =
    let s = sheet (memory set_up) 0 wide in
    let ls = set_up ++ (order ∷ []) in
    let a = (open_buys s).0 (subst (λ h. First h s) (shows_told set_up refl) (closing_sums lent (enough lent size) (calls set_up) (ample set_up) 0 wide (omega arith))) in
    let b = (open_buys s).1 (subst (λ h. First h s) (shows_told ls refl) (h lent (enough lent size) (calls ls) (ample ls) 0 wide (omega arith))) in
    let z : ◌≡◌ {A = ℕ} 0 1_000_000_000 = sym a ∙ b in omega arith

-- nothing is booked at setup, and the quote is
booked_so_far : (has_booked (memory set_up) ≡ false) × (has_booked (memory before_it) ≡ true)
unfolding computing judging
booked_so_far = (ap has_booked_in (says set_up), ap has_booked_in (says before_it))

-- THEOREM. A gate that books the first record and then only talks breaks them from the second record on
pub first_only_breaks : Sums first_only → ⊥
unfolding computing
first_only_breaks h =
    let s = sheet (memory before_it) 0 wide in
    let ls = before_it ++ (order ∷ []) in
    let quoted : after first_only (memory set_up) (call quote) ≡ memory before_it = ap (λ t. cond t (memory set_up) (memory before_it)) booked_so_far.0 in
    let kept : left first_only (made_words lent) (calls ls) ≡ memory before_it = ap (λ m. after first_only m (call order)) quoted ∙ ap (λ t. cond t (memory before_it) (memory ls)) booked_so_far.1 in
    let same : replies first_only (made_words lent) (calls ls) ≡ replies recorded (made_words lent) (calls ls) = ap (λ m. replies recorded (made_words lent) (calls before_it) ++ (reply recorded m (call order) ∷ [])) quoted in
    let a = (open_buys s).2 (subst (λ h. First h s) (shows_told before_it refl) (closing_sums lent (enough lent size) (calls before_it) (ample before_it) 0 wide (omega arith))) in
    let c = subst (First (tells (rest_replies (replies first_only (made_words lent) (calls ls))))) (ap (λ m. sheet m 0 wide) kept) (h lent (enough lent size) (calls ls) (ample ls) 0 wide (omega arith)) in
    let b = (open_buys s).3 (subst (λ h. First h s) (ap (λ rs. tells (rest_replies rs)) same ∙ shows_told ls refl) c) in
    let z : ◌≡◌ {A = ℕ} 0 1_000_000_000 = sym a ∙ b in omega arith
