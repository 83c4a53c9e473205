-- Striking lines is striking the records that they say: a request is identical to another exactly if its line is.
use Rattle.std.specs.Prelude.{◌≡◌, Bool, true, false, not, ◌||◌, cond, ℕ}
use Rattle.std.proofs.Math.Path.{refl, sym, ap, subst}
use Rattle.std.proofs.Common.{◌∙◌}
use Rattle.std.proofs.lemmas.Bool.{false≢true}
use Rattle.std.proofs.Math.Option.{none, some}
use mathlib.Core.List.{List, [], ◌∷◌, List-discrete}
use Rattle.std.proofs.Math.Decide.{ℕ_discrete}
use Prim.Native.String.{String}
use Rattle.laws.specs.Tests.{on, is_none, one_more, Exact, decide_exact}
use Rattle.laws.specs.Tables.{find}
use Rattle.rulebook.specs.Lines.{Request, News, Record, broken, open_day, group, symbol, ask, tell, line_of, same_request}
use Rattle.rulebook.specs.Kept.{Books, fresh_books}
use Rattle.rulebook.specs.Judging.{nothing, judge}
use Rattle.rulebook.specs.Day as day
use Rattle.rulebook.specs.Day.{step, Marks, no_marks, noted}
use Rattle.rulebook.proofs.Retries.{request_exact, Linked, struck_nothing, linked_step, fresh_linked}
use Rattle.fields.specs.Forms.{IsLine}
use Rattle.codec.specs.Readings.{record_of}
use Rattle.codec.proofs.Lines.{read_line_of, one_line}
use Rattle.calls.specs.Calling.{said_by}
use Rattle.promises.specs.Day.{is_kind, Since, heard, same_bytes, among, last_taken, struck, strike}
use Rattle.promises.specs.Kinds.{has_kind, deal_kinds, news_kinds}
use Rattle.promises.proofs.Showing.{notice_number}

-- ── a record, to striking ──
-- neither an O nor a request nor a notice: it marks nothing and is never struck
abbrev Plain : Record → Type 0
Plain x = (has_kind "O" x ≡ false) × (has_kind "NMCBR" x ≡ false) × (has_kind "QFDH" x ≡ false) × ((k : Marks) → noted k x ≡ k) × ((k : Marks) → day.struck k x ≡ false)

by_sort : (P : Record → Type 0) → P open_day → ((r : Request) → P (ask r)) → ((n : ℕ) (w : News) → P (tell n w)) → ((x : Record) → Plain x → P x) → (x : Record) → P x
unfolding noted day.struck
by_sort P o r n p open_day = o
by_sort P o r n p (ask q) = r q
by_sort P o r n p (tell k w) = n k w
by_sort P o r n p broken = p broken (refl, refl, refl, λ k. refl, λ k. refl)
by_sort P o r n p (group m t) = p (group m t) (refl, refl, refl, λ k. refl, λ k. refl)
by_sort P o r n p (symbol s) = p (symbol s) (refl, refl, refl, λ k. refl, λ k. refl)

-- a test that is false of one thing and true of the other tells them apart
not_both : {A : Type 0} {b : Bool} → b ≡ false → b ≡ true → A
not_both e h = absurd (false≢true (sym e ∙ h))

-- THEOREM. A request line says a request, a notice line a notice, and an O line that the day opens
pub request_said : (x : Record) → has_kind "NMCBR" x ≡ true → (r : Request) × (x ≡ ask r)
request_said = by_sort (λ x. has_kind "NMCBR" x ≡ true → (r : Request) × (x ≡ ask r)) (not_both refl) (λ r h. (r, refl)) (λ n w. not_both (news_kinds n w).1) (λ x p. not_both p.1)

pub notice_said : (x : Record) → has_kind "QFDH" x ≡ true → (n : ℕ) × (w : News) × (x ≡ tell n w)
notice_said = by_sort (λ x. has_kind "QFDH" x ≡ true → (n : ℕ) × (w : News) × (x ≡ tell n w)) (not_both refl) (λ r. not_both (deal_kinds r).2) (λ n w h. (n, w, refl)) (λ x p. not_both p.2)

pub opening_said : (x : Record) → has_kind "O" x ≡ true → x ≡ open_day
opening_said = by_sort (λ x. has_kind "O" x ≡ true → x ≡ open_day) (λ h. refl) (λ r. not_both (deal_kinds r).0) (λ n w. not_both (news_kinds n w).0) (λ x p. not_both p.0)

-- a line of a kind is the line of the record that it says
line_said : (s : String) → has_kind s broken ≡ false → (l : List ℕ) (x : Record) → said_by l ≡ x → has_kind s x ≡ true → IsLine (line_of x) l
line_said s b l x q h = subst (λ x. IsLine (line_of x) l) q (read_line_of l (λ e. not_both b (ap (has_kind s) (sym (ap (record_of l) e) ∙ q) ∙ h)))

-- ── "Identical means equal as records, which is equal as lines" ──
pub same_line : (k l : List ℕ) (r : Request) → said_by k ≡ ask r → said_by l ≡ ask r → k ≡ l
same_line k l r p q = let h = (deal_kinds r).1 in one_line (ask r) k l (line_said "NMCBR" refl k (ask r) p h) (line_said "NMCBR" refl l (ask r) q h)

bytes_exact : Exact same_bytes
bytes_exact = decide_exact (List-discrete ℕ_discrete)

-- the request that a record asks, or another
abbrev asked_or : Request → Record → Request
asked_or r (ask q) = q
asked_or r open_day = r
asked_or r (tell n w) = r
asked_or r broken = r
asked_or r (group m t) = r
asked_or r (symbol s) = r

identical : (k l : List ℕ) (q r : Request) → said_by k ≡ ask q → said_by l ≡ ask r → same_request q r ≡ same_bytes k l
identical k l q r p z = on (λ b. b ≡ same_bytes k l) (same_request q r)
    (λ h. sym (ap (λ k. same_bytes k l) (same_line k l r (p ∙ ap {B = Record} ask (request_exact.only q r h)) z) ∙ bytes_exact.self l))
    (λ h. on (λ b. false ≡ b) (same_bytes k l) (λ e. not_both h (ap (λ q. same_request q r) (ap (asked_or r) (sym p ∙ ap said_by (bytes_exact.only k l e) ∙ z)) ∙ request_exact.self r)) (λ e. refl))

-- ── what lines and records have in common ──
abbrev known : Request → List Request → Bool
known r s = not (is_none (find (λ q. same_request q r) s))

abbrev pub Agree : Since → Marks → Type 0
Agree none k = k ≡ no_marks
Agree (some e) k = (k.opened ≡ true) × (k.last ≡ last_taken e) × ((l : List ℕ) (r : Request) → said_by l ≡ ask r → known r k.seen ≡ among l e)

module _ (l : List ℕ) (e : List (List ℕ)) (k : Marks) (a : Agree (some e) k) where
  -- a notice that is next takes its number, and what is no notice takes none
  next_taken : (n : ℕ) (w : News) → said_by l ≡ tell n w → (noted k (tell n w)).last ≡ last_taken (l ∷ e)
  unfolding noted
  next_taken n w q = let h = (news_kinds n w).2 in rw (a.0, a.1, ap (has_kind "QFDH") q ∙ h, notice_number n w l (line_said "QFDH" refl l (tell n w) q h)) refl

  none_taken : is_kind "QFDH" l ≡ false → k.last ≡ last_taken (l ∷ e)
  none_taken h = a.1 ∙ rw h refl

  -- a request is known from then on, and what is none makes none known
  now_known : (q : Request) → said_by l ≡ ask q → (j : List ℕ) (r : Request) → said_by j ≡ ask r → known r (noted k (ask q)).seen ≡ among j (l ∷ e)
  unfolding noted
  now_known q p j r z = ap (λ o. known r (cond o (q ∷ k.seen) k.seen)) a.0 ∙ one_more (same_request q r) q (find (λ q. same_request q r) k.seen)
      ∙ (λ i. identical l j q r p z i || a.2 j r z i) ∙ sym (one_more (same_bytes l j) l (find (λ k. same_bytes k j) e))

  none_known : is_kind "NMCBR" l ≡ false → (j : List ℕ) (r : Request) → said_by j ≡ ask r → known r k.seen ≡ among j (l ∷ e)
  none_known h j r z =
      let d : same_bytes l j ≡ false = on (λ b. b ≡ false) (same_bytes l j) (λ y. not_both h (ap (is_kind "NMCBR") (bytes_exact.only l j y) ∙ ap (has_kind "NMCBR") z ∙ (deal_kinds r).1)) (λ y. refl) in
      a.2 j r z ∙ rw d refl

  agree_next : Agree (some (l ∷ e)) (noted k (said_by l))
  unfolding noted
  agree_next = by_sort (λ x. said_by l ≡ x → Agree (some (l ∷ e)) (noted k x))
      (λ q. (refl, none_taken (ap (has_kind "QFDH") q), none_known (ap (has_kind "NMCBR") q)))
      (λ r q. (a.0, none_taken (ap (has_kind "QFDH") q ∙ (deal_kinds r).2), now_known r q))
      (λ n w q. (a.0, next_taken n w q, none_known (ap (has_kind "NMCBR") q ∙ (news_kinds n w).1)))
      (λ x p q. subst (Agree (some (l ∷ e))) (sym (p.3 k)) (a.0, none_taken (ap (has_kind "QFDH") q ∙ p.2), none_known (ap (has_kind "NMCBR") q ∙ p.1)))
      (said_by l) refl

  struck_next : struck (some e) l ≡ day.struck k (said_by l)
  unfolding day.struck
  struck_next = by_sort (λ x. said_by l ≡ x → struck (some e) l ≡ day.struck k x)
      (λ q. rw q refl)
      (λ r q. rw (ap (has_kind "NMCBR") q ∙ (deal_kinds r).1) (sym (a.2 l r q)))
      (λ n w q. let h = news_kinds n w in rw (ap (has_kind "NMCBR") q ∙ h.1, ap (has_kind "QFDH") q ∙ h.2, notice_number n w l (line_said "QFDH" refl l (tell n w) q h.2), a.0, a.1) refl)
      (λ x p q. rw (ap (has_kind "NMCBR") q ∙ p.1, ap (has_kind "QFDH") q ∙ p.2) (sym (p.4 k)))
      (said_by l) refl

first_heard : (l : List ℕ) → Agree (heard none l) (noted no_marks (said_by l))
unfolding noted
first_heard l = by_sort (λ x. said_by l ≡ x → Agree (heard none l) (noted no_marks x))
    (λ q. rw q (refl, refl, λ l r q. refl))
    (λ r q. rw (ap (has_kind "O") q ∙ (deal_kinds r).0) refl)
    (λ n w q. rw (ap (has_kind "O") q ∙ (news_kinds n w).0) refl)
    (λ x p q. rw (ap (has_kind "O") q ∙ p.0) (p.3 no_marks))
    (said_by l) refl

pub agree_heard : (s : Since) (k : Marks) → Agree s k → (l : List ℕ) → Agree (heard s l) (noted k (said_by l))
agree_heard none k a l = rw a (first_heard l)
agree_heard (some e) k a l = agree_next l e k a

pub struck_same : (s : Since) (k : Marks) → Agree s k → (l : List ℕ) → struck s l ≡ day.struck k (said_by l)
unfolding day.struck
struck_same none k a l = rw a (by_sort (λ x. false ≡ day.struck no_marks x) refl (λ r. refl) (λ n w. refl) (λ x p. sym (p.4 no_marks)) (said_by l))
struck_same (some e) k a l = struck_next l e k a

-- THEOREM. What striking leaves of lines is what the rulebook leaves of the records that they say
pub strike_same : {A : Type 0} (f : A → List ℕ) (s : Since) (k : Marks) → Agree s k → (xs : List A) → strike f s xs ≡ day.strike (λ x. said_by (f x)) k xs
strike_same f s k a [] = refl
strike_same f s k a (x ∷ xs) = let q = strike_same f (heard s (f x)) (noted k (said_by (f x))) (agree_heard s k a (f x)) xs in λ i. cond (struck_same s k a (f x) i) (q i) (x ∷ q i)

-- ── the lines so far, and the books ──
pub record Fair (s : Since) (b : Books) : Type 0 where
  pub marks : Marks
  pub agree : Agree s marks
  pub linked : Linked marks b

pub fresh_fair : (n : ℕ) → Fair none (fresh_books n)
fresh_fair n = record { marks = no_marks; agree = refl; linked = fresh_linked n }

-- every line keeps this, and what is struck changes nothing
pub fair_step : (s : Since) (b : Books) → Fair s b → (l : List ℕ) → Fair (heard s l) (step b (said_by l))
fair_step s b f l = record { marks = noted f.marks (said_by l); agree = agree_heard s f.marks f.agree l; linked = linked_step f.marks b f.linked (said_by l) }

pub struck_idle : (s : Since) (b : Books) → Fair s b → (l : List ℕ) → struck s l ≡ true → (judge b (said_by l)).edit ≡ nothing
struck_idle s b f l h = struck_nothing f.marks b f.linked (said_by l) (sym (struck_same s f.marks f.agree l) ∙ h)
