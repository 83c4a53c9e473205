-- The rulebook's verdicts by rows, what a refusal is answered, and the verdicts of setup.
use Rattle.std.specs.Prelude.{◌≡◌, refl, not, cond, List, [], ◌∷◌, ℕ, leb, ltb, eqb, Result, Ok, Err}
use Rattle.std.proofs.Common.{sym, ap, ap₂, ◌∙◌, ne_eqb}
use Rattle.std.proofs.Math.Option.{Option, none, some}
use Prim.Native.Char.{Char, code}
use Rattle.laws.specs.Tests.{on, is_none}
use Rattle.laws.specs.Tables.{stay, adds}
use Rattle.laws.specs.Checks.{Check, ◌⇒◌, first}
use Rattle.laws.specs.Rows.{Sheet}
use Rattle.rulebook.specs.Names.{Mpid}
use Rattle.rulebook.specs.Lines.{Terms, group, symbol}
use Rattle.rulebook.specs.Kept.{new_group, new_symbol}
use Rattle.rulebook.specs.Judging as judging
use Rattle.rulebook.specs.Judging.{deed, nothing, listed, verdict, reply, see, setup, judge}
use Rattle.rulebook.specs.Cases.{pass}
use Rattle.books.specs.Layout.{room_of, opened_at, groups_at, symbols_at}
use Rattle.books.specs.View.{flag, head_in, group_of, symbol_of, books_in, rows_of, view}
use Rattle.books.specs.Writing.{group_index, symbol_index}
use Rattle.books.proofs.Refining.{counts}
use Rattle.books.specs.declared.Terms.{Terms as TermWords}
use Rattle.checks.specs.Refusing.{number_of}
use Rattle.checks.specs.declared.Refusal.{Refusal}
use Rattle.checks.proofs.Refusing.{never_0}
use Rattle.edits.specs.InRows.{edit_in_rows}
use Rattle.edits.specs.declared.Edit.{Edit}
use Rattle.rulings.specs.Looking.{at_row, group_looked, symbol_looked}
use Rattle.judge.specs.declared.Outcome.{Outcome}
use Rattle.judge.specs.declared.Verdict.{Verdict}

-- P passed, K booked, S seen, R refused, A set aside
abbrev pub outcome_letter : Outcome → ℕ
outcome_letter Outcome.Passed = code "P"
outcome_letter Outcome.Booked = code "K"
outcome_letter Outcome.Seen = code "S"
outcome_letter Outcome.Refused = code "R"
outcome_letter Outcome.SetAside = code "A"

-- the rulebook's verdict by rows
unfoldable pub verdict_in_rows : Sheet → judging.Verdict → Verdict
verdict_in_rows S v = record { answer = record { outcome = code v.answer.outcome; number = v.answer.number; sent = v.answer.sent }; edit = edit_in_rows S v.edit }

-- a verdict of its parts
abbrev pub given : ℕ → ℕ → ℕ → Edit → Verdict
given outcome n sent e = record { answer = record { outcome = outcome; number = n; sent = sent }; edit = e }

-- the first outcome if the number is 0, else the second
unfoldable pub answered : ℕ → ℕ → ℕ → ℕ → Edit → Verdict
answered good bad n sent e = given (cond (eqb n 0) good bad) n sent e

pub answered_in_rows : (S : Sheet) (good bad : Char) (n sent : ℕ) (e : judging.Edit) → answered (code good) (code bad) n sent (edit_in_rows S e) ≡ verdict_in_rows S (verdict good bad n sent e)
unfolding answered verdict_in_rows
answered_in_rows S good bad n sent e =
    on (λ b. ◌≡◌ {A = Verdict} (given (cond b (code good) (code bad)) n sent (edit_in_rows S e)) (given (code (cond b good bad)) n sent (edit_in_rows S e))) (eqb n 0) (λ q. refl) (λ q. refl)

-- a number that is not 0 takes the second
pub answered_bad : (good bad n sent : ℕ) (e : Edit) → (n ≡ 0 → ⊥) → given bad n sent e ≡ answered good bad n sent e
unfolding answered
answered_bad good bad n sent e h = ap (λ b. given (cond b good bad) n sent e) (sym (ne_eqb n 0 h))

-- P and S of the rulebook
pub passed_in_rows : (S : Sheet) (e : judging.Edit) → given (code "P") 0 0 (edit_in_rows S e) ≡ verdict_in_rows S (pass e)
unfolding verdict_in_rows
passed_in_rows S e = refl

pub seen_in_rows : (S : Sheet) → given (code "S") 0 0 Edit.Nothing ≡ verdict_in_rows S see
unfolding verdict_in_rows edit_in_rows
seen_in_rows S = refl

-- a refusal with no effect is R and its number
abbrev pub settled : Result Verdict Refusal → Verdict
settled (Ok v) = v
settled (Err r) = given (code "R") (number_of r) 0 Edit.Nothing

-- which is the rulebook's reply
pub reply_in_rows : (S : Sheet) (n : ℕ) → (n ≡ 0 → ⊥) → given (code "R") n 0 Edit.Nothing ≡ verdict_in_rows S (reply n)
unfolding edit_in_rows
reply_in_rows S n h = answered_bad (code "P") (code "R") n 0 Edit.Nothing h ∙ answered_in_rows S "P" "R" n 0 nothing

pub refused : (S : Sheet) (r : Refusal) {v : judging.Verdict} → v ≡ reply (number_of r) → settled (Err r) ≡ verdict_in_rows S v
refused S r e = reply_in_rows S (number_of r) (never_0 r) ∙ ap (verdict_in_rows S) (sym e)

-- ── setup ──
-- P and the edit where the number is 0, else R and no effect
unfoldable pub set_up : ℕ → Edit → Verdict
set_up n e = answered (code "P") (code "R") n 0 (cond (eqb n 0) e Edit.Nothing)

pub set_up_in_rows : (S : Sheet) (n : ℕ) (l : List Check) (e : judging.Edit) → n ≡ first l → set_up n (edit_in_rows S e) ≡ verdict_in_rows S (setup l e)
unfolding set_up edit_in_rows
set_up_in_rows S n l e h =
    ap (λ (n : ℕ). answered (code "P") (code "R") n 0 (cond (eqb n 0) (edit_in_rows S e) Edit.Nothing)) h
    ∙ ap (answered (code "P") (code "R") (first l) 0) (on (λ b. cond b (edit_in_rows S e) Edit.Nothing ≡ edit_in_rows S (cond b e nothing)) (eqb (first l) 0) (λ q. refl) (λ q. refl))
    ∙ answered_in_rows S "P" "R" (first l) 0 (cond (eqb (first l) 0) e nothing)

-- what a G sets for its group
abbrev pub terms_of : TermWords → Terms
terms_of t = record { limits = record { gross_trade = t.gross_trade; net_trade = t.net_trade; gross_open = t.gross_open; net_open = t.net_open; gross_both = t.gross_both; net_both = t.net_both }; max_size = t.max_size; short_sales = t.short_sales }

-- 2, 3, 4: by the day's mark, by the first row that has the key, by how many are listed, and by the most
abbrev pub listing_checks : ℕ → ℕ → ℕ → ℕ → List Check
listing_checks opened i n most = (flag opened ⇒ 2) ∷ (ltb i n ⇒ 3) ∷ (leb most n ⇒ 4) ∷ []

row_listed : {A : Type 0} (f : ℕ → A) (i n : ℕ) → not (is_none (at_row f i n)) ≡ ltb i n
row_listed f i n = on (λ b. not (is_none (cond b (some (f i)) none)) ≡ b) (ltb i n) (λ e. refl) (λ e. refl)

-- what is looked up is listed exactly if its row is one of those in use
listed_by : {A : Type 0} (f : ℕ → A) (opened i n most k : ℕ) (x : Option A) → x ≡ at_row f i n → k ≡ n → first (listing_checks opened i n most) ≡ first ((flag opened ⇒ 2) ∷ (not (is_none x) ⇒ 3) ∷ (leb most k ⇒ 4) ∷ [])
listed_by f opened i n most k x e q = sym (ap₂ {C = ℕ} (λ b (k : ℕ). first ((flag opened ⇒ 2) ∷ (b ⇒ 3) ∷ (leb most k ⇒ 4) ∷ [])) (ap (λ o. not (is_none o)) e ∙ row_listed f i n) q)

module _ (m : List ℕ) where
  abbrev S : Sheet
  S = rows_of m

  pub group_set_up : (p : Mpid) (t : Terms) (n : ℕ) → n ≡ first (listing_checks (head_in S opened_at) (group_index S p) (head_in S groups_at) 64) →
      set_up n (edit_in_rows S (listed (deed stay (adds (new_group p t)) stay))) ≡ verdict_in_rows S (judge (view m) (group p t))
  unfolding judge books_in
  group_set_up p t n e = set_up_in_rows S n _ _ (e ∙ listed_by (group_of S) (head_in S opened_at) (group_index S p) (head_in S groups_at) 64 _ _ (group_looked m p) (counts (room_of m) S).0)

  pub symbol_set_up : (s n : ℕ) → n ≡ first (listing_checks (head_in S opened_at) (symbol_index S s) (head_in S symbols_at) 256) →
      set_up n (edit_in_rows S (listed (deed stay stay (adds (new_symbol s))))) ≡ verdict_in_rows S (judge (view m) (symbol s))
  unfolding judge books_in
  symbol_set_up s n e = set_up_in_rows S n _ _ (e ∙ listed_by (symbol_of S) (head_in S opened_at) (symbol_index S s) (head_in S symbols_at) 256 _ _ (symbol_looked m s) (counts (room_of m) S).1)
