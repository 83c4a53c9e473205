-- A closing line from the totals that the store hands up.
use Rattle.std.specs.Prelude.{◌≡◌, true, cond, List, ℕ, ◌≤◌, length, Option, Some, None}
use Rattle.std.proofs.Math.Path.{refl, sym}
use Rattle.std.proofs.Common.{ap, ◌∙◌, ltb-true, le-ltb}
use Rattle.std.proofs.Math.Option.{none, some, Option-elim}
use Rattle.std.proofs.Math.Dec.{ltb}
use Rattle.laws.specs.Tests.{on}
use Rattle.laws.specs.Checks.{first}
use Rattle.laws.specs.Numbered.{get_elem_numbered}
use Rattle.rulebook.specs.Kept.{Group}
use Rattle.answers.specs.Answering.{closing_bytes}
use Rattle.books.specs.Layout.{groups, groups_at, mpid_at, blocked_at, traded_buys_at, traded_sells_at}
use Rattle.books.specs.View.{flag, head_in, group_of, books_in, rows_of}
use Rattle.books.specs.Rules.{Valid}
use Rattle.books.specs.declared.Totals.{Totals}
use Rattle.store.specs.Making.{totals_in, totals_of}
use Rattle.rules.specs.Testing.{state_ok}
use Rattle.rules.specs.Meaning.{exactly}
use Rattle.fields.specs.Out.{refuses, begun}
use Rattle.calls.specs.Calling.{wrote, Closing, closing_left, group_at, closing_of, closed}
use Rattle.calls.specs.Keeping.{closing_written}

-- their line
abbrev pub line_for : Totals → List ℕ
line_for t = closing_bytes t.mpid t.traded_buys t.traded_sells t.open_buys t.open_sells t.blocked

-- what is left for totals
abbrev pub closing_by : Option Totals → List ℕ → Closing
closing_by (Some t) b = closing_left (wrote (line_for t)) (begun (line_for t) b)
closing_by None b = closing_left (refuses 5) b

-- their line has at most 96 bytes
abbrev pub ShortLine : Option Totals → Type 0
ShortLine (Some t) = length (line_for t) ≤ 96
ShortLine None = Unit {0}

module _ (m : List ℕ) (i : ℕ) (e : state_ok m ≡ true) where
  v : Valid m
  v = (exactly m).0 e

  abbrev ng : ℕ
  ng = head_in (rows_of m) groups_at

  at_place : group_at m i ≡ cond (ltb i ng) (some (group_of (rows_of m) i)) none
  unfolding books_in
  at_place = get_elem_numbered (group_of (rows_of m)) ng i

  -- a listed group's line, from its row
  row_line : ltb i ng ≡ true → (b : List ℕ) → let cs = closing_of m (group_of (rows_of m) i) in closing_by (Some (totals_in (rows_of m) i)) b ≡ closing_left (wrote cs) (begun cs b)
  unfolding books_in
  row_line q b = let s = v.summed i (ltb-true i ng q) in let r = rows_of m groups i in
      λ j. closing_by (Some (record { mpid = r mpid_at; traded_buys = r traded_buys_at; traded_sells = r traded_sells_at; open_buys = s.open_buys j; open_sells = s.open_sells j; blocked = flag (r blocked_at) })) b

  pub totals_closed : (b : List ℕ) → 96 ≤ length b → closed m i b ≡ closing_by (totals_of (rows_of m) i) b
  unfolding closed first totals_of Option-elim
  totals_closed b h = rw (le-ltb (length b) 96 h, e) (ap (λ o. Option-elim o (closing_left (refuses 5) b) line) at_place
      ∙ on (λ t. ltb i ng ≡ t → Option-elim (cond t (some (group_of (rows_of m) i)) none) (closing_left (refuses 5) b) line ≡ closing_by (cond t (Some (totals_in (rows_of m) i)) None) b) (ltb i ng) (λ z q. sym (row_line q b)) (λ z q. refl) refl)
    where
      line : Group → Closing
      line g = closing_left (wrote (closing_of m g)) (begun (closing_of m g) b)

  pub totals_short : ShortLine (totals_of (rows_of m) i)
  unfolding totals_of books_in
  totals_short = on (λ t. ltb i ng ≡ t → ShortLine (cond t (Some (totals_in (rows_of m) i)) None)) (ltb i ng)
      (λ z q. let s = v.summed i (ltb-true i ng q) in rw (s.open_buys, s.open_sells) (closing_written m i (group_of (rows_of m) i) e (at_place ∙ rw q refl)).1) (λ z q. tt) refl
