-- A closing line shows what the day's lines and answers say of its desk, and asking for it again gives it again.
use Rattle.std.specs.Prelude.{◌≡◌, refl, true, List, [], ◌++◌, ℕ, ◌≤◌, length, drop, take}
use Rattle.std.proofs.Common.{sym, ◌∙◌, subst, arith, length-append, length-drop}
use Rattle.std.proofs.Math.Path.{ap}
use Rattle.std.proofs.Math.Option.{none, some, map}
use Rattle.std.proofs.Math.Decide.{dec_lt}
use Rattle.std.proofs.Math.ListN.{get_elem?}
use Rattle.std.proofs.Math.Seq.{take-append_seam, drop-append_seam}
use Rattle.laws.specs.Tests.{on, opt}
use Rattle.laws.specs.Tables.{at_map}
use Rattle.rulebook.specs.Lines.{Record}
use Rattle.rulebook.specs.Kept.{Group, Books, tally, fresh_books}
use Rattle.rulebook.specs.Day.{run}
use Rattle.rulebook.specs.Account.{account, desks}
use Rattle.rulebook.proofs.Sums as sums
use Rattle.rulebook.proofs.Sums.{listed, account_run}
use Rattle.books.specs.View.{view}
use Rattle.rules.specs.Testing.{state_ok}
use Rattle.fields.specs.Out.{refuses, begun}
use Rattle.calls.specs.Calling.{wrote, group_at, closing_of, Closing, closing_left, closed}
use Rattle.calls.specs.Keeping.{closing_short_buffer, closing_bad_state, closing_unlisted, closing_line_of, closing_written}
use Rattle.promises.specs.Day.{Sheet, sheet, Closes}
use Rattle.promises.proofs.Showing.{closing_shown}

-- ── the sums ──
abbrev sheet_of : Closing → Sheet
sheet_of r = record { number = r.said.number; line = take r.said.bytes r.buffer }

module _ (m : List ℕ) (i : ℕ) (b : List ℕ) (long : 96 ≤ length b) (e : state_ok m ≡ true) where
  -- the sheet, by the group at the place
  sheet_none : group_at m i ≡ none → sheet m i b ≡ record { number = 5; line = [] }
  sheet_none q = ap sheet_of (closing_unlisted m i b long e q)

  pub sheet_some : (g : Group) → group_at m i ≡ some g → sheet m i b ≡ record { number = 0; line = closing_of m g }
  sheet_some g q = ap sheet_of (closing_line_of m i b g long e q)
      ∙ ap (λ l. record { number = 0; line = l }) (take-append_seam (closing_of m g) (drop (length (closing_of m g)) b))

  module _ (n : ℕ) (xs : List Record) (v : view m ≡ run (fresh_books n) xs) where
    some_closes : (g : Group) → group_at m i ≡ some g → Closes (some g.mpid) (sums.tells (fresh_books n) xs) (sheet m i b)
    some_closes g q =
        let s = closing_shown g (tally g (view m).ledger.orders) (closing_of m g) (closing_written m i g e q).0 in
        let t : tally g (view m).ledger.orders ≡ account g.mpid (sums.tells (fresh_books n) xs) = ap (λ (b : Books). tally g b.ledger.orders) v ∙ account_run n xs i g (rw (← v) q) in
        subst (Closes (some g.mpid) (sums.tells (fresh_books n) xs)) (sym (sheet_some g q)) (refl, s.0, s.1 ∙ t)

    desk_at : get_elem? (desks (sums.tells (fresh_books n) xs)) i ≡ map (λ (g : Group). g.mpid) (group_at m i)
    unfolding fresh_books
    desk_at = ap (λ l. get_elem? l i) (sym (listed (fresh_books n) xs)) ∙ at_map (λ (g : Group). g.mpid) (run (fresh_books n) xs).ledger.groups i ∙ ap (λ (b : Books). map (λ (g : Group). g.mpid) (get_elem? b.ledger.groups i)) (sym v)

    pub closes : Closes (get_elem? (desks (sums.tells (fresh_books n) xs)) i) (sums.tells (fresh_books n) xs) (sheet m i b)
    closes = subst (λ o. Closes o (sums.tells (fresh_books n) xs) (sheet m i b)) (sym desk_at)
        (opt (λ o. group_at m i ≡ o → Closes (map (λ (g : Group). g.mpid) o) (sums.tells (fresh_books n) xs) (sheet m i b)) (group_at m i) (λ z q. sheet_none q) (λ g z q. some_closes g q) refl)

-- ── asked again ──
begun_length : (cs b : List ℕ) → length cs ≤ length b → length (begun cs b) ≡ length b
begun_length cs b h = length-append cs (drop (length cs) b) ∙ omega (arith, length-drop (length cs) b)

begun_twice : (cs b : List ℕ) → begun cs (begun cs b) ≡ begun cs b
begun_twice cs b = ap (λ l. cs ++ l) (drop-append_seam cs (drop (length cs) b))

-- a buffer that is left as found
refused_again : (m : List ℕ) (i n : ℕ) (b : List ℕ) → closed m i b ≡ closing_left (refuses n) b → closed m i (closed m i b).buffer ≡ closed m i b
refused_again m i n b h = ap (λ (r : Closing). closed m i r.buffer) h

pub closed_again : (m : List ℕ) (i : ℕ) (b : List ℕ) → closed m i (closed m i b).buffer ≡ closed m i b
closed_again m i b = elim (dec_lt (length b) 96) [
  | yes h ↦ refused_again m i 21 b (closing_short_buffer m i b h)
  | no h ↦ long (omega (arith, h))
]
  where
    same_line : 96 ≤ length b → state_ok m ≡ true → (g : Group) → group_at m i ≡ some g → closed m i (closed m i b).buffer ≡ closed m i b
    same_line h e g q =
        let cs = closing_of m g in
        let w = closing_line_of m i b g h e q in
        let z : 96 ≤ length (begun cs b) = omega (arith, begun_length cs b (omega (arith, (closing_written m i g e q).1))) in
        ap (λ (r : Closing). closed m i r.buffer) w ∙ closing_line_of m i (begun cs b) g z e q ∙ ap (closing_left (wrote cs)) (begun_twice cs b) ∙ sym w

    long : 96 ≤ length b → closed m i (closed m i b).buffer ≡ closed m i b
    long h = on (λ t. state_ok m ≡ t → closed m i (closed m i b).buffer ≡ closed m i b) (state_ok m)
        (λ z e. opt (λ o. group_at m i ≡ o → closed m i (closed m i b).buffer ≡ closed m i b) (group_at m i) (λ y q. refused_again m i 5 b (closing_unlisted m i b h e q)) (λ g y q. same_line h e g q) refl)
        (λ z e. refused_again m i 22 b (closing_bad_state m i b h e)) refl
