-- The index from line to line: what a record does to the table's keys.
use Rattle.std.specs.Prelude.{◌≡◌, refl, true, List, [], ◌∷◌, ◌++◌, ℕ, ◌+◌, ◌≤◌, length}
use Rattle.std.proofs.Common.{sym, ap, ◌∙◌, subst, append-nil, arith}
use Rattle.laws.specs.Numbered.{apart}
use Rattle.rulebook.specs.Kept.{Asked, Books}
use Rattle.rulebook.specs.Judging.{Edit, nothing, opened, listed, remembered, taken, apply, judge}
use Rattle.books.specs.Layout.{room_for, room_of, places_at}
use Rattle.books.specs.View.{head_in, same_place, rows_of, view}
use Rattle.books.specs.Refining.{Counted}
use Rattle.books.proofs.Judged.{valid_counted}
use Rattle.chains.specs.Chain.{Clear, Chained}
use Rattle.store.specs.Indexing.{key_hash, Indexed, chains_kept, longer_table, same_keys, table_apart}
use Rattle.rules.specs.Testing.{state_ok}
use Rattle.rules.specs.Meaning.{exactly}
use Rattle.calls.specs.Calling.{said_by, recorded}
use Rattle.calls.specs.Keeping.{state_kept, books_after}
use Rattle.calls.specs.declared.Lent.{Lent}

-- how many places an index has to hold
abbrev pub most_places : Lent → List ℕ → ℕ
most_places (Lent.Line l) m = head_in (rows_of m) places_at
most_places (Lent.Block text) m = room_of m

pub most_enough : (x : Lent) (m : List ℕ) → Counted m → (head_in (rows_of m) places_at ≤ most_places x m) × (most_places x m ≤ 65_536)
most_enough (Lent.Line l) m c = (omega arith, omega (arith, c.few_places, c.most))
most_enough (Lent.Block text) m c = (c.few_places, omega (arith, c.most))

pub clear_less : {heads links : List ℕ} {n k : ℕ} → n ≤ k → Clear heads links k → Clear heads links n
clear_less le c = record { some = c.some; few = c.few; long = omega (arith, c.long); unset = c.unset }

-- chains of the first n places, which are all, or all but the last
pub record Linkable (m : List ℕ) (n : ℕ) (heads links : List ℕ) : Type 0 where
  pub counts : Counted m
  pub keys_apart : apart (same_place (rows_of m)) (head_in (rows_of m) places_at) ≡ true
  pub chained : Chained (key_hash m) heads links n
  pub not_less : n ≤ head_in (rows_of m) places_at
  pub one_more : head_in (rows_of m) places_at ≤ n + 1
  pub room : head_in (rows_of m) places_at ≤ length links

-- a record adds at most one request to the table
edit_adds : (b : Books) (e : Edit) → (rest : List Asked) × (length rest ≤ 1) × ((apply e b).asked ≡ b.asked ++ rest)
unfolding apply
edit_adds b nothing = ([], omega arith, sym (append-nil b.asked))
edit_adds b opened = ([], omega arith, sym (append-nil b.asked))
edit_adds b (listed d) = ([], omega arith, sym (append-nil b.asked))
edit_adds b (remembered a d) = (a ∷ [], omega arith, refl)
edit_adds b (taken d) = ([], omega arith, sym (append-nil b.asked))

-- so the chains that were its index are those of the places that there were
pub linkable : (m l b : List ℕ) {k heads links : List ℕ} → state_ok m ≡ true → 32 ≤ length b → Indexed m heads links → room_of m ≤ length links → k ≡ (recorded m l b).memory → length k ≡ length m →
    Linkable k (head_in (rows_of m) places_at) heads links
linkable m l b {k} ok room x fits e same =
    let adds = edit_adds (view m) (judge (view m) (said_by l)).edit in
    let table : (view k).asked ≡ (view m).asked ++ adds.0 = ap (λ k. (view k).asked) e ∙ ap (λ (b : Books). b.asked) (books_after m l b room ok) ∙ adds.2 in
    let v = (exactly k).0 (subst (λ k. state_ok k ≡ true) (sym e) (state_kept m l b ok)) in
    let c = valid_counted k v in
    let n = longer_table m k adds.0 table in
    record {
      counts = c;
      keys_apart = table_apart k v.sound.asked_apart;
      chained = chains_kept x k (same_keys m k adds.0 table);
      not_less = omega (arith, n);
      one_more = omega (arith, n, adds.1);
      room = omega (arith, c.few_places, fits, ap room_for same);
    }
