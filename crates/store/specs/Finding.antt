-- What the searches of the lent words find.
use Rattle.std.specs.Prelude.{◌≡◌, true, cond, List, ℕ, ◌+◌, ◌*◌, ◌≤◌, ◌<◌, ltb, eqb, get_or}
use Rattle.std.proofs.Math.Path.{refl, sym}
use Rattle.std.proofs.Common.{◌∙◌}
use Rattle.std.proofs.Math.Option.{some, none}
use borrow.Author.Tests.{ltb-true, ltb-false, lt-ltb, le-ltb}
use Rattle.laws.specs.Tests.{on}
use Rattle.laws.specs.Tables.{look}
use Rattle.laws.specs.Numbered.{least, numbered, find_those}
use Rattle.laws.specs.Rows.{Sheet}
use Rattle.rulebook.specs.Names.{Mpid, Key, same_key}
use Rattle.rulebook.specs.Kept.{by_request}
use Rattle.packing.specs.Words.{named}
use Rattle.books.specs.Layout.{groups, symbols, base_of, width_of, keys, groups_at, symbols_at, places_at}
use Rattle.books.specs.View.{head_in, key_in, asked_of, rows_of}
use Rattle.books.specs.Writing.{group_index, symbol_index}
use Rattle.store.specs.declared.Key.{Key as KeyWords}
use Rattle.store.specs.declared.Found.{Found}
use Rattle.store.specs.declared.Found.TheVariants.{At, Free, Full}

-- the MPID that a word is, and the key of the code's words
abbrev pub mpid_word : ℕ → Mpid
mpid_word w = record { code = w }

abbrev pub named_by : KeyWords → Key
named_by k = record { owner = record { mpid = mpid_word k.owner }; name = named k.name }

-- the first of n rows that begins with a word
unfoldable pub first_row : List ℕ → ℕ → ℕ → ℕ → ℕ → ℕ
first_row m at width n w = least (λ i. eqb w (get_or m (at + i * width + 0) 0)) n

pub first_group : (m : List ℕ) (w : ℕ) → first_row m (base_of groups) (width_of groups) (head_in (rows_of m) groups_at) w ≡ group_index (rows_of m) (mpid_word w)
unfolding first_row group_index
first_group m w = refl

pub first_symbol : (m : List ℕ) (w : ℕ) → first_row m (base_of symbols) (width_of symbols) (head_in (rows_of m) symbols_at) w ≡ symbol_index (rows_of m) w
unfolding first_row symbol_index
first_symbol m w = refl

abbrev pub key_at : Sheet → ℕ → Key
key_at S i = key_in (S keys i)

-- "A request whose MPID and identifier are already in the table": the first such place; else the first free one, where there is room
unfoldable pub place_index : Sheet → Key → ℕ
place_index S k = least (λ i. same_key k (key_at S i)) (head_in S places_at)

unfoldable pub found_place : Sheet → ℕ → Key → Found
found_place S room k = let n = head_in S places_at in cond (ltb (place_index S k) n) (At (place_index S k)) (cond (ltb n room) (Free n) Full)

-- what the search answers, by the place that it comes to
module _ (S : Sheet) (room : ℕ) (k : Key) {i : ℕ} (e : i ≡ place_index S k) where
  pub found_at : i < head_in S places_at → At i ≡ found_place S room k
  unfolding found_place
  found_at lt = sym (rw (← e, lt-ltb i (head_in S places_at) lt) refl)

  none_found : head_in S places_at ≤ i → found_place S room k ≡ cond (ltb (head_in S places_at) room) (Free (head_in S places_at)) Full
  unfolding found_place
  none_found le = rw (← e, le-ltb i (head_in S places_at) le) refl

  pub found_free : head_in S places_at ≤ i → head_in S places_at < room → Free (head_in S places_at) ≡ found_place S room k
  found_free le lt = sym (none_found le ∙ rw (lt-ltb (head_in S places_at) room lt) refl)

  pub found_full : head_in S places_at ≤ i → room ≤ head_in S places_at → Full ≡ found_place S room k
  found_full le full = sym (none_found le ∙ rw (le-ltb (head_in S places_at) room full) refl)

-- THEOREM. What the search answers is what the rulebook looks up by the request's key, and whether a place is free
pub found_cases : (S : Sheet) (room : ℕ) (k : Key) (P : Found → Type 0) → let n = head_in S places_at in let asked = numbered (asked_of S) n in
    ((i : ℕ) → i < n → look by_request k asked ≡ some (asked_of S i) → P (At i)) → (look by_request k asked ≡ none → n < room → P (Free n)) → (look by_request k asked ≡ none → room ≤ n → P Full) → P (found_place S room k)
unfolding found_place place_index look
found_cases S room k P old free full = let n = head_in S places_at in
    let r = least (λ i. same_key k (key_at S i)) n in
    let e = find_those (λ a. same_key k a.request.key) (λ i. true) (asked_of S) n in
    on (λ b. ltb r n ≡ b → P (cond b (At r) (cond (ltb n room) (Free n) Full))) (ltb r n)
    (λ z q. old r (ltb-true r n q) (e ∙ rw q refl))
    (λ z q. let miss = e ∙ rw q refl in on (λ b. ltb n room ≡ b → P (cond b (Free n) Full)) (ltb n room) (λ y h. free miss (ltb-true n room h)) (λ y h. full miss (ltb-false n room h)) refl) refl
