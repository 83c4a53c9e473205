-- The index of the table: chains of the taken places by the hash of their keys.
use Rattle.std.specs.Prelude.{◌≡◌, Bool, true, false, ◌&&◌, ℕ, zero, suc, ◌+◌, ◌*◌, ◌-◌, ◌≤◌, ◌<◌, eqb, get_or}
use Rattle.std.proofs.Math.Path.{refl, sym, ap, fun_ext}
use Rattle.std.proofs.Common.{ap₂, ◌∙◌, subst, arith, lt-ltb}
use Rattle.std.proofs.Math.Bool.{and_assoc}
use Rattle.std.proofs.Math.Option.{some, some-injective}
use mathlib.Core.List.{List, [], ◌∷◌, ◌++◌}
use Rattle.std.proofs.Math.ListN.{length, get_elem?, length-append}
use Rattle.laws.specs.Tests.{exact_sym}
use Rattle.laws.specs.Tables.{Distinct, Apart}
use Rattle.laws.specs.Numbered.{every, least, apart, apart_yes, apart_each, numbered, length_numbered, get_elem_numbered, numbered_distinct, map_those}
use Rattle.rulebook.specs.Names.{Key, same_key, key_exact}
use Rattle.rulebook.specs.Kept.{Asked, by_request}
use Rattle.books.specs.Layout.{keys, base_of, width_of, places_at, owner_at, name_at, name_middle_at, name_tail_at}
use Rattle.books.specs.View.{head_in, asked_of, same_place, books_in, rows_of, view}
use Rattle.books.specs.Refining.{Counted}
use Rattle.chains.specs.Chain.{Walked, Met, walk_step, walk_met, walk_end, Chained}
use Rattle.chains.specs.Words.{HasRows, same_row, begins, hash_row, latest_of, walk_latest, met_least, rows_kept}
use Rattle.store.specs.declared.Key.{Key as KeyWords}
use Rattle.store.specs.Finding.{named_by, key_at, place_index}

-- ── keys as rows ──
four : (a b c d : Bool) → (((a && b) && c) && d) ≡ (a && (b && (c && d)))
four a b c d = and_assoc (a && b) c d ∙ and_assoc a b (c && d)

-- rows that begin with the same words are places with one key
pub places_same : (m : List ℕ) → same_row m (base_of keys) (width_of keys) (width_of keys) ≡ same_place (rows_of m)
unfolding same_row every
places_same m = let same : ℕ → ℕ → ℕ → Bool = λ k i j. eqb (rows_of m keys i k) (rows_of m keys j k) in
    fun_ext (λ i. fun_ext (λ j. four (same owner_at i j) (same name_at i j) (same name_middle_at i j) (same name_tail_at i j)))

-- the words of a key, and the place that begins with them
abbrev pub key_list : KeyWords → List ℕ
key_list k = k.owner ∷ k.name.head ∷ k.name.middle ∷ k.name.tail ∷ []

pub begins_key : (m : List ℕ) (k : KeyWords) → begins m (base_of keys) (width_of keys) (key_list k) 0 (width_of keys) ≡ (λ i. same_key (named_by k) (key_at (rows_of m) i))
unfolding begins every
begins_key m k = let S = rows_of m in
    fun_ext (λ i. four (eqb (S keys i owner_at) k.owner) (eqb (S keys i name_at) k.name.head) (eqb (S keys i name_middle_at) k.name.middle) (eqb (S keys i name_tail_at) k.name.tail)
    ∙ exact_sym key_exact (key_at S i) (named_by k))

pub place_found : (m : List ℕ) (k : KeyWords) {r : ℕ} → r ≡ least (begins m (base_of keys) (width_of keys) (key_list k) 0 (width_of keys)) (head_in (rows_of m) places_at) → r ≡ place_index (rows_of m) (named_by k)
unfolding place_index
place_found m k e = e ∙ ap (λ t. least t (head_in (rows_of m) places_at)) (begins_key m k)

-- ── the index ──
abbrev pub key_hash : List ℕ → ℕ → ℕ
key_hash m = hash_row m (base_of keys) (width_of keys) (width_of keys)

-- no two of the taken places have one key, and heads and links hold the chains of their keys
pub record Indexed (m heads links : List ℕ) : Type 0 where
  pub keys_apart : apart (same_place (rows_of m)) (head_in (rows_of m) places_at) ≡ true
  pub chained : Chained (key_hash m) heads links (head_in (rows_of m) places_at)

-- the rows of the keys are there
pub key_rows : (m : List ℕ) → Counted m → (n : ℕ) → n ≤ head_in (rows_of m) places_at → HasRows m (base_of keys) (width_of keys) (width_of keys) n
key_rows m c n le = record { few = omega (arith, c.few_places, c.most); most = omega arith; room = omega (arith, c.few_places, c.whole) }

pub rows_apart : {m heads links : List ℕ} → Indexed m heads links → apart (same_row m (base_of keys) (width_of keys) (width_of keys)) (head_in (rows_of m) places_at) ≡ true
rows_apart {m} x = subst (λ t. apart t (head_in (rows_of m) places_at) ≡ true) (sym (places_same m)) x.keys_apart

-- ── a search by the index ──
-- it goes along the chain of the key's slot
abbrev pub Seeks : List ℕ → KeyWords → List ℕ → ℕ → Type 0
Seeks m k links link = Walked (key_hash m) (begins m (base_of keys) (width_of keys) (key_list k) 0 (width_of keys)) links (head_in (rows_of m) places_at) link

pub seek_start : {m heads links : List ℕ} → Indexed m heads links → (k : KeyWords) → Seeks m k links (latest_of (key_list k) heads)
seek_start {m} x k = walk_latest m (base_of keys) (width_of keys) (key_list k) x.chained

module _ {m heads links : List ℕ} (x : Indexed m heads links) (k : KeyWords) {link : ℕ} (w : Seeks m k links link) where
  -- the place at which it stands has the key, or has it not
  pub seek_met : 0 < link → same_key (named_by k) (key_at (rows_of m) (link - 1)) ≡ true → link - 1 ≡ place_index (rows_of m) (named_by k)
  seek_met pos e = sought (walk_met w pos (ap (λ t. t (link - 1)) (begins_key m k) ∙ e))
    where
      sought : {r : ℕ} → Met (begins m (base_of keys) (width_of keys) (key_list k) 0 (width_of keys)) (head_in (rows_of m) places_at) r → r ≡ place_index (rows_of m) (named_by k)
      sought t = place_found m k (met_least m (base_of keys) (width_of keys) (width_of keys) (key_list k) 0 (head_in (rows_of m) places_at) (rows_apart x) t)

  pub seek_on : 0 < link → same_key (named_by k) (key_at (rows_of m) (link - 1)) ≡ false → Seeks m k links (get_or links (link - 1) 0)
  seek_on pos e = walk_step w pos (ap (λ t. t (link - 1)) (begins_key m k) ∙ e)

  -- at the end of the chain no place has it
  pub seek_end : link ≡ 0 → head_in (rows_of m) places_at ≡ place_index (rows_of m) (named_by k)
  seek_end z = place_found m k (met_least m (base_of keys) (width_of keys) (width_of keys) (key_list k) 0 (head_in (rows_of m) places_at) (rows_apart x) (walk_end w (omega arith)))

-- ── the index made ──
-- it is made by `chains::chain_rows` over the keys, where that answers true
pub indexed : {m heads links : List ℕ} → apart (same_row m (base_of keys) (width_of keys) (width_of keys)) (head_in (rows_of m) places_at) ≡ true → Chained (key_hash m) heads links (head_in (rows_of m) places_at) → Indexed m heads links
indexed {m} e c = record { keys_apart = subst (λ t. apart t (head_in (rows_of m) places_at) ≡ true) (places_same m) e; chained = c }

-- ── the index after a change of the memory ──
-- the words of a key are where its place is
abbrev key_word : Key → ℕ → ℕ
key_word k zero = k.owner.mpid.code
key_word k (suc zero) = k.name.head
key_word k (suc (suc zero)) = k.name.middle
key_word k (suc (suc (suc zero))) = k.name.tail
key_word k (suc (suc (suc (suc j)))) = 0

spelt : (m : List ℕ) (i k : ℕ) → k < width_of keys → get_or m (base_of keys + i * width_of keys + k) 0 ≡ key_word (key_at (rows_of m) i) k
spelt m i zero lt = refl
spelt m i (suc zero) lt = refl
spelt m i (suc (suc zero)) lt = refl
spelt m i (suc (suc (suc zero))) lt = refl
spelt m i (suc (suc (suc (suc k)))) lt = absurd (omega arith)

-- its chains are kept where the keys of the taken places are
module _ {m heads links : List ℕ} (x : Indexed m heads links) (l : List ℕ) (same : (i : ℕ) → i < head_in (rows_of m) places_at → key_at (rows_of l) i ≡ key_at (rows_of m) i) where
  pub chains_kept : Chained (key_hash l) heads links (head_in (rows_of m) places_at)
  chains_kept = rows_kept m l (base_of keys) (width_of keys) (width_of keys) (head_in (rows_of m) places_at)
      (λ i k lt less. spelt l i k less ∙ ap (λ q. key_word q k) (same i lt) ∙ sym (spelt m i k less)) x.chained

  -- and the whole of it where as many are taken
  pub index_kept : head_in (rows_of l) places_at ≡ head_in (rows_of m) places_at → Indexed l heads links
  index_kept e = record {
    keys_apart = rw e (apart_yes _ _ (λ i j below lt. ap₂ same_key (same i (omega arith)) (same j lt) ∙ apart_each _ _ x.keys_apart i j below lt));
    chained = rw e chains_kept;
  }

-- with one more place, which `chains::link_row` has linked
pub index_more : {m heads links : List ℕ} {n : ℕ} → head_in (rows_of m) places_at ≡ n → apart (same_place (rows_of m)) n ≡ true → Chained (key_hash m) heads links n → Indexed m heads links
index_more e a c = record { keys_apart = rw e a; chained = rw e c }

-- ── the same by what the table says ──
first_part : {A : Type 0} (xs ys : List A) (i : ℕ) → i < length xs → get_elem? (xs ++ ys) i ≡ get_elem? xs i
first_part [] ys i lt = absurd (omega arith)
first_part (x ∷ xs) ys zero lt = refl
first_part (x ∷ xs) ys (suc i) lt = first_part xs ys i (omega arith)

-- a table that begins with another has its keys, and as many places more as the rest has
module _ (m l : List ℕ) (rest : List Asked) (e : (view l).asked ≡ (view m).asked ++ rest) where
  pub longer_table : head_in (rows_of l) places_at ≡ head_in (rows_of m) places_at + length rest
  unfolding books_in
  longer_table = sym (length_numbered (asked_of (rows_of l)) _) ∙ ap length e ∙ length-append (view m).asked rest ∙ ap (λ (n : ℕ). n + length rest) (length_numbered (asked_of (rows_of m)) _)

  pub same_keys : (i : ℕ) → i < head_in (rows_of m) places_at → key_at (rows_of l) i ≡ key_at (rows_of m) i
  unfolding books_in
  same_keys i lt =
      let at : (k : List ℕ) → i < head_in (rows_of k) places_at → get_elem? (numbered (asked_of (rows_of k)) (head_in (rows_of k) places_at)) i ≡ some (asked_of (rows_of k) i) =
      λ k lt. get_elem_numbered (asked_of (rows_of k)) (head_in (rows_of k) places_at) i ∙ rw (lt-ltb i (head_in (rows_of k) places_at) lt) refl in
      ap (λ (a : Asked). a.request.key)
      (some-injective _ _ (sym (at l (omega (arith, longer_table))) ∙ ap (λ t. get_elem? t i) e ∙ first_part (view m).asked rest i (omega (arith, length_numbered (asked_of (rows_of m)) (head_in (rows_of m) places_at))) ∙ at m lt))

-- a table whose requests have keys of their own
pub table_apart : (m : List ℕ) → Apart by_request (view m).asked → apart (same_place (rows_of m)) (head_in (rows_of m) places_at) ≡ true
unfolding books_in
table_apart m a = let n = head_in (rows_of m) places_at in
    apart_yes _ n (numbered_distinct same_key (key_at (rows_of m)) n (subst (Distinct same_key) (map_those (λ (a : Asked). a.request.key) (λ i. true) (asked_of (rows_of m)) n) a))
