-- Lists searched by a test and summed, and tables: lists whose entries are told by a key.
use Rattle.std.specs.Prelude.{◌≡◌, Bool, true, length}
use Rattle.std.proofs.Math.Path.{refl, ap}
use Rattle.std.proofs.Common.{sym, ◌∙◌, subst, arith}
use Rattle.std.proofs.Math.Bool.{false, cond}
use Rattle.std.proofs.lemmas.Bool.{false≢true}
use Rattle.std.proofs.Math.Option
use Rattle.std.proofs.Math.Option.{Option, none, some, none-ne-some, some-injective}
use mathlib.Core.List.{List, [], ◌∷◌, ◌++◌, map, cons≢nil, head-eq_of_cons-eq, tail-eq_of_cons-eq}
use Prim.Native.Nat.{ℕ, zero, suc, ◌+◌, ◌≤◌}
use Rattle.std.proofs.lemmas.List.{length-map}
use Rattle.std.proofs.Math.ListN.{get_elem?}
use Rattle.laws.specs.Tests.{on, opt, is_none, Exact, exact_sym}

module _ {A : Type 0} where
  -- the first entry that passes the test
  abbrev pub find : (A → Bool) → List A → Option A
  find t [] = none
  find t (x ∷ xs) = cond (t x) (some x) (find t xs)

  abbrev pub sum : (A → ℕ) → List A → ℕ
  sum f [] = 0
  sum f (x ∷ xs) = f x + sum f xs

  abbrev pub All : (A → Type 0) → List A → Type 0
  All P [] = Unit {0}
  All P (x ∷ xs) = P x × All P xs

  -- no two entries pass the test together
  abbrev pub Distinct : (A → A → Bool) → List A → Type 0
  Distinct t [] = Unit {0}
  Distinct t (x ∷ xs) = (find (t x) xs ≡ none) × Distinct t xs

  pub all_map : (P Q : A → Type 0) → ((x : A) → P x → Q x) → (xs : List A) → All P xs → All Q xs
  all_map P Q f [] a = tt
  all_map P Q f (x ∷ xs) a = (f x a.0, all_map P Q f xs a.1)

  pub all_both : (P : A → Type 0) (xs ys : List A) → All P xs → All P ys → All P (xs ++ ys)
  all_both P [] ys a b = b
  all_both P (x ∷ xs) ys a b = (a.0, all_both P xs ys a.1 b)

  pub all_parts : (P : A → Type 0) (xs ys : List A) → All P (xs ++ ys) → All P xs × All P ys
  all_parts P [] ys a = (tt, a)
  all_parts P (x ∷ xs) ys a = let b = all_parts P xs ys a.1 in ((a.0, b.0), b.1)

  pub all_append : (P : A → Type 0) (xs : List A) (y : A) → All P xs → P y → All P (xs ++ (y ∷ []))
  all_append P xs y a p = all_both P xs (y ∷ []) a (p, tt)

  pub all_zip : (P Q R : A → Type 0) → ((x : A) → P x → Q x → R x) → (xs : List A) → All P xs → All Q xs → All R xs
  all_zip P Q R f [] a b = tt
  all_zip P Q R f (x ∷ xs) a b = (f x a.0 b.0, all_zip P Q R f xs a.1 b.1)

  -- what a search finds passes its test
  pub find_true : (t : A → Bool) (xs : List A) {x : A} → find t xs ≡ some x → t x ≡ true
  find_true t [] {x} e = absurd (none-ne-some x e)
  find_true t (y ∷ xs) {x} e = on (λ b. cond b (some y) (find t xs) ≡ some x → t x ≡ true) (t y)
      (λ q h. let p : y ≡ x = cc in cc) (λ q h. find_true t xs h) e

  pub all_find : (P : A → Type 0) (t : A → Bool) (xs : List A) {x : A} → All P xs → find t xs ≡ some x → P x
  all_find P t [] {x} a e = absurd (none-ne-some x e)
  all_find P t (y ∷ xs) {x} a e = on (λ b. cond b (some y) (find t xs) ≡ some x → P x) (t y)
      (λ q h. let p : y ≡ x = cc in rw p at a.0) (λ q h. all_find P t xs a.1 h) e

  pub all_at : (P : A → Type 0) (xs : List A) (i : ℕ) {x : A} → All P xs → get_elem? xs i ≡ some x → P x
  all_at P [] i {x} a e = absurd (none-ne-some x e)
  all_at P (y ∷ xs) zero {x} a e = subst P (some-injective y x e) a.0
  all_at P (y ∷ xs) (suc i) a e = all_at P xs i a.1 e

  pub sum_same : (f g : A → ℕ) (xs : List A) → All (λ x. f x ≡ g x) xs → sum f xs ≡ sum g xs
  sum_same f g [] a = refl
  sum_same f g (x ∷ xs) a = omega (arith, a.0, sum_same f g xs a.1)

  pub sum_append : (f : A → ℕ) (xs ys : List A) → sum f (xs ++ ys) ≡ sum f xs + sum f ys
  sum_append f [] ys = omega arith
  sum_append f (x ∷ xs) ys = omega (arith, sum_append f xs ys)

-- what is said of a list's entries, one after the other
infixr 4 ◌also◌
abbrev pub ◌also◌ : {A B : Type 0} → A → B → A × B
a also b = (a, b)

-- two lists, entry by entry
abbrev pub Each : {A B : Type 0} → (A → B → Type 0) → List A → List B → Type 0
Each R [] [] = Unit {0}
Each R [] (y ∷ ys) = ⊥
Each R (x ∷ xs) [] = ⊥
Each R (x ∷ xs) (y ∷ ys) = R x y × Each R xs ys

pub find_map : {A B : Type 0} (f : A → B) (t : B → Bool) (xs : List A) → find t (map f xs) ≡ Option.map f (find (λ x. t (f x)) xs)
find_map f t [] = refl
find_map f t (x ∷ xs) = on (λ b. cond b (some (f x)) (find t (map f xs)) ≡ Option.map f (cond b (some x) (find (λ x. t (f x)) xs))) (t (f x)) (λ q. refl) (λ q. find_map f t xs)

-- a list's images, and their parts
pub at_map : {A B : Type 0} (f : A → B) (xs : List A) (i : ℕ) → get_elem? (map f xs) i ≡ Option.map f (get_elem? xs i)
at_map f [] i = refl
at_map f (x ∷ xs) zero = refl
at_map f (x ∷ xs) (suc i) = at_map f xs i

pub record Parted {A B : Type 0} (f : A → B) (xs : List A) (ys : List B) (z : B) : Type 0 where
  pub before : List A
  pub at : A
  pub between : List A
  pub parted : xs ≡ before ++ (at ∷ between)
  pub images : map f before ≡ ys
  pub image : f at ≡ z

pub part_back : {A B : Type 0} (f : A → B) (xs : List A) (ys : List B) (z : B) (zs : List B) → map f xs ≡ ys ++ (z ∷ zs) → Parted f xs ys z
part_back f [] [] z zs e = absurd (cons≢nil (sym e))
part_back f [] (y ∷ ys) z zs e = absurd (cons≢nil (sym e))
part_back f (x ∷ xs) [] z zs e = record { before = []; at = x; between = xs; parted = refl; images = refl; image = head-eq_of_cons-eq e }
part_back f (x ∷ xs) (y ∷ ys) z zs e =
    let p = part_back f xs ys z zs (tail-eq_of_cons-eq e) in
    record { before = x ∷ p.before; at = p.at; between = p.between; parted = ap (λ l. x ∷ l) p.parted; images = λ i. head-eq_of_cons-eq e i ∷ p.images i; image = p.image }

-- what may happen to a table: nothing, an entry more at its end, an entry renewed
pub data Shift (A : Type 0) : Type 0 where
  stay : Shift A
  adds puts : A → Shift A

-- no entry is added
abbrev pub Steady : {A : Type 0} → Shift A → Type 0
Steady stay = Unit {0}
Steady (adds y) = ⊥
Steady (puts y) = Unit {0}

-- entries told by a key
pub record Table (A K : Type 0) : Type 0 where
  pub key : A → K
  pub same : K → K → Bool
  pub exact : Exact same

module _ {A K : Type 0} (T : Table A K) where
  abbrev pub keys : List A → List K
  keys = map T.key

  -- the first entry with the key
  unfoldable pub look : K → List A → Option A
  look k xs = find (λ x. T.same k (T.key x)) xs

  -- y takes the place of the first entry with its key
  unfoldable pub put : A → List A → List A
  put y [] = []
  put y (x ∷ xs) = cond (T.same (T.key y) (T.key x)) (y ∷ xs) (x ∷ put y xs)

  abbrev pub shifted : Shift A → List A → List A
  shifted stay xs = xs
  shifted (adds y) xs = xs ++ (y ∷ [])
  shifted (puts y) xs = put y xs

  -- the key is listed
  abbrev pub Has : K → List A → Type 0
  Has k xs = is_none (look k xs) ≡ false

  -- no two entries have one key
  abbrev pub Apart : List A → Type 0
  Apart xs = Distinct T.same (keys xs)

  -- ── what a search finds ──
  pub look_key : (k : K) (xs : List A) {x : A} → look k xs ≡ some x → k ≡ T.key x
  unfolding look
  look_key k xs {x} e = T.exact.only k (T.key x) (find_true (λ x. T.same k (T.key x)) xs e)

  pub look_self : (k : K) (xs : List A) {x : A} → look k xs ≡ some x → look (T.key x) xs ≡ some x
  look_self k xs {x} e = subst (λ k. look k xs ≡ some x) (look_key k xs e) e

  pub all_look : (P : A → Type 0) (k : K) (xs : List A) {x : A} → All P xs → look k xs ≡ some x → P x
  unfolding look
  all_look P k xs a e = all_find P (λ x. T.same k (T.key x)) xs a e

  -- whether a key is listed goes by the keys alone
  has_keys : (k : K) (xs : List A) → is_none (look k xs) ≡ is_none (find (T.same k) (keys xs))
  unfolding look
  has_keys k xs = opt (λ o. is_none o ≡ is_none (Option.map T.key o)) (look k xs) (λ e. refl) (λ x e. refl) ∙ ap is_none (sym (find_map T.key (T.same k) xs))

  pub has_same : (k : K) (xs ys : List A) → keys xs ≡ keys ys → is_none (look k xs) ≡ is_none (look k ys)
  has_same k xs ys e = has_keys k xs ∙ ap (λ l. is_none (find (T.same k) l)) e ∙ sym (has_keys k ys)

  -- entries among which a key is not found have other keys
  pub others : (k : K) (xs : List A) → find (T.same k) (keys xs) ≡ none → All (λ x. T.same k (T.key x) ≡ false) xs
  others k [] e = tt
  others k (x ∷ xs) e = on (λ b. cond b (some (T.key x)) (find (T.same k) (keys xs)) ≡ none → (b ≡ false) × All (λ x. T.same k (T.key x) ≡ false) xs) (T.same k (T.key x))
      (λ q h. absurd (none-ne-some (T.key x) (sym h))) (λ q h. (refl, others k xs h)) e

  -- an entry at a place is found by its key
  pub look_at : (xs : List A) (i : ℕ) {x : A} → Apart xs → get_elem? xs i ≡ some x → look (T.key x) xs ≡ some x
  unfolding look
  look_at [] i {x} d e = absurd (none-ne-some x e)
  look_at (y ∷ xs) zero {x} d e = rw (some-injective y x e, T.exact.self (T.key x)) refl
  look_at (y ∷ xs) (suc i) {x} d e = rw (exact_sym T.exact (T.key x) (T.key y), all_at (λ z. T.same (T.key y) (T.key z) ≡ false) xs i (others (T.key y) xs d.0) e) (look_at xs i d.1 e)

  -- ── an entry more ──
  pub look_append : (k : K) (xs : List A) (y : A) {x : A} → look k xs ≡ some x → look k (xs ++ (y ∷ [])) ≡ some x
  unfolding look
  look_append k [] y {x} e = absurd (none-ne-some x e)
  look_append k (a ∷ xs) y {x} e = on (λ b. cond b (some a) (look k xs) ≡ some x → cond b (some a) (look k (xs ++ (y ∷ []))) ≡ some x) (T.same k (T.key a))
      (λ q h. h) (λ q h. look_append k xs y h) e

  pub look_next : (k : K) (xs : List A) (y : A) → look k xs ≡ none → look k (xs ++ (y ∷ [])) ≡ cond (T.same k (T.key y)) (some y) none
  unfolding look
  look_next k [] y e = refl
  look_next k (a ∷ xs) y e = on (λ b. cond b (some a) (look k xs) ≡ none → cond b (some a) (look k (xs ++ (y ∷ []))) ≡ cond (T.same k (T.key y)) (some y) none) (T.same k (T.key a))
      (λ q h. absurd (none-ne-some a (sym h))) (λ q h. look_next k xs y h) e

  pub look_last : (xs : List A) (y : A) → look (T.key y) xs ≡ none → look (T.key y) (xs ++ (y ∷ [])) ≡ some y
  look_last xs y e = look_next (T.key y) xs y e ∙ ap (λ t. cond t (some y) none) (T.exact.self (T.key y))

  pub has_append : (k : K) (xs : List A) (y : A) → Has k xs → Has k (xs ++ (y ∷ []))
  unfolding look
  has_append k [] y h = absurd (false≢true (sym h))
  has_append k (x ∷ xs) y h = on (λ b. is_none (cond b (some x) (look k xs)) ≡ false → is_none (cond b (some x) (look k (xs ++ (y ∷ [])))) ≡ false) (T.same k (T.key x))
      (λ q e. e) (λ q e. has_append k xs y e) h

  miss_append : (k : K) (xs : List A) (y : A) → find (T.same k) (keys xs) ≡ none → T.same k (T.key y) ≡ false → find (T.same k) (keys (xs ++ (y ∷ []))) ≡ none
  miss_append k [] y e n = rw n refl
  miss_append k (x ∷ xs) y e n = on (λ b. cond b (some (T.key x)) (find (T.same k) (keys xs)) ≡ none → cond b (some (T.key x)) (find (T.same k) (keys (xs ++ (y ∷ [])))) ≡ none) (T.same k (T.key x))
      (λ q h. absurd (none-ne-some (T.key x) (sym h))) (λ q h. miss_append k xs y h n) e

  pub apart_append : (xs : List A) (y : A) → Apart xs → look (T.key y) xs ≡ none → Apart (xs ++ (y ∷ []))
  unfolding look
  apart_append [] y a e = (refl, tt)
  apart_append (x ∷ xs) y a e = on (λ b. cond b (some x) (look (T.key y) xs) ≡ none → Apart (x ∷ (xs ++ (y ∷ [])))) (T.same (T.key y) (T.key x))
      (λ q h. absurd (none-ne-some x (sym h)))
      (λ q h. (miss_append (T.key x) xs y a.0 (exact_sym T.exact (T.key x) (T.key y) ∙ q), apart_append xs y a.1 h)) e

  -- ── an entry renewed ──
  pub keys_put : (y : A) (xs : List A) → keys (put y xs) ≡ keys xs
  unfolding put
  keys_put y [] = refl
  keys_put y (x ∷ xs) = on (λ b. keys (cond b (y ∷ xs) (x ∷ put y xs)) ≡ keys (x ∷ xs)) (T.same (T.key y) (T.key x))
      (λ q. ap (λ k. k ∷ keys xs) (T.exact.only (T.key y) (T.key x) q)) (λ q. ap (λ l. T.key x ∷ l) (keys_put y xs))

  pub length_put : (y : A) (xs : List A) → length (put y xs) ≡ length xs
  length_put y xs = sym (length-map (put y xs) T.key) ∙ ap length (keys_put y xs) ∙ length-map xs T.key

  pub keys_steady : (s : Shift A) (xs : List A) → Steady s → keys (shifted s xs) ≡ keys xs
  keys_steady stay xs h = refl
  keys_steady (adds y) xs h = absurd h
  keys_steady (puts y) xs h = keys_put y xs

  pub look_put : (y : A) (xs : List A) {x : A} → look (T.key y) xs ≡ some x → look (T.key y) (put y xs) ≡ some y
  unfolding look put
  look_put y [] {x} e = absurd (none-ne-some x e)
  look_put y (a ∷ xs) {x} e = on (λ b. cond b (some a) (look (T.key y) xs) ≡ some x → look (T.key y) (cond b (y ∷ xs) (a ∷ put y xs)) ≡ some y) (T.same (T.key y) (T.key a))
      (λ q h. rw (T.exact.self (T.key y)) refl) (λ q h. rw q (look_put y xs h)) e

  pub look_other : (k : K) (y : A) (xs : List A) → T.same k (T.key y) ≡ false → look k (put y xs) ≡ look k xs
  unfolding look put
  look_other k y [] n = refl
  look_other k y (x ∷ xs) n = on (λ b. look k (cond b (y ∷ xs) (x ∷ put y xs)) ≡ cond (T.same k (T.key x)) (some x) (look k xs)) (T.same (T.key y) (T.key x))
      (λ q. rw (← T.exact.only (T.key y) (T.key x) q, n) refl) (λ q. ap (cond (T.same k (T.key x)) (some x)) (look_other k y xs n))

  pub put_self : (xs : List A) {x : A} → look (T.key x) xs ≡ some x → put x xs ≡ xs
  unfolding look put
  put_self [] e = refl
  put_self (y ∷ xs) {x} e = on (λ b. cond b (some y) (look (T.key x) xs) ≡ some x → cond b (x ∷ xs) (y ∷ put x xs) ≡ y ∷ xs) (T.same (T.key x) (T.key y))
      (λ q h. ap (λ z. z ∷ xs) (sym (some-injective y x h))) (λ q h. ap (λ l. y ∷ l) (put_self xs h)) e

  pub map_put : {B : Type 0} (f : A → B) (y : A) (xs : List A) {x : A} → look (T.key y) xs ≡ some x → f y ≡ f x → map f (put y xs) ≡ map f xs
  unfolding look put
  map_put f y [] e p = refl
  map_put f y (a ∷ xs) {x} e p = on (λ b. cond b (some a) (look (T.key y) xs) ≡ some x → map f (cond b (y ∷ xs) (a ∷ put y xs)) ≡ f a ∷ map f xs) (T.same (T.key y) (T.key a))
      (λ q h. let r : a ≡ x = cc in cc) (λ q h. ap (λ l. f a ∷ l) (map_put f y xs h p)) e

  pub sum_put : (f : A → ℕ) (y : A) (xs : List A) {x : A} → look (T.key y) xs ≡ some x → sum f (put y xs) + f x ≡ sum f xs + f y
  unfolding look put
  sum_put f y [] {x} e = absurd (none-ne-some x e)
  sum_put f y (a ∷ xs) {x} e = on (λ b. cond b (some a) (look (T.key y) xs) ≡ some x → sum f (cond b (y ∷ xs) (a ∷ put y xs)) + f x ≡ f a + sum f xs + f y) (T.same (T.key y) (T.key a))
      (λ q h. let r : f a ≡ f x = cc in omega arith) (λ q h. omega (arith, sum_put f y xs h)) e

  -- an entry's part of a sum
  pub part_within : (f : A → ℕ) (k : K) (xs : List A) {x : A} → look k xs ≡ some x → f x ≤ sum f xs
  unfolding look
  part_within f k [] {x} e = absurd (none-ne-some x e)
  part_within f k (a ∷ xs) {x} e = on (λ b. cond b (some a) (look k xs) ≡ some x → f x ≤ f a + sum f xs) (T.same k (T.key a))
      (λ q h. let r : f a ≡ f x = cc in omega arith) (λ q h. omega (arith, part_within f k xs h)) e

  pub all_put : (P : A → Type 0) (y : A) (xs : List A) → All P xs → P y → All P (put y xs)
  unfolding put
  all_put P y [] a p = tt
  all_put P y (x ∷ xs) a p = on (λ b. All P (cond b (y ∷ xs) (x ∷ put y xs))) (T.same (T.key y) (T.key x)) (λ q. (p, a.1)) (λ q. (a.0, all_put P y xs a.1 p))

  -- the entries with other keys change what they have
  pub all_put_others : (P Q : A → Type 0) (y : A) → ((x : A) → T.same (T.key y) (T.key x) ≡ false → P x → Q x) → (xs : List A) → Apart xs → All P xs → Q y → All Q (put y xs)
  unfolding put
  all_put_others P Q y f [] d a p = tt
  all_put_others P Q y f (x ∷ xs) d a p = on (λ b. All Q (cond b (y ∷ xs) (x ∷ put y xs))) (T.same (T.key y) (T.key x))
      (λ q. (p, all_zip (λ x. T.same (T.key y) (T.key x) ≡ false) P Q f xs (others (T.key y) xs (rw (T.exact.only (T.key y) (T.key x) q) d.0)) a.1))
      (λ q. (f x q a.0, all_put_others P Q y f xs d.1 a.1 p))

  -- where no two entries have one key, a sum that differs at one key differs by one entry
  pub sum_one : (g h : A → ℕ) (k : K) → ((x : A) → T.same k (T.key x) ≡ false → h x ≡ g x) → (xs : List A) {o : A} → Apart xs → look k xs ≡ some o → sum h xs + g o ≡ sum g xs + h o
  unfolding look
  sum_one g h k f [] {o} d e = absurd (none-ne-some o e)
  sum_one g h k f (x ∷ xs) {o} d e = on (λ b. cond b (some x) (look k xs) ≡ some o → h x + sum h xs + g o ≡ g x + sum g xs + h o) (T.same k (T.key x))
      (λ q p. let r : x ≡ o = some-injective x o p in
      omega (arith, ap g r, ap h r, sum_same h g xs (all_map (λ x. T.same k (T.key x) ≡ false) (λ x. h x ≡ g x) f xs (others k xs (rw (T.exact.only k (T.key x) q) d.0)))))
      (λ q p. omega (arith, f x q, sum_one g h k f xs d.1 p)) e
