-- Numbered lists: f of the numbers below n at which a test holds, in their order; the least such number; and a sum over them.
use Rattle.std.specs.Prelude.{◌≡◌, false, not, ◌&&◌, length, ltb}
use Rattle.std.proofs.Math.Path.{refl, ap, ap₂}
use Rattle.std.proofs.Common.{sym, ◌∙◌, subst, arith, add-zero, ltb-true, lt-ltb, le-ltb}
use Rattle.std.proofs.Math.Bool.{Bool, true, cond, and-eq-true_iff, not-not}
use Rattle.std.proofs.lemmas.Bool.{false≢true}
use Rattle.std.proofs.Math.Option.{Option, none, some, none-ne-some, some-injective}
use mathlib.Core.List.{List, [], ◌∷◌, ◌++◌, map}
use Prim.Native.Nat.{ℕ, zero, suc, ◌+◌, ◌≤◌, ◌<◌}
use Rattle.std.proofs.Math.Decide.{dec_lt}
use Rattle.std.proofs.Math.ListN.{get_elem?}
use Rattle.laws.specs.Tests.{on}
use Rattle.laws.specs.Tables.{find, sum, All, Distinct, sum_append, Table, put}

-- ── the least number at which a test holds ──
abbrev least_from : (ℕ → Bool) → ℕ → ℕ → ℕ
least_from t i zero = i
least_from t i (suc k) = cond (t i) i (least_from t (suc i) k)

-- the least number below n at which t holds, and n where there is none
unfoldable pub least : (ℕ → Bool) → ℕ → ℕ
least t n = least_from t 0 n

at_from : (t : ℕ → Bool) (i k r : ℕ) → i ≤ r → r < i + k → ((j : ℕ) → i ≤ j → j < r → t j ≡ false) → t r ≡ true → least_from t i k ≡ r
at_from t i zero r le lt h e = omega arith
at_from t i (suc k) r le lt h e = elim (dec_lt i r) [
  | yes p ↦ rw (h i (omega arith) p) (at_from t (suc i) k r (omega arith) (omega arith) (λ j a b. h j (omega arith) b) e)
  | no np ↦ let q : i ≡ r = omega arith in rw (ap t q ∙ e) q
]

none_from : (t : ℕ → Bool) (i k : ℕ) → ((j : ℕ) → i ≤ j → j < i + k → t j ≡ false) → least_from t i k ≡ i + k
none_from t i zero h = omega arith
none_from t i (suc k) h = rw (h i (omega arith) (omega arith)) (none_from t (suc i) k (λ j a b. h j (omega arith) (omega arith)) ∙ omega arith)

pub least_at : (t : ℕ → Bool) (n r : ℕ) → r < n → ((j : ℕ) → j < r → t j ≡ false) → t r ≡ true → least t n ≡ r
unfolding least
least_at t n r lt h e = at_from t 0 n r (omega arith) (omega arith) (λ j a b. h j b) e

pub least_none : (t : ℕ → Bool) (n : ℕ) → ((j : ℕ) → j < n → t j ≡ false) → least t n ≡ n
unfolding least
least_none t n h = none_from t 0 n (λ j a b. h j (omega arith)) ∙ omega arith

-- below it the test fails, and at it, where it is below n, the test holds
pub record Least (t : ℕ → Bool) (n r : ℕ) : Type 0 where
  pub within : r ≤ n
  pub before : (j : ℕ) → j < r → t j ≡ false
  pub here : r < n → t r ≡ true

least_from_is : (t : ℕ → Bool) (i k : ℕ) → let r = least_from t i k in (i ≤ r) × (r ≤ i + k) × ((j : ℕ) → i ≤ j → j < r → t j ≡ false) × (r < i + k → t r ≡ true)
least_from_is t i zero = (omega arith, omega arith, (λ j a b. absurd (omega arith)), λ h. absurd (omega arith))
least_from_is t i (suc k) = on (λ b. t i ≡ b → let r = cond b i (least_from t (suc i) k) in (i ≤ r) × (r ≤ i + suc k) × ((j : ℕ) → i ≤ j → j < r → t j ≡ false) × (r < i + suc k → t r ≡ true)) (t i)
    (λ z e. (omega arith, omega arith, (λ j a b. absurd (omega arith)), λ h. e))
    (λ z e. let w = least_from_is t (suc i) k in
    (omega (arith, w.0), omega (arith, w.1), (λ j a b. elim (dec_lt i j) [ yes p ↦ w.2 j p b | no np ↦ let q : i ≡ j = omega arith in subst (λ n. t n ≡ false) q e ]), λ h. w.3 (omega arith))) refl

pub least_is : (t : ℕ → Bool) (n : ℕ) → Least t n (least t n)
unfolding least
least_is t n = let w = least_from_is t 0 n in record { within = omega (arith, w.1); before = λ j b. w.2 j (omega arith) b; here = λ h. w.3 (omega arith) }

-- ── a test of every number below n ──
unfoldable pub every : (ℕ → Bool) → ℕ → Bool
every t zero = true
every t (suc n) = every t n && t n

pub every_yes : (t : ℕ → Bool) (n : ℕ) → ((j : ℕ) → j < n → t j ≡ true) → every t n ≡ true
unfolding every
every_yes t zero h = refl
every_yes t (suc n) h = rw (every_yes t n (λ j lt. h j (omega arith))) (h n (omega arith))

pub every_each : (t : ℕ → Bool) (n : ℕ) → every t n ≡ true → (j : ℕ) → j < n → t j ≡ true
unfolding every
every_each t zero e j lt = absurd (omega arith)
every_each t (suc n) e j lt = let w = (and-eq-true_iff (every t n) (t n)).0 e in
    elim (dec_lt j n) [ yes p ↦ every_each t n w.0 j p | no np ↦ let q : j ≡ n = omega arith in ap t q ∙ w.1 ]

pub every_no : (t : ℕ → Bool) (n j : ℕ) → j < n → t j ≡ false → every t n ≡ false
every_no t n j lt e = on (λ b. every t n ≡ b → b ≡ false) (every t n) (λ z h. absurd (false≢true (sym e ∙ every_each t n h j lt))) (λ z h. refl) refl

-- no two numbers below n pass a test together
unfoldable pub apart : (ℕ → ℕ → Bool) → ℕ → Bool
apart t n = every (λ j. every (λ i. not (t i j)) j) n

pub apart_yes : (t : ℕ → ℕ → Bool) (n : ℕ) → ((i j : ℕ) → i < j → j < n → t i j ≡ false) → apart t n ≡ true
unfolding apart
apart_yes t n h = every_yes _ n (λ j lt. every_yes _ j (λ i l. ap not (h i j l lt)))

pub apart_each : (t : ℕ → ℕ → Bool) (n : ℕ) → apart t n ≡ true → (i j : ℕ) → i < j → j < n → t i j ≡ false
unfolding apart
apart_each t n e i j l lt = sym (not-not (t i j)) ∙ ap not (every_each (λ i. not (t i j)) j (every_each (λ j. every (λ i. not (t i j)) j) n e j lt) i l)

-- ── a sum over the numbers below n ──
unfoldable pub total : (ℕ → ℕ) → ℕ → ℕ
total f zero = 0
total f (suc n) = total f n + f n

pub total_none : (f : ℕ → ℕ) → total f 0 ≡ 0
unfolding total
total_none f = refl

pub total_more : (f : ℕ → ℕ) (n : ℕ) → total f (suc n) ≡ total f n + f n
unfolding total
total_more f n = refl

pub total_grows : (f : ℕ → ℕ) (m n : ℕ) → m ≤ n → total f m ≤ total f n
unfolding total
total_grows f m zero h = let q : m ≡ 0 = omega arith in rw q (omega arith)
total_grows f m (suc n) h = elim (dec_lt n m) [
  | yes p ↦ let q : m ≡ suc n = omega arith in rw q (omega arith)
  | no np ↦ omega (arith, total_grows f m n (omega arith))
]

ltb_suc : (j k : ℕ) → ltb j k ≡ ltb (suc j) (suc k)
ltb_suc j k = elim (dec_lt j k) [ yes p ↦ lt-ltb j k p ∙ sym (lt-ltb (suc j) (suc k) (omega arith)) | no np ↦ le-ltb j k (omega arith) ∙ sym (le-ltb (suc j) (suc k) (omega arith)) ]

module _ {A : Type 0} where
  abbrev from : (ℕ → Bool) → (ℕ → A) → ℕ → ℕ → List A
  from t f i zero = []
  from t f i (suc k) = cond (t i) (f i ∷ from t f (suc i) k) (from t f (suc i) k)

  -- f of the numbers below n at which t holds
  unfoldable pub those : (ℕ → Bool) → (ℕ → A) → ℕ → List A
  those t f n = from t f 0 n

  -- f of every number below n
  abbrev pub numbered : (ℕ → A) → ℕ → List A
  numbered f n = those (λ i. true) f n

  -- ── lists that agree; one more number ──
  same_from : (t u : ℕ → Bool) (f g : ℕ → A) (i k : ℕ) → ((j : ℕ) → i ≤ j → j < i + k → (t j ≡ u j) × (f j ≡ g j)) → from t f i k ≡ from u g i k
  same_from t u f g i zero h = refl
  same_from t u f g i (suc k) h = let w = h i (omega arith) (omega arith) in rw (w.0, w.1, same_from t u f g (suc i) k (λ j a b. h j (omega arith) (omega arith)))

  pub those_same : (t u : ℕ → Bool) (f g : ℕ → A) (n : ℕ) → ((j : ℕ) → j < n → (t j ≡ u j) × (f j ≡ g j)) → those t f n ≡ those u g n
  unfolding those
  those_same t u f g n h = same_from t u f g 0 n (λ j a b. h j (omega arith))

  more_from : (t : ℕ → Bool) (f : ℕ → A) (i k : ℕ) → from t f i (suc k) ≡ from t f i k ++ cond (t (i + k)) (f (i + k) ∷ []) []
  more_from t f i zero = rw (add-zero i)
  more_from t f i (suc k) =
      let next : from t f (suc i) (suc k) ≡ from t f (suc i) k ++ cond (t (i + suc k)) (f (i + suc k) ∷ []) [] = more_from t f (suc i) k ∙ ap (λ (j : ℕ). from t f (suc i) k ++ cond (t j) (f j ∷ []) []) (omega arith) in
      on (λ b. cond b (f i ∷ from t f (suc i) (suc k)) (from t f (suc i) (suc k)) ≡ cond b (f i ∷ from t f (suc i) k) (from t f (suc i) k) ++ cond (t (i + suc k)) (f (i + suc k) ∷ []) []) (t i)
      (λ e. ap (λ l. f i ∷ l) next) (λ e. next)

  pub those_more : (t : ℕ → Bool) (f : ℕ → A) (n : ℕ) → those t f (suc n) ≡ those t f n ++ cond (t n) (f n ∷ []) []
  unfolding those
  those_more t f n = more_from t f 0 n ∙ ap (λ (j : ℕ). from t f 0 n ++ cond (t j) (f j ∷ []) []) (omega arith)

  pub those_none : (t : ℕ → Bool) (f : ℕ → A) → those t f 0 ≡ []
  unfolding those
  those_none t f = refl

  length_from : (f : ℕ → A) (i k : ℕ) → length (from (λ i. true) f i k) ≡ k
  length_from f i zero = refl
  length_from f i (suc k) = ap suc (length_from f (suc i) k)

  pub length_numbered : (f : ℕ → A) (n : ℕ) → length (numbered f n) ≡ n
  unfolding those
  length_numbered f n = length_from f 0 n

  get_elem_from : (f : ℕ → A) (i k j : ℕ) → get_elem? (from (λ i. true) f i k) j ≡ cond (ltb j k) (some (f (i + j))) none
  get_elem_from f i zero j = rw (le-ltb j 0 (omega arith))
  get_elem_from f i (suc k) zero = rw (lt-ltb 0 (suc k) (omega arith), add-zero i)
  get_elem_from f i (suc k) (suc j) = get_elem_from f (suc i) k j ∙ ap₂ {C = Option A} (λ b (l : ℕ). cond b (some (f l)) none) (ltb_suc j k) (omega arith)

  -- the entry at a place
  pub get_elem_numbered : (f : ℕ → A) (n j : ℕ) → get_elem? (numbered f n) j ≡ cond (ltb j n) (some (f j)) none
  unfolding those
  get_elem_numbered f n j = get_elem_from f 0 n j ∙ ap (λ (l : ℕ). cond (ltb j n) (some (f l)) none) (omega arith)

  -- ── a rule of every entry, both ways ──
  all_from : (P : A → Type 0) (t : ℕ → Bool) (f : ℕ → A) (i k : ℕ) → ((j : ℕ) → i ≤ j → j < i + k → t j ≡ true → P (f j)) → All P (from t f i k)
  all_from P t f i zero h = tt
  all_from P t f i (suc k) h =
      let rest = all_from P t f (suc i) k (λ j a b. h j (omega arith) (omega arith)) in
      on (λ b. t i ≡ b → All P (cond b (f i ∷ from t f (suc i) k) (from t f (suc i) k))) (t i) (λ z e. (h i (omega arith) (omega arith) e, rest)) (λ z e. rest) refl

  pub all_those : (P : A → Type 0) (t : ℕ → Bool) (f : ℕ → A) (n : ℕ) → ((j : ℕ) → j < n → t j ≡ true → P (f j)) → All P (those t f n)
  unfolding those
  all_those P t f n h = all_from P t f 0 n (λ j a b. h j (omega arith))

  each_from : (P : A → Type 0) (t : ℕ → Bool) (f : ℕ → A) (i k : ℕ) → All P (from t f i k) → (j : ℕ) → i ≤ j → j < i + k → t j ≡ true → P (f j)
  each_from P t f i zero a j le lt e = absurd (omega arith)
  each_from P t f i (suc k) a j le lt e = on (λ b. t i ≡ b → All P (cond b (f i ∷ from t f (suc i) k) (from t f (suc i) k)) → P (f j)) (t i)
      (λ z q a. elim (dec_lt i j) [ yes p ↦ each_from P t f (suc i) k a.1 j p (omega arith) e | no np ↦ subst (λ n. P (f n)) (let q : i ≡ j = omega arith in q) a.0 ])
      (λ z q a. elim (dec_lt i j) [ yes p ↦ each_from P t f (suc i) k a j p (omega arith) e | no np ↦ absurd (false≢true (sym (subst (λ n. t n ≡ false) (let q : i ≡ j = omega arith in q) q) ∙ e)) ]) refl a

  pub each_those : (P : A → Type 0) (t : ℕ → Bool) (f : ℕ → A) (n : ℕ) → All P (those t f n) → (j : ℕ) → j < n → t j ≡ true → P (f j)
  unfolding those
  each_those P t f n a j lt e = each_from P t f 0 n a j (omega arith) (omega arith) e

  -- ── the search of the list is the search of the numbers ──
  find_from : (u : A → Bool) (t : ℕ → Bool) (f : ℕ → A) (i k : ℕ) → let r = least_from (λ j. t j && u (f j)) i k in find u (from t f i k) ≡ cond (ltb r (i + k)) (some (f r)) none
  find_from u t f i zero = rw (le-ltb i (i + 0) (omega arith)) refl
  find_from u t f i (suc k) =
      let r : ℕ = least_from (λ j. t j && u (f j)) (suc i) k in
      let end : ℕ → Option A = λ s. cond (ltb s (i + suc k)) (some (f s)) none in
      let rest : find u (from t f (suc i) k) ≡ end r = find_from u t f (suc i) k ∙ ap (λ (n : ℕ). cond (ltb r n) (some (f r)) none) (omega arith) in
      on (λ b. find u (cond b (f i ∷ from t f (suc i) k) (from t f (suc i) k)) ≡ end (cond (b && u (f i)) i r)) (t i)
      (λ e. on (λ b. cond b (some (f i)) (find u (from t f (suc i) k)) ≡ end (cond b i r)) (u (f i)) (λ q. rw (lt-ltb i (i + suc k) (omega arith)) refl) (λ q. rest))
      (λ e. rest)

  pub find_those : (u : A → Bool) (t : ℕ → Bool) (f : ℕ → A) (n : ℕ) → let r = least (λ j. t j && u (f j)) n in find u (those t f n) ≡ cond (ltb r n) (some (f r)) none
  unfolding those least
  find_those u t f n = find_from u t f 0 n ∙ ap (λ (k : ℕ). cond (ltb (least_from (λ j. t j && u (f j)) 0 n) k) (some (f (least_from (λ j. t j && u (f j)) 0 n))) none) (omega arith)

  -- what is found stands at the least number
  pub found_those : (u : A → Bool) (t : ℕ → Bool) (f : ℕ → A) (n : ℕ) {x : A} → find u (those t f n) ≡ some x → let r = least (λ j. t j && u (f j)) n in (r < n) × (f r ≡ x)
  found_those u t f n {x} e = go (ltb r n) refl (sym (find_those u t f n) ∙ e)
    where
      r : ℕ
      r = least (λ j. t j && u (f j)) n

      go : (b : Bool) → ltb r n ≡ b → cond b (some (f r)) none ≡ some x → (r < n) × (f r ≡ x)
      go true q h = (ltb-true _ _ q, some-injective (f r) x h)
      go false q h = absurd (none-ne-some x h)

  -- ── sums ──
  pub sum_those : (w : A → ℕ) (t : ℕ → Bool) (f : ℕ → A) (n : ℕ) → sum w (those t f n) ≡ total (λ i. cond (t i) (w (f i)) 0) n
  unfolding total
  sum_those w t f zero = rw (those_none t f)
  sum_those w t f (suc n) = rw (those_more t f n, sum_append w (those t f n) (cond (t n) (f n ∷ []) []), sum_those w t f n)
      (ap (λ k. total (λ i. cond (t i) (w (f i)) 0) n + k) (on (λ b. sum w (cond b (f n ∷ []) []) ≡ cond b (w (f n)) 0) (t n) (λ e. omega arith) (λ e. refl)))

  -- ── no two entries pass a test together ──
  none_find : (u : A → Bool) (f : ℕ → A) (i k : ℕ) → ((j : ℕ) → i ≤ j → j < i + k → u (f j) ≡ false) → find u (from (λ i. true) f i k) ≡ none
  none_find u f i zero h = refl
  none_find u f i (suc k) h = rw (h i (omega arith) (omega arith)) (none_find u f (suc i) k (λ j a b. h j (omega arith) (omega arith)))

  find_none : (u : A → Bool) (f : ℕ → A) (i k : ℕ) → find u (from (λ i. true) f i k) ≡ none → (j : ℕ) → i ≤ j → j < i + k → u (f j) ≡ false
  find_none u f i zero e j le lt = absurd (omega arith)
  find_none u f i (suc k) e j le lt = on (λ b. u (f i) ≡ b → cond b (some (f i)) (find u (from (λ i. true) f (suc i) k)) ≡ none → u (f j) ≡ false) (u (f i))
      (λ z q h. absurd (none-ne-some (f i) (sym h)))
      (λ z q h. elim (dec_lt i j) [ yes p ↦ find_none u f (suc i) k h j p (omega arith) | no np ↦ subst (λ n. u (f n) ≡ false) (let q : i ≡ j = omega arith in q) q ]) refl e

  distinct_from : (t : A → A → Bool) (f : ℕ → A) (i k : ℕ) → ((p q : ℕ) → i ≤ p → p < q → q < i + k → t (f p) (f q) ≡ false) → Distinct t (from (λ i. true) f i k)
  distinct_from t f i zero h = tt
  distinct_from t f i (suc k) h = (none_find (t (f i)) f (suc i) k (λ j a b. h i j (omega arith) (omega arith) (omega arith)), distinct_from t f (suc i) k (λ p q a b c. h p q (omega arith) b (omega arith)))

  pub distinct_numbered : (t : A → A → Bool) (f : ℕ → A) (n : ℕ) → ((p q : ℕ) → p < q → q < n → t (f p) (f q) ≡ false) → Distinct t (numbered f n)
  unfolding those
  distinct_numbered t f n h = distinct_from t f 0 n (λ p q a b c. h p q b (omega arith))

  apart_from : (t : A → A → Bool) (f : ℕ → A) (i k : ℕ) → Distinct t (from (λ i. true) f i k) → (p q : ℕ) → i ≤ p → p < q → q < i + k → t (f p) (f q) ≡ false
  apart_from t f i zero d p q a b c = absurd (omega arith)
  apart_from t f i (suc k) d p q a b c = elim (dec_lt i p) [
    | yes h ↦ apart_from t f (suc i) k d.1 p q h b (omega arith)
    | no nh ↦ subst (λ n. t (f n) (f q) ≡ false) (let e : i ≡ p = omega arith in e) (find_none (t (f i)) f (suc i) k d.0 q (omega arith) (omega arith))
  ]

  pub numbered_distinct : (t : A → A → Bool) (f : ℕ → A) (n : ℕ) → Distinct t (numbered f n) → (p q : ℕ) → p < q → q < n → t (f p) (f q) ≡ false
  unfolding those
  numbered_distinct t f n d p q b c = apart_from t f 0 n d p q (omega arith) b (omega arith)

pub map_those : {A B : Type 0} (h : A → B) (t : ℕ → Bool) (f : ℕ → A) (n : ℕ) → map h (those t f n) ≡ those t (λ i. h (f i)) n
unfolding those
map_those h t f n = go 0 n
  where
    go : (i k : ℕ) → map h (from t f i k) ≡ from t (λ i. h (f i)) i k
    go i zero = refl
    go i (suc k) = on (λ b. map h (cond b (f i ∷ from t f (suc i) k) (from t f (suc i) k)) ≡ cond b (h (f i) ∷ from t (λ i. h (f i)) (suc i) k) (from t (λ i. h (f i)) (suc i) k)) (t i)
        (λ e. ap (λ l. h (f i) ∷ l) (go (suc i) k)) (λ e. go (suc i) k)

-- ── an entry renewed, where it stands ──
module _ {A K : Type 0} (T : Table A K) (t : ℕ → Bool) (f g : ℕ → A) (y : A) where
  put_from : (i k : ℕ) → let r = least_from (λ j. t j && T.same (T.key y) (T.key (f j))) i k in
      g r ≡ y → ((j : ℕ) → i ≤ j → j < i + k → (j ≡ r → ⊥) → g j ≡ f j) → from t g i k ≡ put T y (from t f i k)
  unfolding put
  put_from i zero e h = refl
  put_from i (suc k) e h =
      let next : ℕ = least_from (λ j. t j && T.same (T.key y) (T.key (f j))) (suc i) k in
      let above : suc i ≤ next = (least_from_is (λ j. t j && T.same (T.key y) (T.key (f j))) (suc i) k).0 in
      let P : Bool → Bool → Type 0 = λ a b. g (cond (a && b) i next) ≡ y → ((j : ℕ) → i ≤ j → j < i + suc k → (j ≡ cond (a && b) i next → ⊥) → g j ≡ f j) →
      cond a (g i ∷ from t g (suc i) k) (from t g (suc i) k) ≡ cond a (cond b (y ∷ from t f (suc i) k) (f i ∷ put T y (from t f (suc i) k))) (put T y (from t f (suc i) k)) in
      on (λ b. P b (T.same (T.key y) (T.key (f i)))) (t i)
      (λ z. on (λ b. P true b) (T.same (T.key y) (T.key (f i)))
      (λ z e h. ap₂ {C = List A} (λ a l. a ∷ l) e (same_from t t g f (suc i) k (λ j a b. (refl, h j (omega arith) (omega arith) (λ q. omega arith)))))
      (λ z e h. ap₂ {C = List A} (λ a l. a ∷ l) (h i (omega arith) (omega arith) (λ q. omega (arith, above))) (put_from (suc i) k e (λ j a b. h j (omega arith) (omega arith)))))
      (λ z e h. put_from (suc i) k e (λ j a b. h j (omega arith) (omega arith))) e h
      ∙ on (λ b. cond b (cond (T.same (T.key y) (T.key (f i))) (y ∷ from t f (suc i) k) (f i ∷ put T y (from t f (suc i) k))) (put T y (from t f (suc i) k)) ≡ put T y (cond b (f i ∷ from t f (suc i) k) (from t f (suc i) k))) (t i)
      (λ z. refl) (λ z. refl)

  -- g is f but at the least number whose entry has the key of y, and there it is y
  pub put_those : (n : ℕ) → let r = least (λ j. t j && T.same (T.key y) (T.key (f j))) n in g r ≡ y → ((j : ℕ) → j < n → (j ≡ r → ⊥) → g j ≡ f j) → those t g n ≡ put T y (those t f n)
  unfolding those least
  put_those n e h = put_from 0 n e (λ j a b. h j (omega arith))
