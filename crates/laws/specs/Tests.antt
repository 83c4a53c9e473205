-- What a test tells: a goal taken by the two values of a test or of a search, and tests that are equality.
use Rattle.std.specs.Prelude.{◌≡◌, refl, Bool, true, false, not, ◌&&◌, ◌||◌, cond, eqb}
use Rattle.std.proofs.Common.{sym, ◌∙◌, eqb-true, eq-eqb}
use Rattle.std.proofs.Math.Bool.{decide, decide_iff, and-eq-true_iff}
use Rattle.std.proofs.lemmas.Bool.{false≢true}
use Rattle.std.proofs.Math.Option.{Option, none, some}
use mathlib.Core.HLevel.{Discrete}

-- a goal at a test, by the test's two values
pub on : (P : Bool → Type 0) (b : Bool) → (b ≡ true → P true) → (b ≡ false → P false) → P b
on P true f g = f refl
on P false f g = g refl

-- two tests together
pub both : {a b : Bool} → (a && b) ≡ true → (a ≡ true) × (b ≡ true)
both {a} {b} = (and-eq-true_iff a b).0

pub two : {a b : Bool} → a ≡ true → b ≡ true → (a && b) ≡ true
two {a} {b} p q = (and-eq-true_iff a b).1 (p, q)

pub first_fails : {a : Bool} (b : Bool) → a ≡ false → (a && b) ≡ false
first_fails b e = rw e refl

pub second_fails : (a : Bool) {b : Bool} → b ≡ false → (a && b) ≡ false
second_fails true e = e
second_fails false e = refl

pub neither : (a b : Bool) → not (a || b) ≡ true → (a ≡ false) × (b ≡ false)
neither true b e = absurd (false≢true e)
neither false true e = absurd (false≢true e)
neither false false e = (refl, refl)

module _ {A : Type 0} where
  -- a goal at a choice
  pub split : (P : A → Type 0) (b : Bool) (x y : A) → (b ≡ true → P x) → (b ≡ false → P y) → P (cond b x y)
  split P true x y f g = f refl
  split P false x y f g = g refl

  -- a goal at what may be missing
  pub opt : (P : Option A → Type 0) (o : Option A) → (o ≡ none → P none) → ((x : A) → o ≡ some x → P (some x)) → P o
  opt P none f g = f refl
  opt P (some x) f g = g x refl

  abbrev pub is_none : Option A → Bool
  is_none none = true
  is_none (some x) = false

  pub one_more : (b : Bool) (x : A) (o : Option A) → not (is_none (cond b (some x) o)) ≡ (b || not (is_none o))
  one_more true x o = refl
  one_more false x o = refl

  pub none_of : (o : Option A) → is_none o ≡ true → o ≡ none
  none_of none e = refl
  none_of (some x) e = absurd (false≢true e)

  pub some_of : (o : Option A) → is_none o ≡ false → (x : A) × (o ≡ some x)
  some_of none e = absurd (false≢true (sym e))
  some_of (some x) e = (x, refl)

-- a test that is true of equal things and of no others
pub record Exact {A : Type 0} (t : A → A → Bool) : Type 0 where
  pub self : (x : A) → t x x ≡ true
  pub only : (x y : A) → t x y ≡ true → x ≡ y

pub eqb_exact : Exact eqb
eqb_exact = record { self = λ n. eq-eqb n n refl; only = eqb-true }

module _ {A : Type 0} {t : A → A → Bool} (e : Exact t) where
  pub exact_sym : (x y : A) → t x y ≡ t y x
  exact_sym x y = on (λ b. b ≡ t y x) (t x y) (λ p. sym (rw (e.only x y p) (e.self y)))
      (λ p. on (λ b. false ≡ b) (t y x) (λ q. sym p ∙ rw (e.only y x q) (e.self x)) (λ q. refl))

  unfoldable pub exact_discrete : Discrete A
  exact_discrete x y = (elim (t x y) as (λ b. t x y ≡ b → Dec (x ≡ y)) [ true ↦ λ p. yes (e.only x y p) | false ↦ λ p. no (λ q. false≢true (sym p ∙ rw q (e.self y))) ]) refl

pub decide_exact : {A : Type 0} (d : Discrete A) → Exact (λ x y. decide (d x y))
decide_exact d = record { self = λ x. (decide_iff (d x x)).1 refl; only = λ x y p. (decide_iff (d x y)).0 p }

-- a thing is told by one part of it, or by two
module _ {A B : Type 0} (f : A → B) {s : B → B → Bool} (e : Exact s) where
  pub exact_by : ((x y : A) → f x ≡ f y → x ≡ y) → Exact (λ x y. s (f x) (f y))
  exact_by h = record { self = λ x. e.self (f x); only = λ x y p. h x y (e.only (f x) (f y) p) }

  pub exact_both : {C : Type 0} (g : A → C) {t : C → C → Bool} → Exact t → ((x y : A) → f x ≡ f y → g x ≡ g y → x ≡ y) → Exact (λ x y. s (f x) (f y) && t (g x) (g y))
  exact_both g {t} d h = record {
    self = λ x. (and-eq-true_iff (s (f x) (f x)) (t (g x) (g x))).1 (e.self (f x), d.self (g x));
    only = λ x y p. let q = (and-eq-true_iff (s (f x) (f y)) (t (g x) (g y))).0 p in h x y (e.only (f x) (f y) q.0) (d.only (g x) (g y) q.1);
  }
