-- Document 01, "What is kept", "The net keeps its sign": what the sign and the size of a net say, at 0 and at the ceiling too.
use Rattle.std.specs.Prelude.{◌≡◌, refl, true, false, cond, ◌↔◌, ℕ, zero, suc, ◌+◌, ◌-◌, ◌≤◌, ◌<◌, ◌^◌, ltb, T, ℤ, pos, negsuc, ◌+ℤ◌, ◌-ℤ◌, neg_ℤ, nat_abs}
use Rattle.std.proofs.Common.{sym, ap, ◌∙◌, subst, arith, SFits, to_z, ltb-true, ltb-false}
use Rattle.std.proofs.Math.IntN.{+ℤ_idl, +ℤ_comm, neg_ℤ-neg_ℤ, neg_ℤ-+ℤ}
use Rattle.std.specs.Int.Signed.{mag, lt_z, non_neg}
use Rattle.std.specs.Int.{w64}
use Rattle.std.proofs.lemmas.Int.{to_z_pos}
use Rattle.laws.specs.Tests.{on}
use Rattle.rulebook.specs.Lines.{ceiling}
use Rattle.rulebook.specs.Kept.{net}

-- a net by its two cases: more is sold, or not
pub net_cases : (P : ℤ → Type 0) (b s : ℕ) → (b < s → P (negsuc (s - suc b))) → (s ≤ b → P (pos (b - s))) → P (net b s)
net_cases P b zero f g = let e : b - 0 ≡ b + 0 = omega arith in subst (λ n. P (pos n)) e (g (omega arith))
net_cases P b (suc s) f g = on (λ t. P (cond t (negsuc (suc s - suc b)) (pos (b - suc s)))) (ltb b (suc s)) (λ e. f (ltb-true b (suc s) e)) (λ e. g (ltb-false b (suc s) e))

-- THEOREM. The size of a net is how far apart buys and sells are
pub net_apart : (b s : ℕ) → nat_abs (net b s) ≡ (b - s) + (s - b)
net_apart b s = net_cases (λ z. nat_abs z ≡ (b - s) + (s - b)) b s (λ h. omega arith) (λ h. omega arith)

-- THEOREM. It is 0 exactly where they are equal
pub net_zero : (b s : ℕ) → (nat_abs (net b s) ≡ 0) ↔ (b ≡ s)
net_zero b s = (λ e. omega (arith, net_apart b s), λ e. omega (arith, net_apart b s))

-- THEOREM. It is never above the greater of the two
pub net_within : (b s m : ℕ) → b ≤ m → s ≤ m → nat_abs (net b s) ≤ m
net_within b s m h k = omega (arith, net_apart b s)

-- THEOREM. Minus is net sold
pub net_sold : (b s : ℕ) → (lt_z (net b s) (pos 0) ≡ true) ↔ (b < s)
net_sold b s = net_cases (λ z. (lt_z z (pos 0) ≡ true) ↔ (b < s)) b s (λ h. (λ e. h, λ k. refl)) (λ h. (λ e. absurd (omega (arith, ltb-true (b - s) 0 e)), λ k. absurd (omega arith)))

-- THEOREM. Buys and sells the other way round turn the sign alone
pub net_turned : (b s : ℕ) → net s b ≡ neg_ℤ (net b s)
net_turned b s = +ℤ_comm (pos s) (neg_ℤ (pos b)) ∙ sym (neg_ℤ-+ℤ (pos b) (neg_ℤ (pos s)) ∙ ap (λ z. neg_ℤ (pos b) +ℤ z) (neg_ℤ-neg_ℤ (pos s)))

-- THEOREM. At the ceiling, all of it bought and all of it sold
pub all_bought : (nat_abs (net ceiling 0) ≡ ceiling) × (lt_z (pos 0) (net ceiling 0) ≡ true)
all_bought = (refl, refl)

pub all_sold : (nat_abs (net 0 ceiling) ≡ ceiling) × (lt_z (net 0 ceiling) (pos 0) ≡ true)
all_sold = (refl, refl)

-- ── in an i64 ──
-- a number of size below 2 ^ 63 fits
pub size_fits : (z : ℤ) → nat_abs z < 2 ^ 63 → SFits w64 z
size_fits z h = record { sfits = omega (arith, mag_size z) }
  where
    mag_size : (z : ℤ) → mag z ≤ nat_abs z
    mag_size (pos n) = omega arith
    mag_size (negsuc n) = omega arith

pub net_fits : (b s : ℕ) → b < 2 ^ 63 → s < 2 ^ 63 → SFits w64 (net b s)
net_fits b s h k = size_fits (net b s) (omega (arith, net_apart b s))

-- what two casts and their difference compute
pub casts_net : (b s : ℕ) → b < 2 ^ 63 → s < 2 ^ 63 → to_z w64 b -ℤ to_z w64 s ≡ net b s
casts_net b s h k = rw (to_z_pos w64 b (omega arith), to_z_pos w64 s (omega arith))

pub casts_fit : (b s : ℕ) → b < 2 ^ 63 → s < 2 ^ 63 → SFits w64 (to_z w64 b -ℤ to_z w64 s)
casts_fit b s h k = rw (casts_net b s h k) (net_fits b s h k)

-- a number taken from 0 has the same size, and is not minus where it was
pub size_turned : (z : ℤ) → nat_abs (pos 0 -ℤ z) ≡ nat_abs z
size_turned z = ap nat_abs (+ℤ_idl (neg_ℤ z)) ∙ turned z
  where
    turned : (z : ℤ) → nat_abs (neg_ℤ z) ≡ nat_abs z
    turned (pos zero) = refl
    turned (pos (suc n)) = refl
    turned (negsuc n) = refl

pub minus_turned : (z : ℤ) → lt_z z (pos 0) ≡ true → T (non_neg (pos 0 -ℤ z))
minus_turned (pos n) e = let h : n < 0 = ltb-true n 0 e in absurd (omega arith)
minus_turned (negsuc n) e = tt

pub not_minus : (z : ℤ) → lt_z z (pos 0) ≡ false → T (non_neg z)
not_minus (pos n) e = tt
not_minus (negsuc n) e = subst T e tt
