-- Document 02's bound from what is known of the power, for any N and any number k of parts to a unit, where M = k - 1
-- units stand for 1. Assumes nothing.
use mathlib.Core.Path.{◌≡◌, sym, ap, subst}
use mathlib.Core.Logic.{⊎_elim}
use Prim.Native.Nat.{ℕ, zero, suc, ◌+◌, ◌-◌, ◌*◌, ◌^◌, ◌≤◌, ◌<◌}
use native.Mathlib.Nat.{mul-le-mul, mul-le-mul_left, mul-le-mul_right, le_trans, mul_comm, mul-pos, one-le-pow}
use native.Mathlib.Nat.{pow-le-pow_left, le_of_mul-le-mul_right, zero-mul}
use native.Mathlib.Omega.{arith}
use Rattle.table.proofs.Choice.{below?}
use Rattle.power.proofs.Arithmetic.{mul_pow, zero_pow}
use Rattle.power.proofs.Kept.{Ended}
use Rattle.power.proofs.Bounds.{power_le, power_le_11}
use Rattle.power_curve.specs.Demand.{Near}

-- The bound in parts is the bound in units: k^N·k^p cancels on both sides.
module _ (k M N p x c : ℕ) (some : 0 < k) where
  cancelled : 0 < k ^ N * k ^ p
  cancelled = mul-pos (one-le-pow N k some) (one-le-pow p k some)

  units : (c * k) ^ N * (M * k) ^ p ≡ c ^ N * M ^ p * (k ^ N * k ^ p)
  units = rw (mul_pow c k N, mul_pow M k p) (omega arith)

  power_units : (x * k) ^ p * (M * k) ^ N ≡ x ^ p * M ^ N * (k ^ N * k ^ p)
  power_units = rw (mul_pow x k p, mul_pow M k N) (omega arith)

  low_in_units : (c * k) ^ N * (M * k) ^ p ≤ (x * k) ^ p * (M * k) ^ N → c ^ N * M ^ p ≤ x ^ p * M ^ N
  low_in_units h = le_of_mul-le-mul_right (rw (units, power_units) at h) cancelled

  high_in_units : (x * k) ^ p * (M * k) ^ N ≤ (c * k) ^ N * (M * k) ^ p → x ^ p * M ^ N ≤ c ^ N * M ^ p
  high_in_units h = le_of_mul-le-mul_right (rw (units, power_units) at h) cancelled

-- A is the power of x·k in parts, h is what is added to it, and n the units that this makes.
module _ (k M N p x n h A : ℕ) (unit : M + 1 ≡ k) (few : x ≤ M) (pos : 0 < p)
    (below : n * k ≤ A + h) (above : A + h < n * k + k) (small : h < k) where
  some : 0 < k
  some = omega arith

  -- one unit less is at most A, since less than a unit was added
  near_low : A ^ N * (M * k) ^ p ≤ (x * k) ^ p * (M * k) ^ N → (n - 1) ^ N * M ^ p ≤ x ^ p * M ^ N
  near_low l =
      low_in_units k M N p x (n - 1) some
      (le_trans (mul-le-mul_right ((M * k) ^ p) (pow-le-pow_left (before n below) N)) l)
    where
      before : (n : ℕ) → n * k ≤ A + h → (n - 1) * k ≤ A
      before zero i = let z : 0 - 1 ≡ 0 = omega arith in rw z (omega arith)
      before (suc n) i = let z : suc n - 1 ≡ n = omega arith in rw z (omega arith)

  abbrev High : Type 0
  High = x ^ p * M ^ N ≤ (n + 1) ^ N * M ^ p

  -- at x = 0 the power is 0
  high_none : x ≡ 0 → High
  high_none z = rw (z, zero_pow p pos, zero-mul (M ^ N)) (omega arith)

  -- with one to four whole steps a unit more holds A and the 11 parts that may be missing
  high_whole : (w : ℕ) → 0 < x → 0 < w → w ≤ 4 → 11 ≤ h → Ended (M * k) (x * k) p N w A → High
  high_whole w xp wp wl enough e =
      high_in_units k M N p x (n + 1) some
      (power_le_11 (M * k) (x * k) p N w A ((n + 1) * k) (mul-pos xp some) e wp wl (omega arith))

  -- with none it was rounded up, so that n units hold A; and a unit more holds what is missing, unless A is 1 already
  module _ (up : h + 1 ≡ k) where
    high_below : 0 < x → A + 1 ≤ M * k → Ended (M * k) (x * k) p N 0 A → High
    high_below xp room e =
        let a : A ≤ n * k = omega arith in
        let b : 1 * (k * M) ≤ x * (k * M) = mul-le-mul_right (k * M) xp in
        let c : x * k * A ≤ x * k * (n * k) = mul-le-mul_left (x * k) a in
        let d : x * k * k ≡ x * k * (M + 1) = ap (λ (z : ℕ). x * k * z) (sym unit) in
        high_in_units k M N p x (n + 1) some
        (power_le (M * k) (x * k) p N 0 A ((n + 1) * k) (mul-pos xp some) e (omega arith))

    high_full : M * k ≤ A → High
    high_full full =
        let a : M * k ≤ (n + 1) * k = omega arith in
        let i = mul-le-mul (pow-le-pow_left (mul-le-mul_right k few) p) (pow-le-pow_left a N) in
        high_in_units k M N p x (n + 1) some
        (rw (mul_comm (((n + 1) * k) ^ N) ((M * k) ^ p)) i)

    high_roots : 0 < x → Ended (M * k) (x * k) p N 0 A → High
    high_roots xp e =
        ⊎_elim (λ (l : A < M * k). high_below xp (omega arith) e) (λ (l : M * k ≤ A). high_full l) (below? A (M * k))

  pub near : (w : ℕ) → Ended (M * k) (x * k) p N w A → w ≤ 4 → (w ≡ 0 → h + 1 ≡ k) → 11 ≤ h → Near N M p x n
  near w e wl up enough = record {
    low = near_low e.low;
    high = ⊎_elim (λ (xp : 0 < x). high_some xp) (λ (l : x ≤ 0). high_none (omega arith)) (below? 0 x);
  }
    where
      high_some : 0 < x → High
      high_some xp =
          ⊎_elim
          (λ (wp : 0 < w). high_whole w xp wp wl enough e)
          (λ (l : w ≤ 0).
          let z : w ≡ 0 = omega arith in
          high_roots (up z) xp (subst (λ (v : ℕ). Ended (M * k) (x * k) p N v A) z e))
          (below? 0 w)

-- The bound alone leaves more than one answer: with an exponent of 1, x and both of its neighbours meet it.
pub near_by_one : (N M x n : ℕ) → n - 1 ≤ x → x ≤ n + 1 → Near N M N x n
near_by_one N M x n l h = record {
  low = mul-le-mul_right (M ^ N) (pow-le-pow_left l N);
  high = mul-le-mul_right (M ^ N) (pow-le-pow_left h N);
}
