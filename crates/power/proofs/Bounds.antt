-- A bound on the power from above in terms of A alone. It holds where the factor (β + 1)/β, which the roots may have
-- cut off, is small beside what is added to A. Assumes nothing.
use Prim.Native.Nat.{ℕ, ◌+◌, ◌*◌, ◌^◌, ◌≤◌, ◌<◌}
use native.Mathlib.Nat.{mul-le-mul_left, mul-le-mul_right, le_trans, one-le-pow, pow-le-pow_left}
use native.Mathlib.Nat.{le_of_mul-le-mul_right}
use native.Mathlib.Omega.{arith}
use Rattle.power.proofs.Arithmetic.{mul_pow}
use Rattle.power.proofs.Kept.{Ended}

module _ (U β p N w A Z : ℕ) (some : 0 < β) (e : Ended U β p N w A) where
  -- U·(β/U)^(p/N) is at most Z, if Z is at least (A + 1 + w)·(β + 1)/β, with A the power after w whole steps. [power]
  pub power_le : (β + 1) * (A + (1 + w)) ≤ β * Z → β ^ p * U ^ N ≤ Z ^ N * U ^ p
  power_le l =
      let h : β ^ p * U ^ N * β ^ N ≤ (β * Z) ^ N * U ^ p
      = le_trans e.high (mul-le-mul_right (U ^ p) (pow-le-pow_left l N)) in
      without (β ^ p) (U ^ N) (Z ^ N) (U ^ p) (β ^ N) (rw (mul_pow β Z N) at h) (one-le-pow N β some)
    where
      without : (a b c d B : ℕ) → a * b * B ≤ B * c * d → 0 < B → a * b ≤ c * d
      without a b c d B h k =
          let g : a * b * B ≤ c * d * B = omega arith in
          le_of_mul-le-mul_right g k

  -- After one to four whole steps U·(β/U)^(p/N) is at most 11 above the power. [power]
  pub power_le_11 : 0 < w → w ≤ 4 → A + 11 ≤ Z → β ^ p * U ^ N ≤ Z ^ N * U ^ p
  power_le_11 wp wl z =
      let a : A ≤ β = e.capped wp in
      power_le (omega (arith, mul-le-mul_left β z, mul-le-mul_left β wl))
