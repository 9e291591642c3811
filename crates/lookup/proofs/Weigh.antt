-- Two numbers a and b weighed by k of cap steps from a to b: the sum of products, over any cap. Assumes nothing.
use mathlib.Core.Path.{◌≡◌, ap}
use Prim.Native.Nat.{ℕ, ◌+◌, ◌-◌, ◌*◌, ◌≤◌}
use native.Mathlib.Nat.{mul-le-mul, mul-le-mul_right}
use native.Mathlib.Omega.{arith}
use Rattle.table.proofs.Quotient.{parted}

-- a product of two 16-bit numbers
pub product_le : {a k : ℕ} → a ≤ 65535 → k ≤ 65535 → a * k ≤ 65535 * 65535
product_le {a} {k} h l = mul-le-mul {n₁ = a} {m₁ = k} {n₂ = 65535} {m₂ = 65535} h l

module _ (cap a b : ℕ) where
  -- the sum is no more than cap times a bound of both, and no less than cap times what neither is below
  pub sum_le : (m k : ℕ) → a ≤ m → b ≤ m → k ≤ cap → b * k + a * (cap - k) ≤ m * cap
  sum_le m k am bm h = omega (arith, parted m h, mul-le-mul_right k bm, mul-le-mul_right (cap - k) am)

  pub le_sum : (m k : ℕ) → m ≤ a → m ≤ b → k ≤ cap → m * cap ≤ b * k + a * (cap - k)
  le_sum m k ma mb h = omega (arith, parted m h, mul-le-mul_right k mb, mul-le-mul_right (cap - k) ma)

  -- nearer to the larger it is no less
  pub sum_mono : (k j : ℕ) → a ≤ b → k ≤ j → j ≤ cap → b * k + a * (cap - k) ≤ b * j + a * (cap - j)
  sum_mono k j ab kj jc =
      let d : j - k ≤ cap - k = omega arith in
      let e : cap - k - (j - k) ≡ cap - j = omega arith in
      omega (arith, parted b kj, parted a d, ap (λ (n : ℕ). a * n) e, mul-le-mul_right (j - k) ab)
