-- The laws of the gamma lookup. Its unit is at least cap, so its answer is 16 bits wide. On a nondecreasing source it
-- never falls as the input rises, and it lies between what each of its two entries alone would give. Assumes nothing.
use Prim.Native.Nat.{ℕ, ◌+◌, ◌-◌, ◌*◌, ◌/◌, ◌^◌, ◌≤◌, ◌<◌}
use native.Mathlib.Nat.{le_trans, mul-le-mul_left, div-le_self, div-mul-le_self, div-lt_iff_lt-mul, le-div_iff_mul-le}
use native.Mathlib.Omega.{arith}
use lib.Pow.{pow_mono}
use Rattle.lookup.specs.Lookup.{lower, upper, steps}
use Rattle.gamma.specs.Gamma.{gamma_unit, gamma}
use Rattle.lookup.proofs.Steps.{steps_le}
use Rattle.table.proofs.Quotient.{div_mono}
use Rattle.lookup.proofs.Sum.{Rises, lower_le_sum, sum_le_upper, sum_rises}

-- 2^depth, for a depth of 1 to 16
pub power_low : (depth : ℕ) → 1 ≤ depth → 2 ≤ 2 ^ depth
power_low depth h = pow_mono h

pub power_high : (depth : ℕ) → depth ≤ 16 → 2 ^ depth ≤ 65536
power_high depth h = pow_mono h

module _ (N depth : ℕ) (shallow : 1 ≤ depth) (deep : depth ≤ 16) where
  pub unit_low : N - 1 ≤ gamma_unit N depth
  unfolding gamma_unit
  unit_low =
      let some : 0 < 2 ^ depth - 1 = omega (arith, power_low depth shallow) in
      let most : 2 ^ depth - 1 ≤ 65535 = omega (arith, power_high depth deep) in
      (le-div_iff_mul-le some).1 (mul-le-mul_left (N - 1) most)

  pub unit_high : N ≤ 65536 → gamma_unit N depth ≤ 65535 * 65535
  unfolding gamma_unit
  unit_high h = le_trans (div-le_self _ _) (omega arith)

-- a sum of at most 65535 for each of cap steps, in units of at least cap, rounds to at most 65535
pub rounded_fits : (s step unit : ℕ) → 0 < step → step ≤ unit → s ≤ 65535 * step → (s + unit / 2) / unit ≤ 65535
rounded_fits s step unit pos c h =
    let some : 0 < unit = omega arith in
    let sum : s + unit / 2 < 65536 * unit = omega (arith, div-mul-le_self unit 2) in
    let below : (s + unit / 2) / unit < 65536 = (div-lt_iff_lt-mul some).1 sum in
    omega arith

module _ (N depth n : ℕ)
    (T : ℕ → ℕ) (two : 2 ≤ N) (shallow : 1 ≤ depth) (deep : depth ≤ 16) (some : 0 < n) (R : Rises n T) where
  unit>0 : 0 < gamma_unit N depth
  unit>0 = omega (arith, unit_low N depth shallow deep)

  -- What an entry alone would give. [gamma::lut_interp_linear_gamma_impl]
  pub alone : ℕ → ℕ
  alone e = (e * (N - 1) + gamma_unit N depth / 2) / gamma_unit N depth

  -- On a nondecreasing table the code is at least what its lower entry alone would give.
  -- [gamma::lut_interp_linear_gamma_impl]
  pub lower_le_gamma : (x : ℕ) → x < N → alone (T (lower (N - 1) (steps n x))) ≤ gamma N depth T n x
  unfolding gamma alone
  lower_le_gamma x h =
      div_mono unit>0
      (omega (arith, lower_le_sum (N - 1) n T (omega arith) some R (steps n x) (steps_le n (omega arith))))

  -- On a nondecreasing table the code is at most what its upper entry alone would give.
  -- [gamma::lut_interp_linear_gamma_impl]
  pub gamma_le_upper : (x : ℕ) → x < N → gamma N depth T n x ≤ alone (T (upper (N - 1) (steps n x)))
  unfolding gamma alone
  gamma_le_upper x h =
      div_mono unit>0
      (omega (arith, sum_le_upper (N - 1) n T (omega arith) some R (steps n x) (steps_le n (omega arith))))

  -- On a nondecreasing table the code never falls as the input rises. [gamma::lut_interp_linear_gamma_impl]
  pub gamma_never_falls : (x y : ℕ) → x ≤ y → y < N → gamma N depth T n x ≤ gamma N depth T n y
  unfolding gamma
  gamma_never_falls x y xy h =
      div_mono unit>0 (omega (arith, sum_rises (N - 1) n T (omega arith) some R x y xy (omega arith)))
