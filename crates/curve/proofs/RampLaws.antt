-- The straight curve of n entries: it begins at 0, ends at 65535, never falls, and stays within 16 bits. Assumes
-- nothing.
use mathlib.Core.Path.{◌≡◌, subst}
use mathlib.Core.Logic.{⊎_elim}
use mathlib.Core.Bool.{true}
use Prim.Native.Nat.{ℕ, ◌+◌, ◌-◌, ◌*◌, ◌≤◌, ◌<◌}
use native.Mathlib.Nat.{le_trans, div-eq_of_lt, div-eq_of_lt-le, div-mul-le_self, le-div_iff_mul-le}
use native.Mathlib.Omega.{arith}
use lib.ListN.{length, get_or, get_or-eq_default}
use Rattle.table.specs.Sizes.{spanned}
use Rattle.table.specs.Order.{Nondecreasing, SixteenBits}
use Rattle.table.proofs.Choice.{below?}
use Rattle.table.proofs.Sizes.{within_low}
use Rattle.table.proofs.Fill.{length_tabulated, get_or_tabulated}
use Rattle.curve.specs.Ramp.{ramp, ramp_of}

module _ (n : ℕ) (h : spanned n ≡ true) where
  -- there is something to divide by
  pub ramp_divisor : 0 < 2 * (n - 1)
  ramp_divisor = omega (arith, within_low 2 65536 n h)

  -- The straight curve begins at 0. [curve::start]
  pub ramp_first : ramp n 0 ≡ 0
  unfolding ramp
  ramp_first = div-eq_of_lt (omega (arith, within_low 2 65536 n h))

  -- The straight curve ends at 65535. [curve::start]
  pub ramp_last : ramp n (n - 1) ≡ 65535
  unfolding ramp
  ramp_last = div-eq_of_lt-le (2 * (n - 1)) (omega arith) (omega (arith, within_low 2 65536 n h))

  -- A later entry of the straight curve is not smaller. [curve::start]
  pub ramp_rises : (i j : ℕ) → i ≤ j → ramp n i ≤ ramp n j
  unfolding ramp
  ramp_rises i j ij =
      let m = div-mul-le_self (2 * 65535 * i + (n - 1)) (2 * (n - 1)) in
      (le-div_iff_mul-le ramp_divisor).1 (le_trans m (omega arith))

  -- Each entry of the straight curve is below 65,536. [curve::start]
  pub ramp_fits : (i : ℕ) → i < n → ramp n i < 65536
  ramp_fits i l = omega (arith, ramp_rises i (n - 1) (omega arith), ramp_last)

  -- As a table the straight curve is nondecreasing. [curve::start]
  pub ramp_order : Nondecreasing (ramp_of n)
  ramp_order i j ij l =
      let m : j < n = subst (λ (k : ℕ). j < k) (length_tabulated (ramp n) n) l in
      omega (arith, get_or_tabulated (ramp n) n i 0 (omega arith), get_or_tabulated (ramp n) n j 0 m, ramp_rises i j ij)

  -- As a table the straight curve is 16 bits wide. [curve::start]
  pub ramp_bits : SixteenBits (ramp_of n)
  ramp_bits i = ⊎_elim inside beyond (below? i n)
    where
      inside : i < n → get_or (ramp_of n) i 0 < 65536
      inside l = omega (arith, get_or_tabulated (ramp n) n i 0 l, ramp_fits i l)

      beyond : n ≤ i → get_or (ramp_of n) i 0 < 65536
      beyond l =
          let out : length (ramp_of n) ≤ i = omega (arith, length_tabulated (ramp n) n) in
          omega (arith, get_or-eq_default (ramp_of n) 0 out)
