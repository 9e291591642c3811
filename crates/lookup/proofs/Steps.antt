-- Where v steps land among n entries with cap steps from each to the next. Assumes nothing.
use Prim.Native.Nat.{ℕ, ◌-◌, ◌*◌, ◌/◌, ◌≤◌, ◌<◌}
use native.Mathlib.Nat.{mul_comm, div-le_of_le-mul, mul-le-mul_right}
use native.Mathlib.Omega.{arith}
use Rattle.table.proofs.Quotient.{ceil_le_iff}
use Rattle.lookup.specs.Lookup.{upper, steps}

-- a position of 0..cap is within the steps of n entries, and a later one is further on
pub steps_le : {p cap : ℕ} (n : ℕ) → p ≤ cap → steps n p ≤ (n - 1) * cap
steps_le {p} {cap} n h = omega (arith, mul-le-mul_right (n - 1) h, mul_comm (n - 1) cap)

pub steps_mono : {p q : ℕ} (n : ℕ) → p ≤ q → steps n p ≤ steps n q
steps_mono n h = mul-le-mul_right (n - 1) h

module _ (cap n v : ℕ) (pos : 0 < cap) (some : 0 < n) (h : v ≤ (n - 1) * cap) where
  pub lower_lt : v / cap < n
  lower_lt =
      let l : v / cap ≤ n - 1 = div-le_of_le-mul cap (omega (arith, mul_comm cap (n - 1))) in
      omega arith

  pub upper_lt : upper cap v < n
  upper_lt = omega (arith, (ceil_le_iff v cap (n - 1) pos).1 h)
