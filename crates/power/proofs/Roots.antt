-- The whole square root: the definition computes one, there is only one, and it never falls. Assumes nothing.
use mathlib.Core.Path.{◌≡◌, refl}
use mathlib.Core.Bool.{Bool, true, false}
use Prim.Native.Nat.{ℕ, zero, suc, ◌+◌, ◌*◌, ◌/◌, ◌^◌, ◌≤◌, ◌<◌}
use native.Mathlib.Nat.{le_refl, le_antisymm, mul-le-mul, pow-zero}
use native.Mathlib.Omega.{arith}
use borrow.Author.Tests.{leb-true, leb-false}
use lib.Dec.{leb}
use Rattle.table.specs.Choice.{pick}
use Rattle.power.specs.Root.{IsRoot, or_one_more, root_below, root}

-- A larger number has no smaller root. [power]
pub roots_rise : {v w r s : ℕ} → IsRoot v r → IsRoot w s → v ≤ w → r ≤ s
roots_rise {v} {w} {r} {s} a b h =
    let no : (s < r → ⊥)
    = λ (l : s < r). let m : s + 1 ≤ r = omega arith in omega (arith, mul-le-mul m m, a.low, b.high) in
    omega arith

-- A number has one whole root. [power]
pub one_root : {v r s : ℕ} → IsRoot v r → IsRoot v s → r ≡ s
one_root {v} a b = le_antisymm (roots_rise a b (le_refl v)) (roots_rise b a (le_refl v))

-- a square's root
pub square_root : (u : ℕ) → IsRoot (u * u) u
square_root u = record { low = omega arith; high = omega arith }

pub root_le : {v r : ℕ} (u : ℕ) → IsRoot v r → v ≤ u * u → r ≤ u
root_le u a h = roots_rise a (square_root u) h

pub le_root : {v r : ℕ} (u : ℕ) → IsRoot v r → u * u ≤ v → u ≤ r
le_root u a h = roots_rise (square_root u) a h

-- The definition, from a quarter of v to v.
from_quarter : (v s : ℕ) → IsRoot (v / 4) s → IsRoot v (or_one_more v (2 * s))
unfolding or_one_more
from_quarter v s i = go (leb ((2 * s + 1) * (2 * s + 1)) v) refl
  where
    go : (b : Bool) → leb ((2 * s + 1) * (2 * s + 1)) v ≡ b → IsRoot v (pick b (2 * s + 1) (2 * s))
    go true e = record { low = leb-true _ _ e; high = omega (arith, i.high) }
    go false e = record { low = omega (arith, i.low); high = leb-false _ _ e }

below_is : (k v : ℕ) → v < 4 ^ k → IsRoot v (root_below k v)
unfolding root_below
below_is zero v h = record { low = omega (arith, pow-zero 4); high = omega (arith, pow-zero 4) }
below_is (suc k) v h =
    let q : v / 4 < 4 ^ k = omega arith in
    from_quarter v (root_below k (v / 4)) (below_is k (v / 4) q)

-- The definition is the whole root, of every number below 2^64. [power]
pub root_is : (v : ℕ) → v < 18446744073709551616 → IsRoot v (root v)
unfolding root
root_is v h = below_is 32 v h
