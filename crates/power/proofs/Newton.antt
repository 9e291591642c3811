-- Newton's steps towards a square root, on whole numbers: a step from any guess above 0 is not below the root, and one
-- from a guess whose square is above v is smaller than the guess. Assumes nothing.
use mathlib.Core.Path.{◌≡◌, ◌∙◌, sym, subst}
use mathlib.Core.Logic.{⊎_elim}
use Prim.Native.Nat.{ℕ, zero, suc, ◌+◌, ◌*◌, ◌/◌, ◌%◌, ◌^◌, ◌≤◌, ◌<◌}
use native.Mathlib.Nat.{le_trans, le_of_eq, le_of_lt, lt_of_lt_of_le, le_dest, one-mul, mul-le-mul_right}
use native.Mathlib.Nat.{div-lt_iff_lt-mul, lt-div-mul-add, one-le-pow}
use native.Mathlib.Numerals.{one-add}
use native.Mathlib.Omega.{arith}
use lib.Dec.{lit<}
use lib.Pow.{pow_mono, pow-add, shl_exact}
use Rattle.table.proofs.Choice.{below?}
use Rattle.power.specs.Inside.{NotBelowRoot}

-- twice a product is at most the two squares: so a mean is not below the root of a product
squares : (a b : ℕ) → 2 * (a * b) ≤ a * a + b * b
squares a b =
    ⊎_elim (λ (h : a < b). ordered a b (le_of_lt h)) (λ (h : b ≤ a). omega (arith, ordered b a h)) (below? a b)
  where
    apart : (a d : ℕ) → 2 * (a * (a + d)) ≤ a * a + (a + d) * (a + d)
    apart a d = omega arith

    ordered : (a b : ℕ) → a ≤ b → 2 * (a * b) ≤ a * a + b * b
    ordered a b h = subst (λ (z : ℕ). 2 * (a * z) ≤ a * a + z * z) (le_dest h).1 (apart a (le_dest h).0)

-- A step from any guess above 0 is not below the root. With q for v / g and m for one more than the new guess: v < (q +
-- 1)·g, and (g + q + 1)·g ≤ 2·m·g ≤ m·m + g·g. [power]
pub step_above : (v g : ℕ) → 0 < g → v < ((g + v / g) / 2 + 1) * ((g + v / g) / 2 + 1)
step_above v g pos = above (v / g) ((g + v / g) / 2 + 1) (lt-div-mul-add {a = v} pos) (omega arith)
  where
    above : (q m : ℕ) → v < q * g + g → g + q + 1 ≤ 2 * m → v < m * m
    above q m next twice = omega (arith, mul-le-mul_right g twice, squares m g)

pub guess_above : (v g : ℕ) → v < g * g → 0 < g
guess_above v zero h = absurd (omega arith)
guess_above v (suc g) h = omega arith

module _ (v g : ℕ) (h : v < g * g) where
  pub quotient_below : v / g < g
  quotient_below = (div-lt_iff_lt-mul (guess_above v g h)).1 h

  -- A step from a guess whose square is above v is smaller than the guess. [power]
  pub step_below : (g + v / g) / 2 < g
  step_below = omega (arith, quotient_below)

  pub step_keeps : NotBelowRoot v g → NotBelowRoot v ((g + v / g) / 2)
  step_keeps k = record { not_below = step_above v g (guess_above v g h); fits = omega (arith, step_below, k.fits) }

-- The first guess, of a v of m binary digits, is a step from 2^(m/2).
module _ (v m : ℕ) (few : m ≤ 64) (h : v < 2 ^ m) where
  half_small : m / 2 ≤ 32
  half_small = omega arith

  pub start_small : 2 ^ (m / 2) ≤ 4294967296
  start_small = pow_mono half_small

  pub start_quotient : v / 2 ^ (m / 2) < 4294967296
  start_quotient =
      let some : 0 < 2 ^ (m / 2) = one-le-pow (m / 2) 2 (lit< tt) in
      let wide : 2 ^ m ≤ 4294967296 * 2 ^ (m / 2)
      = le_trans (pow_mono {i = m} {j = 32 + m / 2} (omega arith)) (le_of_eq (pow-add 2 32 (m / 2))) in
      (div-lt_iff_lt-mul some).1 (lt_of_lt_of_le h wide)

  -- The first guess is not below the root. [power]
  pub start_keeps : NotBelowRoot v ((2 ^ (m / 2) + v / 2 ^ (m / 2)) / 2)
  start_keeps = record {
    not_below = step_above v (2 ^ (m / 2)) (one-le-pow (m / 2) 2 (lit< tt));
    fits = omega (arith, start_small, start_quotient);
  }

-- a shift of 1 by fewer than 64 places loses nothing
pub shifted_one : (k : ℕ) → k < 64 → (1 * 2 ^ k) % 2 ^ 64 ≡ 2 ^ k
shifted_one k h = shl_exact {a = 1} 1 k 64 (lit< tt) (subst (λ (x : ℕ). x ≤ 64) (sym (one-add k)) h) ∙ one-mul (2 ^ k)
