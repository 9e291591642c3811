-- The size of what is added before the last division. Assumes nothing.
use mathlib.Core.Path.{◌≡◌}
use mathlib.Core.Logic.{⊎_elim}
use Prim.Native.Nat.{ℕ, ◌≤◌, ◌<◌}
use native.Mathlib.Omega.{arith}
use borrow.Author.Tests.{lt-ltb, le-ltb}
use Rattle.table.proofs.Choice.{below?}
use Rattle.power_curve.specs.Curve.{added}

pub added_up : (p : ℕ) → p < 65536 → added p ≡ 65535
unfolding added
added_up p h = simp (lt-ltb p 65536 h)

pub added_nearest : (p : ℕ) → 65536 ≤ p → added p ≡ 32768
unfolding added
added_nearest p h = simp (le-ltb p 65536 h)

-- never a whole unit, and always at least what the power may be short of
pub added_size : (p : ℕ) → (added p < 65536) × (11 ≤ added p)
added_size p =
    ⊎_elim
    (λ (h : p < 65536). omega (arith, added_up p h))
    (λ (h : 65536 ≤ p). omega (arith, added_nearest p h))
    (below? p 65536)
