-- A gamma tag's entry may be 1 to 1,024. Assumes nothing.
use mathlib.Core.Path.{◌≡◌, refl}
use Prim.Native.Nat.{ℕ, ◌*◌}
use native.Mathlib.Omega.{arith}
use Rattle.table.specs.Sizes.{within}
use Rattle.table.proofs.Choice.{same_test}
use Rattle.power_curve.specs.Curve.{exponent_of}
use Rattle.power_curve.specs.Promises.{allowed_exponent}

-- A gamma tag's entry k may be 1 to 1,024. [power_curve::tag_power, power_curve::tag_power_table]
pub entry_range : (k : ℕ) → allowed_exponent (exponent_of k) ≡ within 1 1024 k
unfolding within
entry_range k =
    let low = same_test 1 (256 * k) 1 k (λ h. omega arith) (λ h. omega arith) in
    let high = same_test (256 * k) 262144 k 1024 (λ h. omega arith) (λ h. omega arith) in
    rw (low, high) refl
