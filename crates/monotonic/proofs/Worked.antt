-- The edges of the verdict, worked out by the checker from the definitions. Assumes nothing.
use mathlib.Core.Path.{◌≡◌, refl}
use mathlib.Core.List.{List, [], ◌∷◌, ◌++◌}
use Prim.Native.Nat.{ℕ}
use native.Mathlib.Omega.{arith}
use borrow.Author.Tests.{lt-leb}
use lib.ListN.{length, replicate, length-replicate}
use Rattle.std.specs.Prelude.{Ok, Err}
use Rattle.table.specs.declared.Refusal.TheVariants.{TableLength}
use Rattle.monotonic.specs.Steps.{few_enough}
use Rattle.monotonic.specs.Promises.{MonotonicPromise}
use Rattle.monotonic.specs.declared.Direction.{Direction}
use Rattle.monotonic.specs.declared.Direction.TheVariants.{Rising, Falling}
use Rattle.monotonic.specs.declared.Monotonic.{Monotonic}
use Rattle.monotonic.proofs.Promises.{monotonic_long, monotonic_answer}

-- n fives, with another number before them or after them
abbrev before : ℕ → ℕ → List ℕ
before x n = x ∷ replicate n 5

abbrev after : ℕ → ℕ → List ℕ
after n x = replicate n 5 ++ (x ∷ [])

-- One violation in 20 entries is too many and in 21 it is not: a fall in the last pair and in the first, then a rise in
-- each. [monotonic::is_curve_monotonic]
one-violation :
    (monotonic_answer (after 19 4) Rising ≡ Ok (Monotonic.No 1))
    × (monotonic_answer (after 20 4) Rising ≡ Ok (Monotonic.Yes 1))
    × (monotonic_answer (before 6 19) Rising ≡ Ok (Monotonic.No 1))
    × (monotonic_answer (before 6 20) Rising ≡ Ok (Monotonic.Yes 1))
    × (monotonic_answer (after 19 6) Falling ≡ Ok (Monotonic.No 1))
    × (monotonic_answer (after 20 6) Falling ≡ Ok (Monotonic.Yes 1))
    × (monotonic_answer (before 4 19) Falling ≡ Ok (Monotonic.No 1))
    × (monotonic_answer (before 4 20) Falling ≡ Ok (Monotonic.Yes 1))
unfolding monotonic_answer few_enough
one-violation = (refl, refl, refl, refl, refl, refl, refl, refl)

-- A rise is no violation of rising, and equal neighbours are none either way. Fewer than two entries have none; a pair
-- that falls has one, and the answer is no. [monotonic::is_curve_monotonic]
few-violations :
    (monotonic_answer (after 19 6) Rising ≡ Ok (Monotonic.Yes 0))
    × (monotonic_answer (replicate 20 5) Rising ≡ Ok (Monotonic.Yes 0))
    × (monotonic_answer (replicate 20 5) Falling ≡ Ok (Monotonic.Yes 0))
    × (monotonic_answer [] Rising ≡ Ok (Monotonic.Yes 0))
    × (monotonic_answer (5 ∷ []) Falling ≡ Ok (Monotonic.Yes 0))
    × (monotonic_answer (6 ∷ 5 ∷ []) Rising ≡ Ok (Monotonic.No 1))
unfolding monotonic_answer few_enough
few-violations = (refl, refl, refl, refl, refl, refl)

-- 65,537 entries are refused
monotonic_65537 : (x : ℕ) (d : Direction) → MonotonicPromise (replicate 65537 x) d (Err TableLength)
monotonic_65537 x d =
    monotonic_long _ d (lt-leb (length (replicate 65537 x)) 65536 (omega (arith, length-replicate 65537 x)))
