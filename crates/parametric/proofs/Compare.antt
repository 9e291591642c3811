-- Two lists are close where every pair of their zip is. Assumes nothing.
use mathlib.Core.Path.{◌≡◌, ◌∙◌, refl, sym, ap}
use mathlib.Core.Bool.{Bool, true, false, ◌&&◌}
use mathlib.Core.List.{List, [], ◌∷◌}
use Prim.Native.Nat.{ℕ, zero, suc, min}
use native.Mathlib.Omega.{arith}
use lib.Ieee.{Float}
use lib.ListN.{length, take}
use Rattle.std.specs.List.{list_all, zip}
use mathlib.Core.Bool.{not}
use Rattle.table.specs.Choice.{both}
use Rattle.parametric.specs.Compare.{far, close}
use Rattle.parametric.specs.Promises.{ComparePromise}

-- the promise names one answer
pub compare_one : {src dst : List Float} {r s : Bool} → ComparePromise src dst r → ComparePromise src dst s → r ≡ s
compare_one a b = a.value ∙ sym b.value

-- the pairs at one place, none far apart
pub close_pairs : (src dst : List Float) → list_all (λ p. not (far p.0 p.1)) (zip src dst) ≡ close src dst
close_pairs [] dst = refl
close_pairs (s ∷ src) [] = refl
close_pairs (s ∷ src) (d ∷ dst) =
    elim (far s d)
    as (λ (b : Bool). (not b && list_all (λ p. not (far p.0 p.1)) (zip src dst)) ≡ both (not b) (close src dst)) [
      | false ↦ close_pairs src dst
      | true ↦ refl
    ]

-- both lists cut to the shorter length
pub close_cut : (n : ℕ) (src dst : List Float) → n ≡ min (length src) (length dst)
    → close (take n src) (take n dst) ≡ close src dst
close_cut zero [] dst e = refl
close_cut (suc n) [] dst e = absurd (omega arith)
close_cut zero (s ∷ src) [] e = refl
close_cut (suc n) (s ∷ src) [] e = absurd (omega arith)
close_cut zero (s ∷ src) (d ∷ dst) e = absurd (omega arith)
close_cut (suc n) (s ∷ src) (d ∷ dst) e = ap (both (not (far s d))) (close_cut n src dst (omega arith))
