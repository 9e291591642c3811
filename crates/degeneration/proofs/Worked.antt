-- The edges of the verdict, worked out by the checker from the definitions. Assumes nothing.
use mathlib.Core.Path.{◌≡◌, refl}
use mathlib.Core.List.{[], ◌∷◌, ◌++◌}
use Prim.Native.Nat.{ℕ}
use native.Mathlib.Omega.{arith}
use borrow.Author.Tests.{lt-leb}
use lib.ListN.{length, replicate, length-replicate}
use Rattle.std.specs.Prelude.{true, false, Ok, Err}
use Rattle.table.specs.Runs.{run}
use Rattle.table.specs.declared.Refusal.TheVariants.{TableLength}
use Rattle.degeneration.specs.Runs.{leading, degenerated}
use Rattle.degeneration.specs.Promises.{DegeneratedPromise}
use Rattle.degeneration.proofs.Promises.{degenerated_long, degenerated_answer}

-- A run of 19 at an end is too short and one of 20 is not: at the first entry, and at the last.
-- [degeneration::is_curve_degenerated]
end-runs :
    (degenerated_answer (replicate 19 5 ++ (6 ∷ [])) ≡ Ok false)
    × (degenerated_answer (replicate 20 5 ++ (6 ∷ [])) ≡ Ok true)
    × (degenerated_answer (6 ∷ replicate 19 5) ≡ Ok false)
    × (degenerated_answer (6 ∷ replicate 20 5) ≡ Ok true)
unfolding degenerated_answer degenerated leading run
end-runs = (refl, refl, refl, refl)

-- Five in a hundred at both ends are no run that counts, and twenty in the middle are none. Fewer than two entries have
-- none; twenty alike are one. [degeneration::is_curve_degenerated]
no-percentage :
    (degenerated_answer (replicate 5 0 ++ (replicate 90 5 ++ replicate 5 9)) ≡ Ok false)
    × (degenerated_answer (1 ∷ (replicate 20 5 ++ (9 ∷ []))) ≡ Ok false)
    × (degenerated_answer [] ≡ Ok false)
    × (degenerated_answer (5 ∷ []) ≡ Ok false)
    × (degenerated_answer (replicate 20 5) ≡ Ok true)
unfolding degenerated_answer degenerated leading run
no-percentage = (refl, refl, refl, refl, refl)

-- 65,537 entries are refused
degenerated_65537 : (x : ℕ) → DegeneratedPromise (replicate 65537 x) (Err TableLength)
degenerated_65537 x =
    degenerated_long _ (lt-leb (length (replicate 65537 x)) 65536 (omega (arith, length-replicate 65537 x)))
