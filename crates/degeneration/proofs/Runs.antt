-- The run at an end of a table is as long as what an iterator from that end takes while its items equal the first.
-- Assumes nothing.
use mathlib.Core.Path.{◌≡◌, ◌∙◌, refl}
use mathlib.Core.Bool.{Bool, true, false, cond}
use mathlib.Core.List.{List, [], ◌∷◌, reverse}
use Prim.Native.Nat.{ℕ, suc, ◌+◌, ◌-◌, ◌<◌}
use native.Mathlib.Omega.{arith}
use lib.Dec.{eqb}
use lib.ListN.{length, get_or}
use Rattle.std.specs.List.{take_while, prefix_len}
use Rattle.std.proofs.lemmas.List.Folds.{length-prefix_len}
use Rattle.table.specs.Choice.{pick}
use Rattle.table.specs.Runs.{run}
use Rattle.table.proofs.Runs.{get_or_reverse}
use Rattle.degeneration.specs.Runs.{leading, trailing}

prefix_run : (y : ℕ) (l : List ℕ) → prefix_len (λ x. eqb x y) l ≡ run y l
unfolding run
prefix_run y [] = refl
prefix_run y (x ∷ l) =
    elim (eqb x y) as (λ (b : Bool). cond b (1 + prefix_len (λ x. eqb x y) l) 0 ≡ pick b (suc (run y l)) 0) [
      | false ↦ refl
      | true ↦ omega (arith, prefix_run y l)
    ]

taken_run : (y : ℕ) (l : List ℕ) → length (take_while (λ x. eqb x y) l) ≡ run y l
taken_run y l = length-prefix_len (λ x. eqb x y) l ∙ prefix_run y l

module _ (t : List ℕ) where
  pub leading_taken : length (take_while (λ x. eqb x (get_or t 0 0)) t) ≡ leading t
  unfolding leading
  leading_taken = taken_run (get_or t 0 0) t

  pub trailing_taken : 0 < length t
      → length (take_while (λ x. eqb x (get_or t (length t - 1) 0)) (reverse t)) ≡ trailing t
  unfolding leading
  trailing_taken h =
      let same : length t - 1 - 0 ≡ length t - 1 = omega arith in
      let last : get_or (reverse t) 0 0 ≡ get_or t (length t - 1) 0 = rw same at (get_or_reverse t 0 h) in
      rw (← last) (taken_run (get_or (reverse t) 0 0) (reverse t))
