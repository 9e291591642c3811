-- The run of 0 at a table's start and the run of 65535 at its end, and that the two do not meet. Assumes nothing.
use mathlib.Core.Path.{◌≡◌, ◌∙◌, sym}
use mathlib.Core.Logic.{⊎_elim}
use mathlib.Core.List.{List, reverse}
use Prim.Native.Nat.{ℕ, ◌+◌, ◌-◌, ◌≤◌, ◌<◌}
use native.Mathlib.Omega.{arith}
use lib.ListN.{length, get_or, length-reverse}
use Rattle.table.proofs.Choice.{below?}
use Rattle.table.proofs.Runs.{run_within, run_equal, get_or_reverse}
use Rattle.inverse_start.specs.Start.{leading_zeros, trailing_tops}

module _ (t : List ℕ) where
  pub zeros_le : leading_zeros t ≤ length t
  unfolding leading_zeros
  zeros_le = run_within 0 t

  pub tops_le : trailing_tops t ≤ length t
  unfolding trailing_tops
  tops_le = rw length-reverse at (run_within 65535 (reverse t))

  pub zero_entry : (i : ℕ) → i < leading_zeros t → get_or t i 0 ≡ 0
  unfolding leading_zeros
  zero_entry i h = run_equal 0 t i h

  pub top_entry : (i : ℕ) → i < trailing_tops t → get_or t (length t - 1 - i) 0 ≡ 65535
  unfolding trailing_tops
  top_entry i h = sym (get_or_reverse t i (omega (arith, tops_le))) ∙ run_equal 65535 (reverse t) i h

  -- No entry is both a leading zero and a trailing 65535. [inverse_start]
  pub runs_part : leading_zeros t + trailing_tops t ≤ length t
  runs_part = ⊎_elim meet (λ h. h) (below? (length t) (leading_zeros t + trailing_tops t))
    where
      meet : length t < leading_zeros t + trailing_tops t → leading_zeros t + trailing_tops t ≤ length t
      meet h =
          let i = trailing_tops t - 1 in
          let a : length t - 1 - i < leading_zeros t = omega (arith, zeros_le, tops_le) in
          let b : i < trailing_tops t = omega (arith, zeros_le) in
          let z : ◌≡◌ {A = ℕ} 0 65535 = sym (zero_entry (length t - 1 - i) a) ∙ top_entry i b in
          absurd (omega arith)
