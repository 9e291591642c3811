-- The preconditions of this crate's inner functions. Assumes nothing.
use Rattle.std.specs.Prelude.{ℕ, ◌-◌, ◌*◌, ◌≤◌, ◌<◌}

-- v steps, cap from one entry to the next, end within n entries, and no sum on the way wraps
pub record StepsFit (cap n v : ℕ) : Type 0 where
  pub pos : 0 < cap
  pub small : cap ≤ 65535
  pub some : 0 < n
  pub inside : v ≤ (n - 1) * cap
