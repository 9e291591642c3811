-- What every guess at a square root keeps. Assumes nothing.
use Rattle.std.specs.Prelude.{ℕ, ◌+◌, ◌*◌, ◌≤◌, ◌<◌}

-- g is not below the whole root of v, and its square is within 64 bits
pub record NotBelowRoot (v g : ℕ) : Type 0 where
  pub not_below : v < (g + 1) * (g + 1)
  pub fits : g ≤ 4294967295
