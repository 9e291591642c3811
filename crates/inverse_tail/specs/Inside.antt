-- The preconditions of this crate's inner functions. Assumes nothing.
use Rattle.std.specs.Prelude.{ℕ, ◌≤◌, ◌<◌}

-- two cells of a table of n entries
pub record CellsFit (n c0 c1 : ℕ) : Type 0 where
  pub few : n ≤ 65536
  pub inside0 : c0 < n
  pub inside1 : c1 < n
