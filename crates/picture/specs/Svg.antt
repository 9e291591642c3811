-- How many pieces the svg file has, and what holds of each. Assumes nothing.
use Rattle.std.specs.Prelude.{ℕ, ◌+◌, ◌≤◌, leb}
use Rattle.table.specs.Choice.{pick}

-- a ring at each entry of a short table
unfoldable pub rings_of : ℕ → ℕ
rings_of n = pick (leb n 64) n 0

-- the head, the curve, the rings and the end
abbrev pub pieces_of : ℕ → ℕ
pieces_of n = 1297 + rings_of n + 1

-- the length of a piece that exists: some bytes, and all of them in the lent buffer
pub record Filled (r : ℕ) : Type 0 where
  pub some : 1 ≤ r
  pub room : r ≤ 512
