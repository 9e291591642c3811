-- The whole square root: what it is, and a definition that computes it. Assumes nothing.
use Rattle.std.specs.Prelude.{ℕ, zero, suc, ◌+◌, ◌*◌, ◌/◌, ◌≤◌, ◌<◌, leb}
use Rattle.table.specs.Choice.{pick}

-- r is the largest number whose square is at most v
pub record IsRoot (v r : ℕ) : Type 0 where
  pub low : r * r ≤ v
  pub high : v < (r + 1) * (r + 1)

-- s, or one more where the square of that is still at most v
unfoldable pub or_one_more : ℕ → ℕ → ℕ
or_one_more v s = pick (leb ((s + 1) * (s + 1)) v) (s + 1) s

-- the root of a v below 4^k: twice the root of a quarter of v, or one more
unfoldable pub root_below : ℕ → ℕ → ℕ
root_below zero v = 0
root_below (suc k) v = or_one_more v (2 * root_below k (v / 4))

-- the root of a v below 4^32
unfoldable pub root : ℕ → ℕ
root v = root_below 32 v
