-- The precondition of the gamma lookup's private function. Assumes nothing.
use Rattle.std.specs.Prelude.{ℕ, ◌≤◌, ◌<◌}

-- the gamma lookup's numbers, once they are tested
pub record GammaFits (N depth x : ℕ) : Type 0 where
  pub two : 2 ≤ N
  pub most : N ≤ 65536
  pub shallow : 1 ≤ depth
  pub deep : depth ≤ 16
  pub below : x < N
