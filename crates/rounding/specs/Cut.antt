-- Floor and ceil of a float that is finite and not below zero, as whole numbers. Assumes nothing.
use Rattle.std.specs.Prelude.{◌≡◌, ℕ, ◌+◌, ◌-◌, ◌/◌, ◌≤◌, Float}
use Rattle.std.specs.Float.Ieee.Positive.{num, den}

-- x is the fraction num x / den x: its whole part
unfoldable pub floor : Float → ℕ
floor x = num x / den x

-- the least whole number that is not below it
unfoldable pub ceil : Float → ℕ
ceil x = (num x + (den x - 1)) / den x

pub record FloorPromise (x : Float) (r : ℕ) : Type 0 where
  pub value : r ≡ floor x
  pub small : r ≤ 65536

pub record CeilPromise (x : Float) (r : ℕ) : Type 0 where
  pub value : r ≡ ceil x
  pub small : r ≤ 65536
