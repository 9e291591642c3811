-- Where a curve falls as the drive rises. Assumes nothing.
use Rattle.std.specs.Prelude.{ℕ, ◌+◌, ◌≤◌, ◌<◌, ◌≡◌, Bool, true, false, List}
use Rattle.placing.specs.Place.{density_at}

-- the density at the next drive is below that at p
abbrev pub FallsAt : List ℕ → ℕ → Type 0
FallsAt t p = density_at t (p + 1) < density_at t p

-- of the steps from drive `first` to drive `last` there is one at which the curve falls
pub record Falls (t : List ℕ) (first last : ℕ) : Type 0 where
  pub drive : ℕ
  pub from : first ≤ drive
  pub to : drive < last
  pub falls : FallsAt t drive

-- a test's answer, both ways
pub record Tells (r : Bool) (P : Type 0) : Type 0 where
  pub yes : r ≡ true → P
  pub no : r ≡ false → P → ⊥
