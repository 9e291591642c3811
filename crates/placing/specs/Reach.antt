-- How low and how high a curve goes over a span of drives. Assumes nothing.
use Rattle.std.specs.Prelude.{ℕ, ◌≤◌, ◌≡◌, Bool, true, false, List}
use Rattle.placing.specs.declared.inside.Point.{Point}
use Rattle.placing.specs.declared.inside.Reach.{Reach}
use Rattle.placing.specs.Place.{density_at}

-- p is a drive of the span
pub record Within (first last p : ℕ) : Type 0 where
  pub from : first ≤ p
  pub to : p ≤ last

-- x is the curve's point at drive p
pub record PointAt (t : List ℕ) (p : ℕ) (x : Point) : Type 0 where
  pub drive : x.drive.0 ≡ p
  pub density : x.density.0 ≡ density_at t p

-- of two points the first is kept, or where the test says so the other one takes its place
pub data Replaced (x y : Point) : Bool → Point → Type 0 where
  kept : Replaced x y false x
  taken : Replaced x y true y

-- x is a point of the curve from drive `first` to drive `last`, and its density is `upto` that of every other
pub record Extreme (upto : ℕ → ℕ → Type 0) (t : List ℕ) (first last : ℕ) (x : Point) : Type 0 where
  pub place : Within first last x.drive.0
  pub density : x.density.0 ≡ density_at t x.drive.0
  pub none_beyond : (p : ℕ) → Within first last p → upto x.density.0 (density_at t p)

abbrev pub AtMost : ℕ → ℕ → Type 0
AtMost d e = d ≤ e

abbrev pub AtLeast : ℕ → ℕ → Type 0
AtLeast d e = e ≤ d

-- r has the lowest and the highest density from drive `first` to drive `last`, each with a drive that has it
pub record Reaches (t : List ℕ) (first last : ℕ) (r : Reach) : Type 0 where
  pub low : Extreme AtMost t first last r.valley
  pub high : Extreme AtLeast t first last r.peak
