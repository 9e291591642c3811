-- How a column's reach, its lowest and highest density, tells which rows of the plot the curve passes. Assumes nothing.
use mathlib.Core.Bool.{false}
use mathlib.Core.List.{List}
use Prim.Native.Nat.{ℕ, ◌≤◌, ◌<◌}
use native.Mathlib.Omega.{arith}
use borrow.Author.Tests.{leb-true, leb-false}
use lib.Dec.{leb}
use Rattle.table.proofs.Choice.{never}
use Rattle.placing.specs.declared.inside.Reach.{Reach}
use Rattle.placing.specs.Place.{row_of}
use Rattle.placing.specs.Reach.{Reaches}
use Rattle.placing.specs.Falls.{Tells}
use Rattle.picture.specs.Plot.{first_of, last_of, Passed}
use Rattle.placing.proofs.Placing.{row_falls}

module _ (t : List ℕ) (c row : ℕ) (r : Reach) (h : Reaches t (first_of c) (last_of c) r) where
  -- a row above the highest density's is not passed
  pub tells_not : row < row_of r.peak.density.0 → Tells false (Passed t c row)
  tells_not l =
      record {
        yes = λ e. absurd (never e);
        no = λ e p. omega (arith, row_falls _ _ (h.high.none_beyond p.peak p.peak_in), p.not_below);
      }

  -- one from there down to the lowest density's is
  pub tells : row_of r.peak.density.0 ≤ row → Tells (leb row (row_of r.valley.density.0)) (Passed t c row)
  tells l =
      record {
        yes =
            λ e.
            record {
              peak = r.peak.drive.0;
              peak_in = h.high.place;
              not_below = rw (← h.high.density) l;
              valley = r.valley.drive.0;
              valley_in = h.low.place;
              not_above = rw (← h.low.density) (leb-true row _ e);
            };
        no =
            λ e p.
            let above = row_falls _ _ (h.low.none_beyond p.valley p.valley_in) in
            omega (arith, leb-false row (row_of r.valley.density.0) e, above, p.not_above);
      }
