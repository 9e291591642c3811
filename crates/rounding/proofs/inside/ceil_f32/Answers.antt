-- `ceil_f32` meets its promise: an f64 holds the same number. Assumes nothing.
use mathlib.Core.Path.{sym, subst}
use mathlib.Core.Bool.{not}
use lib.Dec.{T}
use lib.Ieee.{binary64, fits, is_nan}
use lib.Ieee.Fits.{and_i, fits_widens}
use Rattle.rounding.proofs.Cut.{upto_no_nan}
use Rattle.rounding.proofs.inside.ceil_f32.Goals as goal

pub float_to_float-x : goal.float_to_float-x
float_to_float-x c =
    let x = c.args.x in
    and_i (fits binary64 x) (not (is_nan x)) (fits_widens x (subst T (sym c.well_formed.0.1) tt))
    (upto_no_nan x c.requires)
