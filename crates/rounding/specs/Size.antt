-- The lesser of two floats, and a float without its sign. Assumes nothing.
use Rattle.std.specs.Prelude.{◌≡◌, false, ◌||◌, cond, Float}
use Rattle.std.specs.Float.{nan, inf, fin}
use Rattle.std.specs.Float.Ieee.{is_nan, lt}

-- x where it is above the bound, or a NaN, reads as the bound
unfoldable pub minimum : Float → Float → Float
minimum x bound = cond (is_nan x || lt bound x) bound x

-- |x|: a NaN stays one, and -0.0 becomes 0.0
unfoldable pub abs : Float → Float
abs nan = nan
abs (inf s) = inf false
abs (fin s m e) = fin false m e

pub record MinPromise (x bound r : Float) : Type 0 where
  pub value : r ≡ minimum x bound

pub record AbsPromise (x r : Float) : Type 0 where
  pub value : r ≡ abs x
