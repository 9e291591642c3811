-- A worked question, by computation. Assumes nothing.
use mathlib.Core.Path.{◌≡◌, refl}
use lib.Ieee.{of_int, round, add, mul, div}
use Rattle.rounding.specs.Cut.{floor}
use Rattle.invert.specs.Invert.{scale_of, asked}

-- a whole table's questions are f64 steps: the start ramp's entry here is 32768
question : asked 27 13 ≡ 32767
unfolding asked scale_of floor of_int round add mul div
question = refl
