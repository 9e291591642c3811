-- The thirteen numbers, worked by computing the definitions. Assumes nothing.
use mathlib.Core.Path.{refl}
use lib.Ieee.{of_int, round, neg, add, sub, mul, div, lt, le}
use Rattle.table.specs.Sizes.{within}
use Rattle.table.specs.Fill.{tabulated}
use Rattle.table.specs.Runs.{run}
use Rattle.lookup.specs.Lookup.{weighted, lookup16}
use Rattle.gamma.specs.Gamma.{gamma_unit, gamma}
use Rattle.curve.specs.Ramp.{ramp}
use Rattle.least.specs.Least.{first, least_of}
use Rattle.rounding.specs.Cut.{floor, ceil}
use Rattle.rounding.specs.Size.{abs}
use Rattle.inverse_tail.specs.Tail.{cell_of, node_of, rounded, between, tail}
use Rattle.inverse_start.specs.Start.{leading_zeros, trailing_tops, zero_at_once, first_left, first_right}
use Rattle.inverse.specs.Inverse.{search, searched, inverted}
use Rattle.worked_numbers.specs.Thirteen.{Thirteen}

-- Each of document 01's thirteen numbers is an answer that its promise names. [worked_numbers]
pub thirteen : Thirteen
unfolding within tabulated weighted lookup16 gamma_unit gamma ramp first least_of inverted searched search first_right
    first_left zero_at_once trailing_tops leading_zeros run tail between rounded node_of cell_of abs ceil floor
    of_int round neg
    add sub mul div lt le
thirteen = record {
  case_1 = record { number = refl; value = refl };
  case_2 = record { number = refl; value = refl };
  case_3 = record { number = refl; value = refl };
  case_4 = record { number = refl; value = refl };
  case_5 = record { number = refl; value = refl };
  case_6 = record { number = refl; value = refl };
  case_7 = record { number = refl; value = refl };
  case_8 = record { number = refl; value = refl };
  case_9 = record { number = refl; value = refl };
  case_10 = record { number = refl; value = refl };
  case_11 = record { number = refl; value = refl };
  case_12 = record { number = refl; value = refl };
  case_13 = λ a b c. record { number = refl; table = refl };
}
