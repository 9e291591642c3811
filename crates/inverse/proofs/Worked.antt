-- Corners of the inverse, worked by computing the definitions. Assumes nothing.
use mathlib.Core.Path.{◌≡◌, refl}
use mathlib.Core.Bool.{Bool, true, false}
use mathlib.Core.List.{List, [], ◌∷◌}
use Prim.Native.Nat.{ℕ}
use lib.Ieee.{of_int, round, neg, add, sub, mul, div, lt, le}
use Rattle.table.specs.Choice.{pick}
use Rattle.table.specs.Runs.{run}
use Rattle.lookup.specs.Lookup.{lookup16, looked_up, weighted}
use Rattle.rounding.specs.Cut.{floor, ceil}
use Rattle.rounding.specs.Size.{abs}
use Rattle.inverse_tail.specs.Tail.{cell_of, node_of, rounded, between, tail}
use Rattle.inverse_start.specs.Start.{leading_zeros, trailing_tops, zero_at_once, first_left, first_right}
use Rattle.inverse.specs.Inverse.{search, searched, inverted}

-- the inverse of each of a list of values
each : List ℕ → List ℕ → List ℕ
unfolding inverted searched search first_right first_left zero_at_once trailing_tops leading_zeros run tail between
    rounded
    node_of cell_of abs ceil floor lookup16 weighted of_int round neg add sub mul div lt le
each t [] = []
each t (v ∷ l) = inverted t v ∷ each t l

-- document 01's case 6, which is not the least position, and case 11
case_6 : each (0 ∷ 100 ∷ 65535 ∷ []) (0 ∷ []) ≡ 255 ∷ []
unfolding each
case_6 = refl

case_11 : each (65535 ∷ 65535 ∷ []) (7 ∷ []) ≡ 0 ∷ []
unfolding each
case_11 = refl

-- [0, 100, 65535] of 3371 is 34405, and would be 34406 if the last candidate, r = l, were probed. That is x = 34407
-- here, and x - 1 looks up as the value: probed, it would be a hit. [inverse::lut_inverse_interp16]
last-not-probed :
    (each (0 ∷ 100 ∷ 65535 ∷ []) (3371 ∷ []) ≡ 34405 ∷ []) × (looked_up (0 ∷ 100 ∷ 65535 ∷ []) 34406 ≡ 3371)
unfolding each lookup16 weighted
last-not-probed = (refl, refl)

-- a table of one entry never divides by n - 1
one_entry : each (5 ∷ []) (0 ∷ 3 ∷ 5 ∷ 9 ∷ []) ≡ 0 ∷ 2 ∷ 32767 ∷ 65535 ∷ []
unfolding each
one_entry = refl

one_zero : each (0 ∷ []) (0 ∷ []) ≡ 32767 ∷ []
unfolding each
one_zero = refl

two_zeros : each (0 ∷ 0 ∷ []) (1 ∷ []) ≡ 65535 ∷ []
unfolding each
two_zeros = refl

-- a slope just below 0.01 answers x; just above, the line is followed, and falls below 0
slope_below : each (10 ∷ 665 ∷ []) (5 ∷ []) ≡ 2 ∷ []
unfolding each
slope_below = refl

slope_above : each (10 ∷ 666 ∷ []) (5 ∷ []) ≡ 0 ∷ []
unfolding each
slope_above = refl

-- r starts below the end
two_tops : each (0 ∷ 100 ∷ 65535 ∷ 65535 ∷ []) (101 ∷ []) ≡ 21845 ∷ []
unfolding each
two_tops = refl

-- r ≤ l answers 0 for every value
no_room : (v : ℕ) → inverted (0 ∷ 65535 ∷ 65535 ∷ []) v ≡ 0
unfolding inverted trailing_tops leading_zeros run first_right first_left
no_room v = go (zero_at_once v 1 2)
  where
    go : (a : Bool) → pick {A = ℕ} a 0 0 ≡ 0
    go true = refl
    go false = refl

-- `mlaf` as a product and a sum, each rounded: fused, the answer would be 50243
not_fused : each (0 ∷ 8286 ∷ 24858 ∷ 47388 ∷ []) (31617 ∷ []) ≡ 50244 ∷ []
unfolding each
not_fused = refl
