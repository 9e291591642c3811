-- The float lookups of document 01, in the operations of IEEE 754, one rounding for each sign. Assumes nothing.
use Rattle.std.specs.Prelude.{ℕ, ◌-◌, Bool, ◌||◌, List, length, get_or, eqb, Float}
use Rattle.std.specs.Float.{nan, Format, binary32, binary64}
use Rattle.std.specs.Float.Ieee.{add, sub, mul, div, lt, is_nan}
use Rattle.table.specs.Choice.{pick}
use Rattle.ieee.specs.Range.{nought, one, float_in, float}
use Rattle.rounding.specs.Cut.{floor, ceil}
use Rattle.rounding.specs.Nearest.{narrow}

-- v = x·(n-1) rounded once
unfoldable pub place : Format → ℕ → Float → Float
place f n x = mul f x (float_in f (n - 1))

-- diff = upper - v, upper = ceil v
unfoldable pub diff : Format → Float → Float
diff f v = sub f (float_in f (ceil v)) v

-- x above 1 or NaN reads as 1, below 0 as 0
unfoldable pub unit : Float → Float
unit x = pick (is_nan x || lt one x) one (pick (lt x nought) nought x)

-- (tu - tu·diff) + tl·diff
unfoldable pub mixed : Float → Float → Float → Float
mixed tu tl d = add binary32 (sub binary32 tu (mul binary32 tu d)) (mul binary32 tl d)

-- the float lookup at v: tu is the entry at ceil v, tl the one at floor v
unfoldable pub mixed_at : List Float → Float → Float
mixed_at t v = mixed (get_or t (ceil v) nan) (get_or t (floor v) nan) (diff binary32 v)

-- `lut_interp_linear_float`
unfoldable pub float_looked_up : List Float → Float → Float
float_looked_up t x = mixed_at t (place binary32 (length t) (unit x))

-- NaN, below 0 or above 1
unfoldable pub outside_unit : Float → Bool
outside_unit x = is_nan x || (lt x nought || lt one x)

-- in f64, T[floor v]·d + T[ceil v]·(1-d)
unfoldable pub weighed : List ℕ → Float → Float
weighed t v =
    add binary64 (mul binary64 (float (get_or t (floor v) 0)) (diff binary64 v))
    (mul binary64 (float (get_or t (ceil v) 0)) (sub binary64 one (diff binary64 v)))

unfoldable pub weighed_up : List ℕ → Float → Float
weighed_up t x = weighed t (place binary64 (length t) x)

-- `lut_interp_linear`: as f32, times the f32 quotient 1/65535; an empty table answers the input as f32
unfoldable pub linear_looked_up : List ℕ → Float → Float
linear_looked_up t x =
    pick (eqb (length t) 0) (narrow x)
    (mul binary32 (narrow (weighed_up t x)) (div binary32 one (float_in binary32 65535)))
