-- Two answers worked out from the definitions, where one rounding for each sign and a fused product differ in the last
-- digit. Assumes nothing.
use mathlib.Core.Path.{◌≡◌, refl}
use mathlib.Core.List.{[], ◌∷◌}
use lib.Ieee.{binary32, binary64, add, sub, mul, div, lt, is_nan, of_int, of_bits}
use Rattle.rounding.specs.Cut.{floor, ceil}
use Rattle.rounding.specs.Nearest.{narrow}
use Rattle.interp.specs.Interp.{place, diff, unit, mixed, mixed_at, float_looked_up, weighed, weighed_up}
use Rattle.interp.specs.Interp.{linear_looked_up}

-- Of 0 and the smallest f32, at 0.5, the answer is the smallest f32, and fused it would be 0. Half of the smallest
-- rounds to 0, so the whole of it is left. [interp::lut_interp_linear_float]
pub float_plain : float_looked_up (of_bits binary32 0 ∷ of_bits binary32 1 ∷ []) (of_bits binary32 0x3f00_0000)
    ≡ of_bits binary32 1
unfolding float_looked_up mixed_at mixed place diff unit floor ceil add sub mul lt is_nan of_int of_bits
float_plain = refl

-- Of [8138, 10735] at 3fe9bd8e3e7f2985 the answer is 3e1fcc9e, and fused the last digit would be one more.
-- [interp::lut_interp_linear]
pub linear_plain : linear_looked_up (8138 ∷ 10735 ∷ []) (of_bits binary64 0x3fe9_bd8e_3e7f_2985)
    ≡ of_bits binary32 0x3e1f_cc9e
unfolding linear_looked_up weighed_up weighed place diff narrow floor ceil add sub mul div of_int of_bits
linear_plain = refl
