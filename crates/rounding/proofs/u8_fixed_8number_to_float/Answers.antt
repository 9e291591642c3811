-- `u8_fixed_8number_to_float` meets its promise: x / 256 is exact in f64, and an f32 holds it. Assumes nothing.
use Rattle.rounding.proofs.Fixed.{u8_gives}
use Rattle.rounding.proofs.u8_fixed_8number_to_float.Goals as goal

pub returns : goal.returns
returns c =
    u8_gives c.args.x c.nearest_f64_to_f32.result c.ranges.x.fits c.nearest_f64_to_f32.ensures
