-- `ramp` meets its contract: of 2 to 65,536 entries no step wraps, the divisor is not 0, and the entry fits 16 bits.
-- Assumes nothing.
use mathlib.Core.Path.{refl}
use native.Mathlib.Omega.{arith}
use Rattle.table.proofs.Sizes.{within_high}
use Rattle.curve.specs.Ramp.{ramp}
use Rattle.curve.proofs.RampLaws.{ramp_divisor}
use Rattle.curve.proofs.inside.ramp.Goals as goal

pub overflow_mul-result-2 : goal.overflow_mul-result-2
overflow_mul-result-2 c =
    omega (arith, within_high 2 65536 _ c.requires.0)

pub overflow_add-result : goal.overflow_add-result
overflow_add-result c =
    omega (arith, within_high 2 65536 _ c.requires.0)

pub overflow_mul-result-3 : goal.overflow_mul-result-3
overflow_mul-result-3 c =
    omega (arith, within_high 2 65536 _ c.requires.0)

pub nonzero_div-result : goal.nonzero_div-result
nonzero_div-result c =
    ramp_divisor _ c.requires.0

pub returns : goal.returns
unfolding ramp
returns c =
    refl
