-- `value` meets its contract: a power and what is added to it stay below 65536 units, so that the answer fits 16 bits.
-- Assumes nothing.
use native.Mathlib.Omega.{arith}
use Rattle.power_curve.specs.Curve.{value_at}
use Rattle.power_curve.proofs.Sizes.{added_size}
use Rattle.power_curve.proofs.value.Goals as goal

pub overflow_add-result : goal.overflow_add-result
overflow_add-result c =
    omega (arith, c.power.ensures.1, c.added.ensures, added_size c.args.exponent)

pub overflow_cast-result : goal.overflow_cast-result
overflow_cast-result c =
    omega (arith, c.power.ensures.1, c.added.ensures, added_size c.args.exponent)

pub returns : goal.returns
unfolding value_at
returns c =
    simp (c.power.ensures.0, c.added.ensures)
