-- `abs_f32` meets its promise: std's abs takes the sign away. Assumes nothing.
use mathlib.Core.Path.{◌∙◌}
use Rattle.rounding.proofs.Size.{abs_unsigned}
use Rattle.rounding.proofs.abs_f32.Goals as goal

pub returns : goal.returns
returns c =
    record { value = c.abs.ensures.value ∙ abs_unsigned c.args.x }
