-- `gamma_unit` meets its contract: a depth of 1 to 16 divides by 1 to 65535. Assumes nothing.
use mathlib.Core.Path.{refl}
use Rattle.gamma.specs.Gamma.{gamma_unit}
use Rattle.gamma.proofs.Laws.{unit_low, unit_high}
use Rattle.gamma.proofs.gamma_unit.Goals as goal

pub returns : goal.returns
unfolding gamma_unit
returns c =
    rw c.max_colors.ensures.0 (
      refl,
      unit_low _ _ c.requires.2 c.requires.3,
      unit_high _ _ c.requires.2 c.requires.3 c.requires.1,
    )
