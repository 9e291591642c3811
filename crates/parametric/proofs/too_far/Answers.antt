-- `too_far` meets its contract. Assumes nothing.
use mathlib.Core.Path.{ap}
use lib.Ieee.{binary32, lt, of_bits}
use Rattle.parametric.specs.Compare.{far}
use Rattle.parametric.proofs.too_far.Goals as goal

pub returns : goal.returns
unfolding far
returns c =
    ap (lt (of_bits binary32 0x38d1_b717)) c.abs_f32.ensures.value
