-- `s15_fixed16_number_to_float` meets its promise: x / 65536 is exact in f64, so the f32 is rounded once. Assumes
-- nothing.
use mathlib.Core.Path.{subst}
use lib.IntN.{ℤ}
use lib.Ieee.{binary64, div, of_int, of_bits}
use mir.Syntax.{w32}
use mir.ValLaws.{to_z-of_z}
use Rattle.rounding.specs.Nearest.{NarrowPromise}
use Rattle.rounding.proofs.Fixed.{s15_gives}
use Rattle.rounding.proofs.s15_fixed16_number_to_float.Goals as goal

pub returns : goal.returns
returns c =
    let r = c.nearest_f64_to_f32.result in
    s15_gives c.args.x r c.ranges.x.sfits
    (subst (λ (z : ℤ). NarrowPromise (div binary64 (of_int binary64 z) (of_bits binary64 0x40f0_0000_0000_0000)) r)
    (to_z-of_z w32 c.args.x c.ranges.x) c.nearest_f64_to_f32.ensures)
