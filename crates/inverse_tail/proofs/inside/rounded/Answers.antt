-- `rounded` meets its contract, test by test. Assumes nothing.
use native.Mathlib.Omega.{arith}
use Rattle.inverse_tail.proofs.Clamp.{rounded_high, rounded_low, rounded_asks, rounded_small, rounded_mid}
use Rattle.inverse_tail.proofs.inside.rounded.Goals as goal

pub returns-then-f : goal.returns-then-f
returns-then-f c =
    rounded_high c.args.f c.if-f.true

pub floor_f64-requires : goal.floor_f64-requires
floor_f64-requires c =
    rounded_asks c.args.f c.if-f.false c.if-f-2.true

pub overflow_cast-result : goal.overflow_cast-result
overflow_cast-result c =
    omega (
      arith,
      rounded_small c.args.f c.if-f.false c.if-f-2.true c.floor_f64.ensures,
    )

pub returns-then-f-2 : goal.returns-then-f-2
returns-then-f-2 c =
    rounded_mid c.args.f c.if-f.false c.if-f-2.true c.floor_f64.ensures

pub returns : goal.returns
returns c =
    rounded_low c.args.f c.if-f-2.false
