-- `floor_f64` meets its promise: below 1 it is 0, and from 1 on the digits of the bit pattern are shifted down to the
-- whole part. Assumes nothing.
use borrow.Author.Rules.{rules}
use native.Mathlib.Omega.{arith}
use Rattle.rounding.proofs.Cut.{upto_no_nan, below_gives, exponent_from_to, floor_gives}
use Rattle.rounding.proofs.inside.floor_f64.Goals as goal

pub returns-then-x : goal.returns-then-x
returns-then-x c =
    below_gives c.args.x c.requires c.if-x.true

pub float_to_bits-bits : goal.float_to_bits-bits
float_to_bits-bits c =
    upto_no_nan c.args.x c.requires

pub overflow_sub-result : goal.overflow_sub-result
overflow_sub-result c =
    omega (arith, (exponent_from_to c.args.x c.requires c.if-x.false).1)

pub overflow_shr-result : goal.overflow_shr-result
overflow_shr-result c =
    omega (arith, (exponent_from_to c.args.x c.requires c.if-x.false).0)

pub overflow_cast-result : goal.overflow_cast-result
overflow_cast-result c =
    let small = (floor_gives c.args.x c.requires c.if-x.false).small in search rules

pub returns : goal.returns
returns c =
    floor_gives c.args.x c.requires c.if-x.false
