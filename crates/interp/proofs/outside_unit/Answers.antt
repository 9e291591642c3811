-- `outside_unit` meets its contract: each arm is one of the three tests. Assumes nothing.
use Rattle.interp.proofs.Input.{outside_nan, outside_low, outside_high}
use Rattle.interp.proofs.outside_unit.Goals as goal

pub returns-then-x : goal.returns-then-x
returns-then-x c =
    outside_nan c.args.x c.if-x.true

pub returns-then-x-2 : goal.returns-then-x-2
returns-then-x-2 c =
    outside_low c.args.x c.if-x.false c.if-x-2.true

pub returns : goal.returns
returns c =
    outside_high c.args.x c.if-x.false c.if-x-2.false
