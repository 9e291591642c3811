-- `min_f32` meets its promise: each arm is one case of `minimum`. Assumes nothing.
use Rattle.rounding.proofs.Size.{min_nan, min_over, min_itself}
use Rattle.rounding.proofs.min_f32.Goals as goal

pub returns-then-x : goal.returns-then-x
returns-then-x c =
    min_nan c.args.x c.args.bound c.if-x.true

pub returns-then-x-bound : goal.returns-then-x-bound
returns-then-x-bound c =
    min_over c.args.x c.args.bound c.if-x.false c.if-x-bound.true

pub returns : goal.returns
returns c =
    min_itself c.args.x c.args.bound c.if-x.false c.if-x-bound.false
