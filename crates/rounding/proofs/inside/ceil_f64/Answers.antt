-- `ceil_f64` meets its promise: whether the floor lies below the float tells ceil from floor. Assumes nothing.
use mathlib.Core.Bool.{true, false}
use lib.Ieee.{binary64}
use Rattle.rounding.proofs.Cut.{ceil_gives}
use Rattle.rounding.proofs.inside.ceil_f64.Goals as goal

pub returns-then-floor-x : goal.returns-then-floor-x
returns-then-floor-x c =
    ceil_gives c.args.x c.requires binary64 c.floor_f64-floor.result true c.floor_f64-floor.ensures
    c.if-floor-x.true

pub returns : goal.returns
returns c =
    ceil_gives c.args.x c.requires binary64 c.floor_f64-floor.result false c.floor_f64-floor.ensures
    c.if-floor-x.false
