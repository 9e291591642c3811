-- `unit` meets its contract: the lesser of x and 1, and 0 where that is below 0. Assumes nothing.
use Rattle.interp.proofs.Input.{unit_low, unit_kept}
use Rattle.interp.proofs.unit.Goals as goal

pub returns-then-most : goal.returns-then-most
returns-then-most c =
    unit_low c.args.x c.min_f32-most.result c.min_f32-most.ensures c.if-most.true

pub returns : goal.returns
returns c =
    unit_kept c.args.x c.min_f32-most.result c.min_f32-most.ensures c.if-most.false
