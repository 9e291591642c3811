-- `between` meets its contract: its tests and constants are the definition's. Assumes nothing.
use Rattle.inverse_tail.proofs.Cells.{one_cell, nearly_flat, sloped}
use Rattle.inverse_tail.proofs.inside.between.Goals as goal

pub returns-then-cell0-cell1 : goal.returns-then-cell0-cell1
returns-then-cell0-cell1 c =
    one_cell _ _ _ _ _ c.if-cell0-cell1.true

pub returns-then-abs_f64 : goal.returns-then-abs_f64
returns-then-abs_f64 c =
    nearly_flat c.args.table.now c.args.x c.args.v c.args.cell0 c.args.cell1 c.if-cell0-cell1.false
    c.abs_f64.ensures c.if-abs_f64.true

pub returns : goal.returns
returns c =
    sloped c.args.table.now c.args.x c.args.v c.args.cell0 c.args.cell1 c.if-cell0-cell1.false
    c.abs_f64.ensures c.if-abs_f64.false c.rounded.ensures
