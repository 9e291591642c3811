-- `fill_least_row` meets its contract: the loops write the row's position of each value. Assumes nothing.
use native.Mathlib.Omega.{arith}
use Rattle.least_row.proofs.Abreast.{written_start, written_at, written_more, written_done}
use Rattle.least_row.proofs.fill_least_row.Goals as goal

pub loop-k-init : goal.loop-k-init
loop-k-init c =
    written_at (written_start c.requires) (omega arith)

pub loop-j-init : goal.loop-j-init
loop-j-init c =
    (written_at c.loop-k.invariant (omega arith), omega arith)

pub loop-j-preserved : goal.loop-j-preserved
loop-j-preserved c =
    let l = c.loop-j.invariant in
    let more = written_more l.0 (omega arith) c.row_position_at.ensures in
    (written_at more (omega arith), l.1)

pub loop-k-preserved : goal.loop-k-preserved
loop-k-preserved c =
    written_at c.loop-j.invariant.0 (omega arith)

pub loop-i-init : goal.loop-i-init
loop-i-init c =
    written_at c.loop-k.invariant (omega arith)

pub loop-i-preserved : goal.loop-i-preserved
loop-i-preserved c =
    written_more c.loop-i.invariant (omega arith) c.row_position.ensures

pub returns : goal.returns
returns c =
    written_done c.loop-i.invariant (omega arith)
