-- `all_closer` meets its contract: the loop fills the array with the step of each search. Assumes nothing.
use native.Mathlib.Omega.{arith}
use Rattle.table.proofs.Fill.{filling_start, filling_more, filling_done}
use Rattle.least_row.proofs.four.all_closer.Goals as goal

pub loop-j-init : goal.loop-j-init
loop-j-init c =
    filling_start _ _

pub loop-j-preserved : goal.loop-j-preserved
loop-j-preserved c =
    filling_more _ c.loop-j.invariant (omega (arith, c.requires.four_searches)) c.closer.ensures

pub returns : goal.returns
returns c =
    filling_done _ c.loop-j.invariant c.requires.four_searches c.loop-j-test.false
