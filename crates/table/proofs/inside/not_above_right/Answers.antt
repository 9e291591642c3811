-- `not_above_right` meets its contract: there is a right neighbour unless i is the last. Assumes nothing.
use mathlib.Core.Path.{sym}
use native.Mathlib.Omega.{arith}
use Rattle.table.proofs.Order.{right_none, right_is}
use Rattle.table.proofs.inside.not_above_right.Goals as goal

pub returns-then-i-table : goal.returns-then-i-table
returns-then-i-table c =
    sym (right_none _ _ _ (omega arith))

pub returns : goal.returns
returns c =
    rw c.entry.ensures.0 (sym (right_is _ _ _ (omega arith)))
