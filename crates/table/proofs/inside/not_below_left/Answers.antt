-- `not_below_left` meets its contract: there is a left neighbour unless i is 0. Assumes nothing.
use mathlib.Core.Path.{sym}
use native.Mathlib.Omega.{arith}
use Rattle.table.proofs.Order.{left_none, left_is}
use Rattle.table.proofs.inside.not_below_left.Goals as goal

pub returns-then-i-eq0 : goal.returns-then-i-eq0
returns-then-i-eq0 c =
    sym (left_none _ _ _ c.if-i-eq0.true)

pub returns : goal.returns
returns c =
    rw c.entry.ensures.0 (sym (left_is _ _ _ (omega arith)))
