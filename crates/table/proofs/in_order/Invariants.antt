-- `in_order` meets its contract. The invariant: the pairs passed and those that are left make the whole test. Assumes
-- nothing.
use Rattle.table.proofs.Order.{Walked}
use Rattle.table.proofs.in_order.Given as goal

abbrev pub invariant-loop-i : goal.invariant-loop-i
invariant-loop-i l = Walked l.table l.fallen l.i
