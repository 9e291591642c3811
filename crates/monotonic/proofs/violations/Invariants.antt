-- `violations` meets its contract. The invariant: the count so far and the violations still to come add up to the
-- table's. Assumes nothing.
use Rattle.monotonic.proofs.Steps.{Counted}
use Rattle.monotonic.proofs.violations.Given as goal

abbrev pub invariant-loop-i : goal.invariant-loop-i
invariant-loop-i l = Counted l.direction l.table l.count l.i
