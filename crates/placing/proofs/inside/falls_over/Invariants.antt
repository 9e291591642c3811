-- `falls_over` meets its contract: the invariant is that none of the steps up to p falls. Assumes nothing.
use Prim.Native.Nat.{◌≤◌}
use Rattle.placing.proofs.Falling.{NoneYet}
use Rattle.placing.proofs.inside.falls_over.Given as goal

abbrev pub invariant-loop-p : goal.invariant-loop-p
invariant-loop-p l = (l.first ≤ l.p) × NoneYet l.table l.first l.p
