-- `reach_over` meets its contract: the invariant is that both points are the extremes so far. Assumes nothing.
use Prim.Native.Nat.{◌≤◌}
use Rattle.placing.specs.Reach.{Extreme, AtMost, AtLeast}
use Rattle.placing.proofs.inside.reach_over.Given as goal

abbrev pub invariant-loop-before : goal.invariant-loop-before
invariant-loop-before l =
    (l.first ≤ l.before) × (l.before ≤ l.last) × Extreme AtMost l.table l.first l.before l.valley
    × Extreme AtLeast l.table l.first l.before l.peak
