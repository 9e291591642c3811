-- `reach_over` meets its contract: the invariant is that both points are the extremes so far. Assumes nothing.
use borrow.Author.Tests.{ltb-true, ltb-false}
use native.Mathlib.Omega.{arith}
use Rattle.placing.specs.Reach.{AtMost, AtLeast}
use Rattle.placing.proofs.Widening.{widen}
use Rattle.placing.proofs.inside.reach_over.Goals as goal

pub loop-before-preserved : goal.loop-before-preserved
loop-before-preserved c =
    let here = c.point_at-here.ensures in
    let turn = c.loop-before.invariant in (
      omega arith,
      omega arith,
      widen AtMost (λ d. omega arith) _ _ c.replaced-valley.ensures turn.0 turn.2 here
          (λ e d l. omega (arith, ltb-true)) (λ e. omega (arith, ltb-false)),
      widen AtLeast (λ d. omega arith) _ _ c.replaced-peak.ensures turn.0 turn.3 here
          (λ e d l. omega (arith, ltb-true)) (λ e. omega (arith, ltb-false)),
    )
