-- `search` meets its contract. The invariant: searching on between l and r gives what the whole search gives; every x
-- that can be probed there has x - 1 for a position; and the last x probed is at most 65535. Assumes nothing.
use mathlib.Core.Path.{◌∙◌, sym, subst}
use Prim.Native.Nat.{ℕ, ◌<◌}
use native.Mathlib.Omega.{arith}
use Rattle.inverse.proofs.Bisection.{from_start, from_over, from_hit, from_left, from_right}
use Rattle.inverse.proofs.Bisection.{probe_high, ready_left, ready_right}
use Rattle.inverse.proofs.inside.search.Goals as goal

pub loop-r-init : goal.loop-r-init
loop-r-init c =
    (c.requires, from_start _ _ _ _, omega arith)

pub loop-r-preserved-then-v-y : goal.loop-r-preserved-then-v-y
loop-r-preserved-then-v-y c =
    let i = c.loop-r.invariant in
    let a = subst (λ (y : ℕ). c.args.v < y) c.lookup-y.ensures
    c.if-v-y.true in (
      ready_left _ _ _ _ i.0 c.if-r-l.false a,
      sym (from_left _ _ _ _ _ c.if-r-l.false a) ∙ i.1,
      probe_high _ _ _ _ i.0 c.if-r-l.false,
    )

pub loop-r-preserved : goal.loop-r-preserved
loop-r-preserved c =
    let i = c.loop-r.invariant in
    let h : c.lookup-y.result < c.args.v =
    omega (arith, c.if-y-v.false, c.if-v-y.false) in
    let b = subst (λ (y : ℕ). y < c.args.v) c.lookup-y.ensures h in (
      ready_right _ _ _ _ i.0 c.if-r-l.false,
      sym (from_right _ _ _ _ _ c.if-r-l.false b) ∙ i.1,
      probe_high _ _ _ _ i.0 c.if-r-l.false,
    )

pub returns-then-r-l : goal.returns-then-r-l
returns-then-r-l c =
    sym (from_over _ _ _ _ _ (omega arith)) ∙ c.loop-r.invariant.1

pub returns-then-y-v : goal.returns-then-y-v
returns-then-y-v c =
    sym (from_hit _ _ _ _ _ c.if-r-l.false (sym c.lookup-y.ensures ∙ c.if-y-v.true))
    ∙ c.loop-r.invariant.1
