-- `power` meets its contract. The invariant of each loop: from a and the rest of the exponent the definition makes the
-- power, and a is at most what stands for 1. Assumes nothing.
use mathlib.Core.Path.{◌≡◌, refl, sym, ap, ◌∙◌}
use Prim.Native.Nat.{◌+◌, ◌-◌}
use native.Mathlib.Nat.{le_trans}
use native.Mathlib.Omega.{arith}
use Rattle.power.specs.Power.{root_steps, power}
use Rattle.power.proofs.Steps.{root_turn, root_end, whole_turn, whole_end, whole_le}
use Rattle.power.proofs.inside.power.Goals as goal

pub loop-init : goal.loop-init
unfolding power
loop-init c =
    (refl, omega arith)

pub loop-preserved : goal.loop-preserved
loop-preserved c =
    let base = c.args.base in
    let left : 16 - (c.loop.counter + 1) ≡ 16 - c.loop.counter - 1 = omega arith in
    let e = c.root_step-a.ensures in (
      rw left
          (ap (root_steps 4294901760 base (16 - c.loop.counter - 1) _) e.0
          ∙ sym (root_turn 4294901760 base (16 - c.loop.counter) c.loop.r c.loop.a (omega arith))
          ∙ c.loop.invariant.0),
      e.1,
    )

pub loop-2-init : goal.loop-2-init
loop-2-init c =
    let none : 16 - c.loop.counter ≡ 0 = omega arith in
    let all : c.loop.r - 0 ≡ c.loop.r = omega arith in
    let base = c.args.base in (
      rw all (sym (root_end 4294901760 base c.loop.r c.loop.a) ∙ rw none at c.loop.invariant.0),
      c.loop.invariant.1,
    )

pub loop-2-preserved : goal.loop-2-preserved
loop-2-preserved c =
    let base = c.args.base in
    let left : c.loop.r - (c.loop-2.counter + 1) ≡ c.loop.r - c.loop-2.counter - 1 = omega arith in (
      rw left
          (sym (whole_turn 4294901760 base (c.loop.r - c.loop-2.counter) c.loop-2.a (omega arith))
          ∙ c.loop-2.invariant.0),
      le_trans (whole_le 4294901760 base c.loop-2.a c.loop-2.invariant.1) c.requires,
    )

pub returns : goal.returns
returns c =
    let none : c.loop.r - c.loop-2.counter ≡ 0 = omega arith in
    let base = c.args.base in
    (sym (whole_end 4294901760 base c.loop-2.a) ∙ rw none at c.loop-2.invariant.0, c.loop-2.invariant.1)
