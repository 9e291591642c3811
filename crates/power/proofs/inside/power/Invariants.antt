-- `power` meets its contract. The invariant of each loop: from a and the rest of the exponent the definition makes the
-- power, and a is at most what stands for 1. Assumes nothing.
use mathlib.Core.Path.{◌≡◌}
use Prim.Native.Nat.{◌-◌, ◌≤◌}
use Rattle.power.specs.Power.{whole_steps, root_steps, power}
use Rattle.power.proofs.inside.power.Given as goal

abbrev pub invariant-loop : goal.invariant-loop
invariant-loop l =
    (root_steps 4294901760 l.base (16 - l.counter) l.r l.a ≡ power 4294901760 l.base l.exponent) × (l.a ≤ 4294901760)

abbrev pub invariant-loop-2 : goal.invariant-loop-2
invariant-loop-2 l =
    (whole_steps 4294901760 l.base (l.r - l.counter) l.a ≡ power 4294901760 l.base l.exponent) × (l.a ≤ 4294901760)
