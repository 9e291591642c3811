-- `search` meets its contract. The invariant: searching on between l and r gives what the whole search gives; every x
-- that can be probed there has x - 1 for a position; and the last x probed is at most 65535. Assumes nothing.
use mathlib.Core.Path.{◌≡◌}
use Prim.Native.Nat.{◌≤◌, ◌-◌}
use Rattle.inverse.specs.Inside.{Ready}
use Rattle.inverse.specs.Inverse.{searched}
use Rattle.inverse.proofs.Bisection.{from}
use Rattle.inverse.proofs.inside.search.Given as goal

abbrev pub invariant-loop-r : goal.invariant-loop-r
invariant-loop-r l =
    let t = l.table.entries.now in
    Ready t l.v l.l l.r × (from t l.v l.l l.r l.x ≡ searched t l.v l.left l.right) × (l.x ≤ 65535)

abbrev pub decreases-loop-r : goal.decreases-loop-r
decreases-loop-r l = l.r - l.l
