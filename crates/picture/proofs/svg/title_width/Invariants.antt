-- `title_width` is safe: each of at most 300 bytes adds at most 3. Assumes nothing.
use Prim.Native.Nat.{◌*◌, ◌≤◌}
use lib.ListN.{length}
use Rattle.picture.proofs.svg.title_width.Given as goal

abbrev pub invariant-loop-b : goal.invariant-loop-b
invariant-loop-b l = (length l.title ≤ 300) × (l.b-index ≤ length l.title) × (l.n ≤ 3 * l.b-index)
