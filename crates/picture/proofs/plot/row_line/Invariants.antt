-- `row_line` is safe: a mark is written in each column. Assumes nothing.
use Prim.Native.Nat.{◌+◌, ◌≤◌}
use mathlib.Core.Path.{◌≡◌}
use Rattle.picture.proofs.plot.row_line.Given as goal

abbrev pub invariant-loop-column : goal.invariant-loop-column
invariant-loop-column l = (l.w.end ≡ 9 + l.column) × (1 ≤ l.end) × (l.end ≤ 128)
