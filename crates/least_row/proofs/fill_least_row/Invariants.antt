-- `fill_least_row` meets its contract: the loops write the row's position of each value. Assumes nothing.
use Prim.Native.Nat.{◌+◌, ◌*◌, ◌≤◌}
use lib.ListN.{length}
use Rattle.least_row.proofs.Abreast.{WrittenTo}
use Rattle.least_row.proofs.fill_least_row.Given as goal

abbrev pub invariant-loop-k : goal.invariant-loop-k
invariant-loop-k l = WrittenTo l.table.table.now l.values (4 * l.k) l.out

abbrev pub invariant-loop-j : goal.invariant-loop-j
invariant-loop-j l = WrittenTo l.table.table.now l.values (l.i + l.j) l.out × (l.i + 4 ≤ length l.values)

abbrev pub invariant-loop-i : goal.invariant-loop-i
invariant-loop-i l = WrittenTo l.table.table.now l.values l.i l.out
