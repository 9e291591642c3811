-- `four_reaching` meets its contract: a step halves what is left of each search. Assumes nothing.
use Rattle.least_row.proofs.Abreast.{Searching}
use Rattle.least_row.proofs.four.four_reaching.Given as goal

abbrev pub invariant-loop-left : goal.invariant-loop-left
invariant-loop-left l = Searching l.table.table.now l.initial.left l.values l.i l.low l.left

abbrev pub decreases-loop-left : goal.decreases-loop-left
decreases-loop-left l = l.left
