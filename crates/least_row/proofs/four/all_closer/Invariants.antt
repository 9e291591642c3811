-- `all_closer` meets its contract: the loop fills the array with the step of each search. Assumes nothing.
use Rattle.table.proofs.Fill.{Filling}
use Rattle.least_row.proofs.Abreast.{closer_at}
use Rattle.least_row.proofs.four.all_closer.Given as goal

abbrev pub invariant-loop-j : goal.invariant-loop-j
invariant-loop-j l = Filling (closer_at l.table l.values l.i l.low l.half) l.initial.further l.j l.further
