-- `put_entries` meets its contract: the loop stores the entries after the first twelve bytes. Assumes nothing.
use Rattle.icc.proofs.Words.{two_bytes, Storing}
use Rattle.curv_writer.proofs.put_entries.Given as goal

abbrev pub invariant-loop-i : goal.invariant-loop-i
invariant-loop-i l = Storing two_bytes l.table l.initial.out 12 l.i l.out
