-- `put_patterns` meets its contract: the loop stores the patterns after the first twelve bytes. Assumes nothing.
use Rattle.icc.proofs.Words.{four_bytes, Storing}
use Rattle.para_writer.proofs.put_patterns.Given as goal

abbrev pub invariant-loop-k : goal.invariant-loop-k
invariant-loop-k l = Storing four_bytes l.patterns l.initial.out 12 l.k l.out
