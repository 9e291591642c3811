-- `isqrt` meets its contract. The invariant: the guess is not below the root. At the end its square is not above v.
-- Assumes nothing.
use Rattle.power.specs.Inside.{NotBelowRoot}
use Rattle.power.proofs.inside.isqrt.Given as goal

abbrev pub invariant-loop-guess : goal.invariant-loop-guess
invariant-loop-guess l = NotBelowRoot l.v l.guess

abbrev pub decreases-loop-guess : goal.decreases-loop-guess
decreases-loop-guess l = l.guess
