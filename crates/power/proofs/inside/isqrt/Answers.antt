-- `isqrt` meets its contract. The invariant: the guess is not below the root. At the end its square is not above v.
-- Assumes nothing.
use Rattle.power.proofs.Newton.{step_keeps}
use Rattle.power.proofs.inside.isqrt.Goals as goal

pub loop-guess-preserved : goal.loop-guess-preserved
loop-guess-preserved c =
    step_keeps _ _ c.loop-guess-test.true c.loop-guess.invariant
