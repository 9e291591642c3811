-- `replaced` meets its contract, case by case. Assumes nothing.
use Rattle.placing.specs.Reach.{taken, kept}
use Rattle.placing.proofs.inside.replaced.Goals as goal

pub returns-then-other : goal.returns-then-other
returns-then-other c = rw c.if-other.true taken

pub returns : goal.returns
returns c = rw c.if-other.false kept
