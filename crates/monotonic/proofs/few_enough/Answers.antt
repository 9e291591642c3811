-- `few_enough` meets its contract: the definition's two tests, in its order. Assumes nothing.
use borrow.Author.Tests.{lt-ltb, le-ltb}
use Rattle.monotonic.specs.Steps.{few_enough}
use Rattle.monotonic.proofs.few_enough.Goals as goal

pub returns-then-n-lt2 : goal.returns-then-n-lt2
unfolding few_enough
returns-then-n-lt2 c =
    simp (lt-ltb _ 2 c.if-n-lt2.true)

pub returns : goal.returns
unfolding few_enough
returns c =
    simp (le-ltb _ 2 c.if-n-lt2.false, c.below_a_twentieth.ensures)
