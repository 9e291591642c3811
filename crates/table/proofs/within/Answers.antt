-- `within` meets its contract: the first comparison settles a number below, and past it the second decides. Assumes
-- nothing.
use mathlib.Core.Path.{sym}
use Rattle.table.proofs.Sizes.{below_within, within_is}
use Rattle.table.proofs.within.Goals as goal

pub returns-then-n-low : goal.returns-then-n-low
returns-then-n-low c =
    sym (below_within _ _ _ c.if-n-low.true)

pub returns : goal.returns
returns c =
    sym (within_is _ _ _ c.if-n-low.false)
