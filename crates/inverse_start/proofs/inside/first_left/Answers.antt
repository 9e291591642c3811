-- `first_left` meets its contract: the quotient is at least 1, so that one less is no wrap. Assumes nothing.
use mathlib.Core.Path.{sym}
use Rattle.inverse_start.proofs.Start.{left_one, left_some}
use Rattle.inverse_start.proofs.inside.first_left.Goals as goal

pub returns-then-z-gt1 : goal.returns-then-z-gt1
returns-then-z-gt1 c =
    sym (left_some _ _ c.if-z-gt1.true)

pub returns : goal.returns
returns c =
    sym (left_one _ _ c.if-z-gt1.false)
