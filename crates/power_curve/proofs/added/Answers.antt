-- `added` meets its contract, on either side of an exponent of 1. Assumes nothing.
use mathlib.Core.Path.{sym}
use Rattle.power_curve.proofs.Sizes.{added_up, added_nearest}
use Rattle.power_curve.proofs.added.Goals as goal

pub returns-then-exponent-lt65536 : goal.returns-then-exponent-lt65536
returns-then-exponent-lt65536 c =
    sym (added_up _ c.if-exponent-lt65536.true)

pub returns : goal.returns
returns c =
    sym (added_nearest _ c.if-exponent-lt65536.false)
