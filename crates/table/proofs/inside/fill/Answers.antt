-- `fill` meets its contract. The invariant: where the rule gives what f gives, the buffer holds f's entries up to i,
-- and from there on what it held. Assumes nothing.
use mathlib.Core.Path.{refl}
use Rattle.table.proofs.Fill.{filling_start, filling_more, filling_done}
use Rattle.table.proofs.inside.fill.Goals as goal

pub loop-i-init : goal.loop-i-init
loop-i-init g c f same = filling_start f _

pub loop-i-preserved : goal.loop-i-preserved
loop-i-preserved g c f same =
    filling_more f (c.loop-i.invariant f same) c.loop-i-test.true (same _ _ c.loop-i-test.true c.rule.ensures)

pub returns : goal.returns
returns g c f same =
    filling_done f (c.loop-i.invariant f same) refl c.loop-i-test.false
