-- `root_step` meets its contract, at each of its three ends. Assumes nothing.
use lib.Dec.{lit<}
use Rattle.power.proofs.Steps.{next_one, next_zero, next_full}
use Rattle.power.proofs.inside.root_step.Goals as goal

pub returns-then-r-eq1 : goal.returns-then-r-eq1
returns-then-r-eq1 c =
    next_one 4294901760 _ (lit< tt) c.requires.1 _ _ _ c.requires.0 c.if-r-eq1.true c.isqrt.ensures

pub returns-then-a-eq-FULL : goal.returns-then-a-eq-FULL
returns-then-a-eq-FULL c =
    next_full 4294901760 _ (lit< tt) c.requires.1 _ _ c.if-r-eq1.false c.if-a-eq-FULL.true

pub returns : goal.returns
returns c =
    next_zero 4294901760 _ (lit< tt) c.requires.1 _ _ _ c.requires.0 c.if-r-eq1.false c.isqrt-2.ensures
