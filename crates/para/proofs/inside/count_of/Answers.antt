-- `count_of` meets its contract, type by type. Assumes nothing.
use mathlib.Core.Path.{◌≡◌, refl}
use native.Mathlib.Omega.{arith}
use lib.Dec.{lit≤}
use Rattle.para.specs.Tag.{count_of}
use Rattle.para.proofs.inside.count_of.Goals as goal

pub returns-in-0 : goal.returns-in-0
unfolding count_of
returns-in-0 c =
    (rw c.in-0.is refl, lit≤ tt)

pub returns-in-1 : goal.returns-in-1
unfolding count_of
returns-in-1 c =
    (rw c.in-1.is refl, lit≤ tt)

pub returns-in-2 : goal.returns-in-2
unfolding count_of
returns-in-2 c =
    (rw c.in-2.is refl, lit≤ tt)

pub returns-in-3 : goal.returns-in-3
unfolding count_of
returns-in-3 c =
    (rw c.in-3.is refl, lit≤ tt)

pub returns-in_default : goal.returns-in_default
unfolding count_of
returns-in_default c =
    let four : c.args.t ≡ 4 = omega arith in
    (rw four refl, lit≤ tt)
