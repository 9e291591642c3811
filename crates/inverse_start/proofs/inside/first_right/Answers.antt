-- `first_right` meets its contract: where every entry is 65535, n - 1 - w would be below 0, and is not worked out;
-- otherwise nothing wraps. Assumes nothing.
use mathlib.Core.Path.{sym}
use Prim.Native.Nat.{◌≤◌, ◌<◌}
use native.Mathlib.Omega.{arith}
use Rattle.inverse_start.proofs.Start.{right_none, right_some, right_all}
use Rattle.inverse_start.proofs.inside.first_right.Goals as goal

pub returns-then-w-le1 : goal.returns-then-w-le1
returns-then-w-le1 c =
    let h : c.args.w ≤ 1 = omega arith in
    sym (right_none _ _ h)

pub returns-then-w-n : goal.returns-then-w-n
returns-then-w-n c =
    sym (right_all _ _ c.if-w-le1.false c.if-w-n.true c.requires.1)

pub returns : goal.returns
returns c =
    let h : c.args.w < c.args.n = omega arith in
    sym (right_some _ _ c.if-w-le1.false h)
