-- `last` meets its contract: the test of the length is from 1 to 65,536. Assumes nothing.
use mathlib.Core.Path.{refl}
use native.Mathlib.Omega.{arith}
use Rattle.table.proofs.Sizes.{within_low, within_high}
use Rattle.table.proofs.inside.SizedTable.last.Goals as goal

pub overflow_sub-result : goal.overflow_sub-result
overflow_sub-result c = omega (arith, within_low 1 65536 _ c.args.self.tested)

pub returns : goal.returns
returns c =
    let t = c.args.self.tested in
    (omega (arith, within_low 1 65536 _ t), omega (arith, within_high 1 65536 _ t), refl)
