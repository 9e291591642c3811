-- `top` meets its contract: a table that has passed its tests is not empty. Assumes nothing.
use native.Mathlib.Omega.{arith}
use Rattle.table.proofs.Sizes.{within_low}
use Rattle.least.proofs.inside.PassedTable.top.Goals as goal

pub overflow_sub-result : goal.overflow_sub-result
overflow_sub-result c = within_low 1 65536 _ c.args.self.size

pub returns : goal.returns
returns c = omega (arith, within_low 1 65536 _ c.args.self.size)
