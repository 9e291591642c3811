-- `lookup` meets its contract: a sized table has a last index. Assumes nothing.
use native.Mathlib.Omega.{arith}
use Rattle.table.proofs.Sizes.{within_low, within_high}
use Rattle.lookup.proofs.inside.lookup.Goals as goal

pub overflow_sub-table : goal.overflow_sub-table
overflow_sub-table c =
    within_low 1 65536 _ c.requires

pub lookup_to-requires : goal.lookup_to-requires
lookup_to-requires c =
    omega (arith, within_low 1 65536 _ c.requires, within_high 1 65536 _ c.requires)
