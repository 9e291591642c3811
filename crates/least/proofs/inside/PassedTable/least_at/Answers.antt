-- `least` meets its contract: the first entry that is not below v is the table's first, or the upper end of a cell.
-- Assumes nothing.
use mathlib.Core.Path.{sym}
use Prim.Native.Nat.{zero-le}
use Rattle.least.proofs.Bracket.{found_first}
use Rattle.least.proofs.Tables.{table_first}
use Rattle.least.proofs.inside.PassedTable.least_at.Goals as goal

pub returns-then-next-eq0 : goal.returns-then-next-eq0
returns-then-next-eq0 c = (
  sym (table_first (record { size = c.args.self.size; order = c.args.self.order })
      _ (found_first c.requires c.if-next-eq0.true)),
  zero-le,
)
