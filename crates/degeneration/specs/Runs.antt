-- The run at each end of a table, counted over its entries, and when a table is degenerated. Assumes nothing.
use Rattle.std.specs.Prelude.{ℕ, Bool, true, false, List, reverse, length, get_or, ltb, leb}
use Rattle.table.specs.Choice.{pick}
use Rattle.table.specs.Runs.{run}

-- the run equal to the first entry
unfoldable pub leading : List ℕ → ℕ
leading t = run (get_or t 0 0) t

-- the run equal to the last entry: the same, read from the end
abbrev pub trailing : List ℕ → ℕ
trailing t = leading (reverse t)

-- no if n < 2, else yes exactly if the run equal to the first entry or the run equal to the last has at least 20
-- entries
unfoldable pub degenerated : List ℕ → Bool
degenerated t = pick (ltb (length t) 2) false (pick (leb 20 (leading t)) true (leb 20 (trailing t)))
