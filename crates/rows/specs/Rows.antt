-- Many 16-bit lookups in one table, as the list of their answers. Assumes nothing.
use Rattle.std.specs.Prelude.{ℕ, List, length, get_or}
use Rattle.table.specs.Fill.{tabulated}
use Rattle.lookup.specs.Lookup.{looked_up}

-- the 16-bit lookup at each of a row of positions
abbrev pub row_at : List ℕ → List ℕ → ℕ → ℕ
row_at t positions i = looked_up t (get_or positions i 0)

abbrev pub row_of : List ℕ → List ℕ → List ℕ
row_of t positions = tabulated (row_at t positions) (length positions)

-- the 16-bit lookup at every position: the table's baked form
abbrev pub baked_of : List ℕ → List ℕ
baked_of t = tabulated (looked_up t) 65536
