-- Where a drive and a density are drawn. Rows count from the top, as an svg's y does, so both fall as density rises.
-- Assumes nothing.
use Rattle.std.specs.Prelude.{ℕ, ◌-◌, ◌*◌, ◌/◌, List}
use Rattle.table.specs.Refusals.{if_granted}
use Rattle.lookup.specs.Lookup.{looked_up}
use Rattle.lookup.specs.Promises.{lookup_verdict}

-- the curve's density at drive p, as the 16-bit lookup promises it
unfoldable pub density_at : List ℕ → ℕ → ℕ
density_at t p = if_granted (lookup_verdict t) (looked_up t p) 0

-- the row of a density in the plot: of 20 rows each has a twentieth of the 65,536 densities
abbrev pub row_of : ℕ → ℕ
row_of d = 19 - d * 20 / 65536

-- the column of a drive: of 64 columns each has 1,024 drives
abbrev pub column_of : ℕ → ℕ
column_of p = p / 1024

-- the drive at which column c shows the curve, from 0 in the first to 65535 in the last
abbrev pub drive_of : ℕ → ℕ
drive_of c = c * 65535 / 63

-- the svg's y of a density
abbrev pub down_of : ℕ → ℕ
down_of d = 65535 - d
