-- The passthrough table of document 01, in the operations of IEEE 754, one rounding for each sign. Assumes nothing.
use Rattle.std.specs.Prelude.{ℕ, ◌-◌, List, Float}
use Rattle.std.specs.Float.{binary64}
use Rattle.std.specs.Float.Ieee.{mul, div}
use Rattle.table.specs.Fill.{tabulated}
use Rattle.ieee.specs.Range.{one, float}
use Rattle.rounding.specs.Nearest.{narrow}

-- `passthrough_table_impl`: entry i is i·(1/max), f64 steps, as f32, with max = length - 1
unfoldable pub passed : ℕ → ℕ → Float
passed n i = narrow (mul binary64 (float i) (div binary64 one (float (n - 1))))

abbrev pub passed_through : ℕ → List Float
passed_through n = tabulated (passed n) n
