-- A whole table inverted, `invert_lut` of document 01, at m questions. Assumes nothing.
use Rattle.std.specs.Prelude.{ℕ, ◌-◌, List, Float}
use Rattle.std.specs.Float.{binary64}
use Rattle.std.specs.Float.Ieee.{add, mul, div}
use Rattle.table.specs.Fill.{tabulated}
use Rattle.ieee.specs.Range.{float, half}
use Rattle.rounding.specs.Cut.{floor}
use Rattle.inverse.specs.Inverse.{inverted}

-- s = 65535/(m-1)
unfoldable pub scale_of : ℕ → Float
scale_of m = div binary64 (float 65535) (float (m - 1))

-- entry i asks floor(i·s + 0.5), in f64 steps
unfoldable pub asked : ℕ → ℕ → ℕ
asked m i = floor (add binary64 (mul binary64 (float i) (scale_of m)) half)

abbrev pub inverted_at : List ℕ → ℕ → ℕ → ℕ
inverted_at t m i = inverted t (asked m i)

-- m, the inverted length, is the output buffer's length
abbrev pub inverted_of : List ℕ → ℕ → List ℕ
inverted_of t m = tabulated (inverted_at t m) m
