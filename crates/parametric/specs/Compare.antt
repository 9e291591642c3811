-- Whether two lists of parameters are close, over the shorter length. Assumes nothing.
use Rattle.std.specs.Prelude.{Bool, true, not, List, [], ◌∷◌, Float}
use Rattle.std.specs.Float.{binary32}
use Rattle.std.specs.Float.Ieee.{sub, lt, of_bits}
use Rattle.table.specs.Choice.{both}
use Rattle.rounding.specs.Size.{abs}

-- |s-d|, an f32 step, is above the f32 1e-4. A NaN difference is not above it.
unfoldable pub far : Float → Float → Bool
far s d = lt (of_bits binary32 0x38d1_b717) (abs (sub binary32 s d))

-- no two at one place are far apart
abbrev pub close : List Float → List Float → Bool
close [] dst = true
close (s ∷ src) [] = true
close (s ∷ src) (d ∷ dst) = both (not (far s d)) (close src dst)
