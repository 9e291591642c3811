-- The whole numbers and a half as floats, and what it is to lie from 0 to a whole number. Assumes nothing.
use Rattle.std.specs.Prelude.{ℕ, Bool, false, ◌&&◌, pos, negsuc, Float}
use Rattle.std.specs.Float.{fin, Format, binary64}
use Rattle.std.specs.Float.Ieee.{le, of_int}

-- the number k, for comparisons: they go by the number, and not by how a format writes it
abbrev pub whole : ℕ → Float
whole k = fin false k (pos 0)

abbrev pub nought : Float
nought = whole 0

abbrev pub one : Float
one = whole 1

-- the number k as a format writes it, in steps that are rounded: exactly k, up to 2^24 in an f32 and 2^53 in an f64
abbrev pub float_in : Format → ℕ → Float
float_in f k = of_int f (pos k)

abbrev pub float : ℕ → Float
float k = float_in binary64 k

-- 1 · 2^-1
abbrev pub half : Float
half = fin false 1 (negsuc 0)

-- 0 ≤ x ≤ k by the comparisons of IEEE 754: -0.0 is among them, a NaN and the infinities are not
unfoldable pub upto : ℕ → Float → Bool
upto k x = le nought x && le x (whole k)
