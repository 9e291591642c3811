-- The f64 steps of document 01's inverse after a search without a hit: x is the candidate that was probed last, v the
-- value, n the table's length. Each operation is IEEE 754's on binary64, rounded to nearest, ties to even. Assumes
-- nothing.
use Rattle.std.specs.Prelude.{ℕ, ◌-◌, false, List, length, get_or, eqb, Float}
use Rattle.std.specs.Float.{binary64}
use Rattle.std.specs.Float.Ieee.{round, neg, add, sub, mul, div, lt, le}
use Rattle.table.specs.Choice.{pick}
use Rattle.ieee.specs.Range.{nought, float, half}
use Rattle.rounding.specs.Cut.{floor, ceil}
use Rattle.rounding.specs.Size.{abs}

-- the f64 nearest to 0.01
abbrev pub hundredth : Float
hundredth = round binary64 false 1 100

-- t = (n-1)·((x-1)/65535)
unfoldable pub cell_of : ℕ → ℕ → Float
cell_of n x = mul binary64 (float (n - 1)) (div binary64 (float (x - 1)) (float 65535))

-- xi = (65535·ci)/(n-1)
unfoldable pub node_of : ℕ → ℕ → Float
node_of n c = div binary64 (mul binary64 (float 65535) (float c)) (float (n - 1))

-- f below 0 answers 0, f at or above 65535 answers 65535, otherwise floor(f + 0.5). A NaN would answer 0, as the Rust's
-- cast of it does
unfoldable pub rounded : Float → ℕ
rounded f = pick (lt f nought) 0 (pick (le (float 65535) f) 65535 (floor (add binary64 f half)))

-- yi = T[ci], a = (y1-y0)/(x1-x0), b = y0 + (-a)·x0, f = (v-b)/a; equal cells or |a| < 0.01 answer x
unfoldable pub between : List ℕ → ℕ → ℕ → ℕ → ℕ → ℕ
between t x v c0 c1 =
    let x0 = node_of (length t) c0 in
    let x1 = node_of (length t) c1 in
    let y0 = float (get_or t c0 0) in
    let y1 = float (get_or t c1 0) in
    let a = div binary64 (sub binary64 y1 y0) (sub binary64 x1 x0) in
    let b = add binary64 y0 (mul binary64 (neg a) x0) in
    let f = div binary64 (sub binary64 (float v) b) a in
    pick (eqb c0 c1) x (pick (lt (abs a) hundredth) x (rounded f))

-- cells c0 = floor t and c1 = ceil t
unfoldable pub tail : List ℕ → ℕ → ℕ → ℕ
tail t x v = between t x v (floor (cell_of (length t) x)) (ceil (cell_of (length t) x))
