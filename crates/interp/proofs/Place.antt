-- Where a lookup at y, from 0 to 1, lands in a table of n entries: between two of them. Stated once over the format.
-- Assumes nothing.
use mathlib.Core.Path.{◌≡◌, sym, subst}
use mathlib.Core.Bool.{true}
use Prim.Native.Nat.{ℕ, ◌-◌, ◌≤◌, ◌<◌}
use native.Mathlib.Omega.{arith}
use lib.IntN.{pos}
use lib.Dec.{T}
use lib.Ieee.{Float, Format, mul, in_float}
use Rattle.table.specs.Sizes.{sized}
use Rattle.table.proofs.Sizes.{within_low, within_high}
use Rattle.ieee.specs.Range.{float_in, upto}
use Rattle.ieee.proofs.Range.{in_float_lem, upto_more, scaled_upto}
use Rattle.rounding.specs.Cut.{FloorPromise, CeilPromise}
use Rattle.rounding.proofs.Cut.{floor_upto, ceil_upto}

module _ (n : ℕ) (S : sized n ≡ true) where
  pub some : 1 ≤ n
  some = within_low 1 65536 n S

  pub last_few : n - 1 ≤ 65536
  last_few = omega (arith, within_high 1 65536 n S)

  pub last_exact : (f : Format) → T (in_float f (pos (n - 1)))
  last_exact f = in_float_lem f (n - 1) last_few

  module _ (f : Format) (y : Float) (t : T (upto 1 y)) where
    abbrev v : Float
    v = mul f y (float_in f (n - 1))

    upto_last : T (upto (n - 1) v)
    upto_last = scaled_upto f y (n - 1) t last_few

    pub place_asks : T (upto 65536 v)
    place_asks = upto_more (n - 1) 65536 v last_few upto_last

    below : (k : ℕ) → k ≤ n - 1 → k < n
    below k h = omega (arith, some)

    pub upper_inside : (r : ℕ) → CeilPromise v r → r < n
    upper_inside r p = below r (subst (λ (z : ℕ). z ≤ n - 1) (sym p.value) (ceil_upto (n - 1) v upto_last))

    pub lower_inside : (r : ℕ) → FloorPromise v r → r < n
    lower_inside r p = below r (subst (λ (z : ℕ). z ≤ n - 1) (sym p.value) (floor_upto (n - 1) v upto_last))
