-- What the bodies of the lookups work out, step by step, is what document 01 defines; the constants as a program has
-- them. Assumes nothing.
use mathlib.Core.Path.{◌≡◌, refl, sym, ap, ap₂, ◌∙◌}
use mathlib.Core.Bool.{Bool}
use mathlib.Core.List.{List}
use Prim.Native.Nat.{ℕ, ◌-◌}
use borrow.Author.Tests.{eq-eqb, ne_eqb}
use lib.ListN.{length, get_or}
use lib.Ieee.{Float, nan, binary32, binary64, add, sub, mul, div, of_int, of_bits}
use Rattle.table.specs.Choice.{pick}
use Rattle.ieee.specs.Range.{one, float_in, float}
use Rattle.ieee.proofs.Tests.{bits_one}
use Rattle.rounding.specs.Cut.{FloorPromise, CeilPromise}
use Rattle.rounding.specs.Nearest.{narrow, NarrowPromise}
use Rattle.interp.specs.Interp.{place, diff, unit, mixed, mixed_at, float_looked_up, weighed, weighed_up}
use Rattle.interp.specs.Interp.{linear_looked_up}

-- ---- `interp_float`: y is the input as `unit` reads it, h and l what ceil and floor gave
module _ (t : List Float) (x y : Float) (e : y ≡ unit x) where
  abbrev v : Float
  v = mul binary32 y (float_in binary32 (length t - 1))

  pub float_gives : (h l : ℕ) → CeilPromise v h → FloorPromise v l
      → add binary32 (sub binary32 (get_or t h nan) (mul binary32 (get_or t h nan)
      (sub binary32 (float_in binary32 h) v))) (mul binary32 (get_or t l nan) (sub binary32 (float_in binary32 h) v))
      ≡ float_looked_up t x
  unfolding float_looked_up mixed_at place diff mixed
  float_gives h l p q =
      ap₂ (λ (i j : ℕ). mixed (get_or t i nan) (get_or t j nan) (sub binary32 (float_in binary32 i) v)) p.value q.value
      ∙ ap (λ (z : Float). mixed_at t (place binary32 (length t) z)) e

-- ---- `interp_wide`
module _ (t : List ℕ) (x : Float) where
  abbrev w : Float
  w = mul binary64 x (float (length t - 1))

  abbrev wide : ℕ → Float
  wide i = float (get_or t i 0)

  pub wide_gives : (h l : ℕ) → CeilPromise w h → FloorPromise w l
      → add binary64 (mul binary64 (wide l) (sub binary64 (float h) w)) (mul binary64 (wide h)
      (sub binary64 (of_bits binary64 4607182418800017408) (sub binary64 (float h) w)))
      ≡ weighed_up t x
  unfolding weighed_up weighed place diff
  wide_gives h l p q =
      ap (λ (c : Float). add binary64 (mul binary64 (wide l) (sub binary64 (float h) w))
      (mul binary64 (wide h) (sub binary64 c (sub binary64 (float h) w)))) (bits_one binary64)
      ∙ ap₂ (λ (i j : ℕ). add binary64 (mul binary64 (wide j) (sub binary64 (float i) w))
      (mul binary64 (wide i) (sub binary64 one (sub binary64 (float i) w)))) p.value q.value

  -- ---- `lut_interp_linear`
  pub empty_gives : (r : Float) → length t ≡ 0 → NarrowPromise x r → r ≡ linear_looked_up t x
  unfolding linear_looked_up
  empty_gives r h p =
      p.value ∙ sym (ap (λ (b : Bool). pick b (narrow x)
      (mul binary32 (narrow (weighed_up t x)) (div binary32 one (float_in binary32 65535)))) (eq-eqb (length t) 0 h))

  -- the f32 quotient 1/65535
  quotient : div binary32 (of_bits binary32 1065353216) (of_bits binary32 1199570688)
      ≡ div binary32 one (float_in binary32 65535)
  unfolding of_bits of_int
  quotient = refl

  pub linear_gives : (y r : Float) → (length t ≡ 0 → ⊥) → y ≡ weighed_up t x → NarrowPromise y r
      → mul binary32 r (div binary32 (of_bits binary32 1065353216) (of_bits binary32 1199570688)) ≡ linear_looked_up t x
  unfolding linear_looked_up
  linear_gives y r n e p =
      ap₂ (mul binary32) (p.value ∙ ap narrow e) quotient
      ∙ sym (ap (λ (b : Bool). pick b (narrow x)
      (mul binary32 (narrow (weighed_up t x)) (div binary32 one (float_in binary32 65535)))) (ne_eqb (length t) 0 n))
