-- `lut_interp_linear` never answers a NaN, whatever it is asked: the numbers of each step are finite, by bounds that
-- need not be close. Assumes nothing.
use mathlib.Core.Path.{◌≡◌, refl, ◌∙◌, ap}
use mathlib.Core.Bool.{Bool, true, false}
use mathlib.Core.List.{List}
use Prim.Native.Nat.{ℕ, ◌≤◌}
use native.Mathlib.Omega.{arith}
use borrow.Author.Tests.{eqb-false}
use lib.ListN.{length, get_or}
use lib.Dec.{T, eqb, lit≤}
use lib.IntN.{negsuc}
use lib.Ieee.{Float, nan, fin, binary32, binary64, sub, mul, div, of_int, is_nan}
use Rattle.std.specs.Prelude.{Result}
use Rattle.table.specs.Choice.{pick}
use Rattle.table.specs.Order.{SixteenBits}
use Rattle.table.specs.Sizes.{sized, not_above}
use Rattle.table.specs.Refusals.{if_granted}
use Rattle.table.specs.declared.Refusal.{Refusal}
use Rattle.ieee.specs.Range.{nought, one, float_in, float, upto}
use Rattle.ieee.proofs.Range.{upto_fact}
use Rattle.ieee.proofs.NoNan.{no_nan, times_no_nan, Bounded, bounded_no_nan, bounded_more, upto_bounded, whole_bounded}
use Rattle.ieee.proofs.NoNan.{mul_bounded, add_bounded, sub_bounded}
use Rattle.rounding.specs.Cut.{floor, ceil}
use Rattle.rounding.specs.Nearest.{narrow}
use Rattle.rounding.proofs.Cut.{ceil_upto}
use Rattle.rounding.proofs.NoNan.{narrow_keeps}
use Rattle.interp.specs.Interp.{place, diff, outside_unit, weighed, weighed_up, linear_looked_up}
use Rattle.interp.specs.Promises.{value_of_interpolated, linear_verdict, LinearPromise}
use Rattle.interp.proofs.Place.{place_asks}
use Rattle.interp.proofs.Input.{inside_upto}
use Rattle.interp.proofs.Verdicts.{not_empty}

module _ (t : List ℕ) (bits : SixteenBits t) where
  entry : (i : ℕ) → Bounded 65536 (float (get_or t i 0))
  entry i =
      let k : get_or t i 0 ≤ 65536 = omega (arith, bits i) in
      bounded_more (get_or t i 0) 65536 (float (get_or t i 0)) k (whole_bounded binary64 (get_or t i 0) k)

  -- ---- the weighed entries at v
  module _ (v : Float) (few : T (upto 65536 v)) where
    away : Bounded 131072 (diff binary64 v)
    unfolding diff
    away =
        let c = float (ceil v) in
        let k = ceil_upto 65536 v few in
        let u : Bounded 65536 c = bounded_more (ceil v) 65536 c k (whole_bounded binary64 (ceil v) k) in
        sub_bounded binary64 c v 65536 65536 (lit≤ tt) u (upto_bounded 65536 v (upto_fact 65536 v few))

    rest : Bounded 131073 (sub binary64 one (diff binary64 v))
    rest = sub_bounded binary64 one (diff binary64 v) 1 131072 (lit≤ tt) (tt, lit≤ tt) away

    weighed_no_nan : is_nan (weighed t v) ≡ false
    unfolding weighed
    weighed_no_nan =
        let l = float (get_or t (floor v) 0) in
        let u = float (get_or t (ceil v) 0) in
        let d = diff binary64 v in
        let e = sub binary64 one d in
        let x = mul_bounded binary64 l d 65536 131072 (lit≤ tt) (entry (floor v)) away in
        let y = mul_bounded binary64 u e 65536 131073 (lit≤ tt) (entry (ceil v)) rest in
        bounded_no_nan 17179934720 (weighed t v)
        (add_bounded binary64 (mul binary64 l d) (mul binary64 u e) 8589934592 8590000128 (lit≤ tt) x y)

  -- ---- the lookup at x
  module _ (x : Float) (inside : outside_unit x ≡ false) where
    input_no_nan : is_nan x ≡ false
    input_no_nan = bounded_no_nan 1 x (upto_bounded 1 x (upto_fact 1 x (inside_upto x inside)))

    -- the f32 quotient 1/65535 is finite and not 0
    quotient : div binary32 one (float_in binary32 65535) ≡ fin false 65537 (negsuc 31)
    unfolding div of_int
    quotient = refl

    abbrev scaled : Float
    scaled = mul binary32 (narrow (weighed_up t x)) (div binary32 one (float_in binary32 65535))

    scaled_no_nan : sized (length t) ≡ true → is_nan scaled ≡ false
    unfolding weighed_up place
    scaled_no_nan some =
        let w = weighed_up t x in
        let few = place_asks (length t) some binary64 x (inside_upto x inside) in
        let sound = narrow_keeps w ∙ weighed_no_nan (place binary64 (length t) x) few in
        ap (λ (q : Float). is_nan (mul binary32 (narrow w) q)) quotient
        ∙ times_no_nan binary32 (narrow w) false 65536 (negsuc 31) sound

    looked_up_no_nan : not_above (length t) ≡ true → is_nan (linear_looked_up t x) ≡ false
    unfolding linear_looked_up
    looked_up_no_nan h = go (eqb (length t) 0) refl
      where
        go : (b : Bool) → eqb (length t) 0 ≡ b → is_nan (pick b (narrow x) scaled) ≡ false
        go true e = narrow_keeps x ∙ input_no_nan
        go false e = scaled_no_nan (not_empty t x h (eqb-false (length t) 0 e))

nought_no_nan : is_nan nought ≡ false
unfolding is_nan
nought_no_nan = refl

-- The answer, granted or refused, is no NaN. [interp::lut_interp_linear]
pub linear_no_nan : {t : List ℕ} {x : Float} {r : Result Float Refusal} → SixteenBits t → LinearPromise t x r
    → value_of_interpolated r ≡ nan → ⊥
linear_no_nan {t} {x} {r} bits p =
    no_nan (value_of_interpolated r) (ap is_nan p.value ∙ go (not_above (length t)) (outside_unit x) refl refl)
  where
    go : (a b : Bool) → not_above (length t) ≡ a → outside_unit x ≡ b
        → is_nan (if_granted (linear_verdict t x) (linear_looked_up t x) nought) ≡ false
    go false false h k = simp (h, k) nought_no_nan
    go false true h k = simp (h, k) nought_no_nan
    go true true h k = simp (h, k) nought_no_nan
    go true false h k = simp (h, k) (looked_up_no_nan t bits x k h)
