-- At the two ends of a table of floats no rounding changes a finite entry, but for the sign of a zero. Assumes nothing.
use mathlib.Core.Path.{◌≡◌, refl, sym, ap, ap₂, ◌∙◌, subst}
use mathlib.Core.Bool.{Bool, true, false, not, ◌&&◌, true≢false}
use mathlib.Core.List.{List}
use Prim.Native.Nat.{ℕ, zero, suc, ◌+◌, ◌-◌, ◌*◌, ◌≤◌, ◌<◌, zero-le}
use native.Mathlib.Nat.{le_antisymm, le_of_eq, one-mul, mul-one, zero-mul, mul-pos}
use native.Mathlib.Omega.{arith}
use borrow.Author.Tests.{lt-ltb, le-ltb, ltb-false}
use lib.ListN.{length, get_or}
use lib.IntN.{ℤ, pos}
use lib.Dec.{T, ltb, lit<}
use lib.Pow.{pow_pos}
use lib.Ieee.{Float, nan, inf, fin, binary32, up, down, unlike, fits, is_nan, round, add, sub, mul, neg, lt, le, eq}
use lib.Ieee.{of_int}
use lib.Ieee.Bits.{is_true}
use lib.Ieee.Fits.{down_pos}
use lib.Ieee.Exact.{HasValue}
use lib.Ieee.Scale.{finite}
use Rattle.table.specs.Choice.{pick}
use Rattle.table.specs.Sizes.{sized}
use Rattle.ieee.specs.Range.{nought, one, float_in}
use Rattle.ieee.proofs.Tests.{negative_under, positive_not_under}
use Rattle.ieee.proofs.Value.{value_unique}
use Rattle.ieee.proofs.Operations.{mul_of, sign_kept}
use Rattle.ieee.proofs.Zero.{null, times_zero, zero_times, plus_zero, zero_plus_zero, minus_itself, equals_itself}
use Rattle.ieee.proofs.Zero.{zeros_equal}
use Rattle.ieee.proofs.Range.{has_finite, whole_of}
use Rattle.rounding.specs.Cut.{floor, ceil}
use Rattle.rounding.proofs.Cut.{floor_whole, ceil_whole}
use Rattle.interp.specs.Interp.{unit, place, diff, mixed, mixed_at, float_looked_up}
use Rattle.interp.specs.Promises.{EndsExact}
use Rattle.interp.proofs.Place.{last_few}

-- ---- where the input reads as an end
one_fits : T (fits binary32 one)
unfolding fits
one_fits = tt

-- at 1 and above, and at a NaN
unit_top : (x : Float) → T (fits binary32 x) → lt x one ≡ false → unit x ≡ one
unfolding unit is_nan lt
unit_top nan F h = refl
unit_top (inf true) F h = absurd (true≢false h)
unit_top (inf false) F h = refl
unit_top (fin true m e) F h =
    absurd (true≢false (sym (lt-ltb 0 (m * up e * 1 + 1 * 1 * down e)
    (more (m * up e * 1) (1 * 1 * down e) (mul-pos (lit< tt) (down_pos e)))) ∙ h))
  where
    more : (a b : ℕ) → 0 < b → 0 < a + b
    more a b h = omega arith
unit_top (fin false m e) F h = go (ltb (1 * 1 * down e) (m * up e * 1)) refl
  where
    go : (b : Bool) → ltb (1 * 1 * down e) (m * up e * 1) ≡ b
        → pick b one (pick (ltb (m * up e * 1) (0 * down e)) nought (fin false m e)) ≡ one
    go true k = refl
    go false k =
        ap (λ (t : Bool). pick t nought (fin false m e))
        (le-ltb (m * up e * 1) (0 * down e) (subst (λ (z : ℕ). z ≤ m * up e * 1) (sym (zero-mul (down e))) zero-le))
        ∙ value_unique binary32 (fin false m e) one false 1 1 F one_fits (pow_pos 0) (
          refl,
          le_antisymm
              (ltb-false (1 * 1 * down e) (m * up e * 1) k) (ltb-false (m * up e * 1) (1 * 1 * down e) h),
        ) (refl, refl)

-- at 0 and below: a zero
abbrev Zero : Float → Type 0
Zero y = (s : Bool) × (e : ℤ) × (y ≡ fin s 0 e)

unit_bottom : (x : Float) → T (le x nought) → Zero (unit x)
unfolding unit is_nan lt le
unit_bottom nan h = absurd h
unit_bottom (inf true) h = (false, pos 0, refl)
unit_bottom (inf false) h = absurd h
unit_bottom (fin true zero e) h = (
  true,
  e,
  ap (λ (t : Bool). pick t nought (fin true 0 e)) (le-ltb 0 (0 * up e * 1 + 0 * down e)
      (le_of_eq (ap₂ (λ (y z : ℕ). y * 1 + z) (zero-mul (up e)) (zero-mul (down e))))),
)
unit_bottom (fin true (suc m) e) h = (
  false,
  pos 0,
  ap (λ (t : Bool). pick t nought (fin true (suc m) e)) (is_true (lt (fin true (suc m) e) nought)
      (negative_under m e)),
)
unit_bottom (fin false zero e) h = (
  false,
  e,
  ap₂ (λ (t u : Bool). pick t one (pick u nought (fin false 0 e))) (le-ltb (1 * 1 * down e) (0 * up e * 1)
      (none (1 * 1 * down e))) (le-ltb (0 * up e * 1) (0 * down e) (le_of_eq (zero-mul (down e) ∙ sym nothing))),
)
  where
    nothing : 0 * up e * 1 ≡ 0
    nothing = mul-one (0 * up e) ∙ zero-mul (up e)

    none : (z : ℕ) → 0 * up e * 1 ≤ z
    none z = subst (λ (y : ℕ). y ≤ z) (sym nothing) zero-le
unit_bottom (fin false (suc m) e) h = absurd (positive_not_under m e h)

-- ---- (u - u·0) + u·0 is u
mixed_is : (u d : Float) → mixed u u d ≡ add binary32 (add binary32 u (neg (mul binary32 u d))) (mul binary32 u d)
unfolding mixed sub
mixed_is u d = refl

-- with u·0 known as a zero of u's sign
with_zero : (u : Float) (s : Bool) → mul binary32 u nought ≡ null s
    → mixed u u nought ≡ add binary32 (add binary32 u (null (not s))) (null s)
unfolding neg
with_zero u s e = mixed_is u nought ∙ ap (λ (z : Float). add binary32 (add binary32 u (neg z)) z) e

-- A finite entry mixed with itself at a distance of 0 is itself, as a number. [interp::lut_interp_linear_float]
pub mixed_alike : (u : Float) → T (fits binary32 u) → T (finite u) → T (eq (mixed u u nought) u)
mixed_alike nan F N = absurd N
mixed_alike (inf s) F N = absurd N
mixed_alike (fin s zero e) F N =
    subst (λ (r : Float). T (eq r (fin s 0 e)))
    (sym (with_zero (fin s 0 e) (unlike s false) (times_zero binary32 s false 0 e (pos 0))
    ∙ ap (λ (z : Float). add binary32 z (null (unlike s false))) (zero_plus_zero binary32 s
    (not (unlike s false)) e (pos 0))
    ∙ zero_plus_zero binary32 (s && not (unlike s false)) (unlike s false) (pos 0) (pos 0)))
    (zeros_equal ((s && not (unlike s false)) && unlike s false) s (pos 0) e)
mixed_alike (fin s (suc m) e) F N =
    subst (λ (r : Float). T (eq r (fin s (suc m) e)))
    (sym (with_zero (fin s (suc m) e) (unlike s false) (times_zero binary32 s false (suc m) e (pos 0))
    ∙ ap (λ (z : Float). add binary32 z (null (unlike s false))) (plus_zero binary32 s
    (not (unlike s false)) m e (pos 0) F)
    ∙ plus_zero binary32 s (unlike s false) m e (pos 0) F))
    (equals_itself (fin s (suc m) e) tt)

-- ---- v is a whole number k: both entries are entry k, and diff is 0
at_whole : (t : List Float) (k : ℕ) (v : Float) → k ≤ 65536 → v ≡ float_in binary32 k
    → mixed_at t v ≡ mixed (get_or t k nan) (get_or t k nan) nought
unfolding mixed_at diff
at_whole t k v K e =
    let w = float_in binary32 k in
    let h : HasValue w false k 1 = whole_of binary32 k K in
    ap (mixed_at t) e
    ∙ ap₂ (λ (i j : ℕ). mixed (get_or t i nan) (get_or t j nan)
    (sub binary32 (float_in binary32 i) w)) (ceil_whole w false k h) (floor_whole w false k h)
    ∙ ap (mixed (get_or t k nan) (get_or t k nan)) (minus_itself binary32 w (has_finite w false k 1 h))

-- v is a zero of either sign
at_zero : (t : List Float) (s : Bool) → mixed_at t (null s) ≡ mixed (get_or t 0 nan) (get_or t 0 nan) nought
unfolding mixed_at diff floor ceil of_int sub add neg
at_zero t true = refl
at_zero t false = refl

module _ (t : List Float) (S : sized (length t) ≡ true) (x : Float) where
  abbrev k : ℕ
  k = length t - 1

  K : k ≤ 65536
  K = last_few (length t) S

  last_place : T (fits binary32 x) → lt x one ≡ false → place binary32 (length t) (unit x) ≡ float_in binary32 k
  unfolding place of_int
  last_place X h =
      ap (λ (y : Float). mul binary32 y (float_in binary32 k)) (unit_top x X h)
      ∙ mul_of binary32 one (float_in binary32 k) false false 1 1 k 1 (pow_pos 0) (pow_pos 0) (refl, refl)
      (whole_of binary32 k K)
      ∙ ap (λ (z : ℕ). round binary32 false z 1) (one-mul k)

  first_place : le x nought ≡ true → (s : Bool) × (place binary32 (length t) (unit x) ≡ null s)
  unfolding place
  first_place h =
      let z = unit_bottom x (subst T (sym h) tt) in (
        z.0,
        ap (λ (y : Float). mul binary32 y (float_in binary32 k)) z.2
            ∙ go (float_in binary32 k) z.0 z.1 (whole_of binary32 k K),
      )
    where
      go : (w : Float) (s : Bool) (e : ℤ) → HasValue w false k 1 → mul binary32 (fin s 0 e) w ≡ null s
      go nan s e v = absurd v
      go (inf u) s e v = absurd v
      go (fin u n d) s e v = zero_times binary32 s u n e d ∙ ap null (ap (unlike s) v.0 ∙ sign_kept s)

  -- The definition is exact at both ends. The entries that the ends name are floats of the format, as any f32 is.
  -- [interp::lut_interp_linear_float]
  pub ends_exact : T (fits binary32 x) → T (fits binary32 (get_or t k nan)) → T (fits binary32 (get_or t 0 nan))
      → EndsExact t x (float_looked_up t x)
  unfolding float_looked_up
  ends_exact X L F = record {
    last =
        λ h N. subst (λ (y : Float). T (eq y (get_or t k nan))) (sym
        (at_whole t k (place binary32 (length t) (unit x)) K (last_place X h))) (mixed_alike (get_or t k nan) L N);
    first =
        λ h N.
        let z = first_place h in
        subst (λ (y : Float). T (eq y (get_or t 0 nan))) (sym (ap (mixed_at t) z.1 ∙ at_zero t z.0))
        (mixed_alike (get_or t 0 nan) F N);
  }
