-- When an answer of this crate is a NaN: where an argument is one. A fixed-point number never gives one. Assumes
-- nothing.
use mathlib.Core.Path.{◌≡◌, refl, sym, ap, ◌∙◌}
use mathlib.Core.Bool.{Bool, true, false, ◌||◌, cond, true≢false}
use Prim.Native.Nat.{ℕ, suc, ◌*◌, ◌^◌, ◌<◌}
use native.Mathlib.Omega.{arith}
use lib.IntN.{ℤ, pos, negsuc}
use lib.Signed.{mag}
use lib.Dec.{T, lit<, lit≤}
use lib.Ieee.{Float, nan, inf, fin, binary32, up, down, is_nan, lt}
use lib.Ieee.Scale.{finite}
use Rattle.ieee.proofs.NoNan.{no_nan, is_nan_lem, round_no_nan, round_bounded}
use Rattle.rounding.specs.Nearest.{narrow, ratio, NarrowPromise, U8Fixed8Promise, S15Fixed16Promise}
use Rattle.rounding.specs.Size.{minimum, abs, MinPromise, AbsPromise}

-- ---- narrowed, and without its sign
pub narrow_keeps : (x : Float) → is_nan (narrow x) ≡ is_nan x
unfolding narrow is_nan
narrow_keeps nan = refl
narrow_keeps (inf s) = refl
narrow_keeps (fin s m e) = round_no_nan binary32 s (m * up e) (down e)

nan_is : is_nan nan ≡ true
unfolding is_nan
nan_is = refl

-- It is a NaN only of a NaN. [rounding::nearest_f64_to_f32]
pub narrow_nan_of : {x r : Float} → NarrowPromise x r → r ≡ nan → x ≡ nan
narrow_nan_of {x} p e = is_nan_lem x (sym (narrow_keeps x) ∙ ap is_nan (sym p.value ∙ e) ∙ nan_is)

abs_keeps : (x : Float) → is_nan (abs x) ≡ is_nan x
unfolding abs is_nan
abs_keeps nan = refl
abs_keeps (inf s) = refl
abs_keeps (fin s m e) = refl

-- It is a NaN only of a NaN. [rounding::abs_f32, rounding::abs_f64]
pub abs_nan_of : {x r : Float} → AbsPromise x r → r ≡ nan → x ≡ nan
abs_nan_of {x} p e = is_nan_lem x (sym (abs_keeps x) ∙ ap is_nan (sym p.value ∙ e) ∙ nan_is)

-- ---- the lesser of two: both are
minimum_nan : (x bound : Float) → minimum x bound ≡ nan → (x ≡ nan) × (bound ≡ nan)
unfolding minimum lt is_nan
minimum_nan nan bound e = (refl, e)
minimum_nan (inf s) bound e = go (lt bound (inf s)) refl e
  where
    go : (b : Bool) → lt bound (inf s) ≡ b → cond (false || b) bound (inf s) ≡ nan → (inf s ≡ nan) × (bound ≡ nan)
    go true h e = absurd (true≢false (sym h ∙ ap (λ (y : Float). lt y (inf s)) e))
    go false h e = absurd (no_nan (inf s) refl e)
minimum_nan (fin s m d) bound e = go (lt bound (fin s m d)) refl e
  where
    go : (b : Bool) → lt bound (fin s m d) ≡ b → cond (false || b) bound (fin s m d) ≡ nan
        → (fin s m d ≡ nan) × (bound ≡ nan)
    go true h e = absurd (true≢false (sym h ∙ ap (λ (y : Float). lt y (fin s m d)) e))
    go false h e = absurd (no_nan (fin s m d) refl e)

-- It is a NaN only of two NaNs. [rounding::min_f32]
pub min_nan_of : {x bound r : Float} → MinPromise x bound r → r ≡ nan → (x ≡ nan) × (bound ≡ nan)
min_nan_of {x} {bound} p e = minimum_nan x bound (sym p.value ∙ e)

-- ---- a fixed-point number
pub ratio_no_nan : (z : ℤ) (d : ℕ) → is_nan (ratio z d) ≡ false
unfolding ratio
ratio_no_nan (pos n) d = round_no_nan binary32 _ n d
ratio_no_nan (negsuc n) d = round_no_nan binary32 _ (suc n) d

-- It is never a NaN. [rounding::u8_fixed_8number_to_float]
pub u8_no_nan : {x : ℕ} {r : Float} → U8Fixed8Promise x r → r ≡ nan → ⊥
u8_no_nan {x} {r} p = no_nan r (ap is_nan p.value ∙ ratio_no_nan (pos x) 256)

-- It is never a NaN. [rounding::s15_fixed16_number_to_float]
pub s15_no_nan : {x : ℤ} {r : Float} → S15Fixed16Promise x r → r ≡ nan → ⊥
s15_no_nan {x} {r} p = no_nan r (ap is_nan p.value ∙ ratio_no_nan x 65536)

-- an i32 over 65536 is at most 32768 in size
pub ratio_finite : (z : ℤ) → mag z < 2 ^ 31 → T (finite (ratio z 65536))
unfolding ratio
ratio_finite (pos n) h = (round_bounded binary32 _ n 65536 32768 (lit< tt) (lit≤ tt) (omega arith)).0
ratio_finite (negsuc n) h = (round_bounded binary32 _ (suc n) 65536 32768 (lit< tt) (lit≤ tt) (omega arith)).0
