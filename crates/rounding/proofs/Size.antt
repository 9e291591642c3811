-- The lesser of two floats and a float's size, by a program's tests. Assumes nothing.
use mathlib.Core.Path.{◌≡◌, refl, sym, ap, ap₂, ◌∙◌, subst}
use Prim.Native.Nat.{ℕ, ◌*◌}
use native.Mathlib.Nat.{le_of_eq, mul-one}
use mathlib.Core.Bool.{Bool, true, false, not, ◌||◌, cond}
use lib.Dec.{T}
use lib.Ieee.{Float, nan, inf, fin, is_nan, lt, ne}
use borrow.Author.Tests.{not-false}
use Rattle.ieee.proofs.Range.{upto_test, outside_is}
use Rattle.ieee.specs.Range.{nought, whole, upto}
use Rattle.ieee.proofs.Tests.{differs_is_nan}
use Rattle.std.specs.Float.{float_with_sign}
use Rattle.rounding.specs.Size.{minimum, abs, MinPromise}

-- ---- the lesser
pub min_nan : (x bound : Float) → ne x x ≡ true → MinPromise x bound bound
unfolding minimum
min_nan x bound h = record { value = sym (ap (λ (t : Bool). cond (t || lt bound x) bound x) (differs_is_nan x true h)) }

pub min_over : (x bound : Float) → ne x x ≡ false → lt bound x ≡ true → MinPromise x bound bound
unfolding minimum
min_over x bound h k = record { value = sym (ap₂ (λ (t u : Bool). cond (t || u) bound x) (differs_is_nan x false h) k) }

pub min_itself : (x bound : Float) → ne x x ≡ false → lt bound x ≡ false → MinPromise x bound x
unfolding minimum
min_itself x bound h k =
    record { value = sym (ap₂ (λ (t u : Bool). cond (t || u) bound x) (differs_is_nan x false h) k) }

-- Of an x that is not below 0 and a whole bound k it is from 0 to k. [rounding::min_f32]
pub min_upto : (k : ℕ) (x : Float) → lt x nought ≡ false → T (upto k (minimum x (whole k)))
unfolding minimum
min_upto k x h = go (is_nan x) (lt (whole k) x) refl refl
  where
    bound_in : T (upto k (whole k))
    bound_in = upto_test k (whole k) (tt, le_of_eq (mul-one (k * 1)))

    go : (t u : Bool) → is_nan x ≡ t → lt (whole k) x ≡ u → T (upto k (cond (t || u) (whole k) x))
    go true u e g = bound_in
    go false true e g = bound_in
    go false false e g =
        let out : (false || (false || false)) ≡ not (upto k x) =
        sym (ap₂ (λ (a b : Bool). a || b) e (ap₂ (λ (a b : Bool). a || b) h g)) ∙ outside_is k x in
        subst T (sym (not-false (upto k x) (sym out))) tt

-- ---- the size
-- A float without its sign is its size.
pub abs_unsigned : (x : Float) → float_with_sign false x ≡ abs x
unfolding abs float_with_sign
abs_unsigned nan = refl
abs_unsigned (inf s) = refl
abs_unsigned (fin s m e) = refl
