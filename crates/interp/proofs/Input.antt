-- An input read as a number from 0 to 1, and an input that is refused because it is none. Assumes nothing.
use mathlib.Core.Path.{◌≡◌, refl, sym, ap, ap₂, ◌∙◌, subst}
use mathlib.Core.Bool.{Bool, true, false, ◌||◌, cond}
use lib.Dec.{T}
use borrow.Author.Tests.{not-false}
use lib.Ieee.{Float, binary32, binary64, lt, le, ne, is_nan, of_bits}
use Rattle.table.specs.Choice.{pick}
use Rattle.ieee.specs.Range.{nought, one, upto}
use Rattle.ieee.proofs.Tests.{differs_is_nan, bits_nought, bits_one}
use Rattle.ieee.proofs.Range.{outside_is}
use Rattle.rounding.specs.Size.{minimum, MinPromise}
use Rattle.interp.specs.Interp.{unit, outside_unit}

-- ---- `unit`
one_not_under : lt one nought ≡ false
unfolding lt
one_not_under = refl

-- from the lesser of x and 1
from_minimum : (x : Float) → pick (lt (minimum x one) nought) nought (minimum x one) ≡ unit x
unfolding minimum unit
from_minimum x = go (is_nan x || lt one x)
  where
    go : (b : Bool) → pick (lt (cond b one x) nought) nought (cond b one x) ≡ pick b one (pick (lt x nought) nought x)
    go true = ap (λ (t : Bool). pick t nought one) one_not_under
    go false = refl

module _ (x r : Float) (p : MinPromise x (of_bits binary32 1065353216) r) where
  is_minimum : r ≡ minimum x one
  is_minimum = p.value ∙ ap (minimum x) (bits_one binary32)

  pub unit_low : lt r (of_bits binary32 0) ≡ true → of_bits binary32 0 ≡ unit x
  unit_low h =
      bits_nought binary32
      ∙ ap (λ (t : Bool). pick t nought (minimum x one))
      (sym (ap₂ lt (sym is_minimum) (sym (bits_nought binary32)) ∙ h))
      ∙ from_minimum x

  pub unit_kept : lt r (of_bits binary32 0) ≡ false → r ≡ unit x
  unit_kept h =
      is_minimum
      ∙ ap (λ (t : Bool). pick t nought (minimum x one))
      (sym (ap₂ lt (sym is_minimum) (sym (bits_nought binary32)) ∙ h))
      ∙ from_minimum x

one_upto : T (upto 1 one)
unfolding upto le
one_upto = tt

nought_upto : T (upto 1 nought)
unfolding upto le
nought_upto = tt

pub inside_upto : (x : Float) → outside_unit x ≡ false → T (upto 1 x)
unfolding outside_unit
inside_upto x h = subst T (sym (not-false (upto 1 x) (sym (outside_is 1 x) ∙ h))) tt

-- by the three tests
is_inside : (x : Float) → is_nan x ≡ false → lt x nought ≡ false → lt one x ≡ false → outside_unit x ≡ false
unfolding outside_unit
is_inside x p q r = ap₂ (λ (a b : Bool). a || b) p (ap₂ (λ (a b : Bool). a || b) q r)

unit_upto : (x : Float) → T (upto 1 (unit x))
unfolding unit
unit_upto x = go (is_nan x) (lt one x) (lt x nought) refl refl refl
  where
    go : (a b c : Bool) → is_nan x ≡ a → lt one x ≡ b → lt x nought ≡ c
        → T (upto 1 (pick (a || b) one (pick c nought x)))
    go true b c p q r = one_upto
    go false true c p q r = one_upto
    go false false true p q r = nought_upto
    go false false false p q r = inside_upto x (is_inside x p r q)

pub read_upto : (x y : Float) → y ≡ unit x → T (upto 1 y)
read_upto x y e = subst (λ (z : Float). T (upto 1 z)) (sym e) (unit_upto x)

-- ---- `outside_unit`, with the constants as a program has them
module _ (x : Float) where
  pub outside_nan : ne x x ≡ true → true ≡ outside_unit x
  unfolding outside_unit
  outside_nan h = sym (ap (λ (a : Bool). a || (lt x nought || lt one x)) (differs_is_nan x true h))

  pub outside_low : ne x x ≡ false → lt x (of_bits binary64 0) ≡ true → true ≡ outside_unit x
  unfolding outside_unit
  outside_low h k =
      sym (ap₂ (λ (a b : Bool). a || (b || lt one x)) (differs_is_nan x false h)
      (ap (lt x) (sym (bits_nought binary64)) ∙ k))

  pub outside_high : ne x x ≡ false → lt x (of_bits binary64 0) ≡ false
      → lt (of_bits binary64 4607182418800017408) x ≡ outside_unit x
  unfolding outside_unit
  outside_high h k =
      ap (λ (z : Float). lt z x) (bits_one binary64)
      ∙ sym (ap₂ (λ (a b : Bool). a || (b || lt one x)) (differs_is_nan x false h)
      (ap (lt x) (sym (bits_nought binary64)) ∙ k))
