-- The end of the f64 steps: below 0, at or above 65535, and between them floor(f + 0.5), which 16 bits hold. Assumes
-- nothing.
use mathlib.Core.Path.{◌≡◌, ◌∙◌, refl, sym, ap, ap₂, subst}
use mathlib.Core.Logic.{◌⊎◌, inl, inr, ⊎_elim}
use mathlib.Core.Bool.{Bool, true, false, not, ◌&&◌, ◌||◌, true≢false}
use Prim.Native.Nat.{ℕ, zero, suc, ◌+◌, ◌*◌, ◌≤◌, zero-le}
use native.Mathlib.Nat.{le_refl, zero-mul}
use native.Mathlib.Omega.{arith}
use borrow.Author.Tests.{le-ltb, not-false}
use lib.IntN.{pos}
use lib.Dec.{T, eqb, eqb→eq, ltb}
use lib.Ieee.{Float, nan, inf, fin, binary64, round, up, down, add, lt, le, eq, is_nan, of_int, of_bits}
use lib.Pow.{pow_pos}
use lib.Ieee.Bits.{is_true}
use lib.Ieee.Fits.{down_pos, and_l, and_r}
use lib.Ieee.Order.{le_of_values}
use Rattle.table.specs.Choice.{pick}
use Rattle.ieee.specs.Range.{whole, nought, float, half, upto}
use Rattle.ieee.proofs.Tests.{bits_nought, negative_under}
use Rattle.ieee.proofs.Zero.{zeros_ordered}
use Rattle.ieee.proofs.Range.{outside_is}
use Rattle.rounding.specs.Cut.{floor, FloorPromise}
use Rattle.rounding.proofs.Cut.{half_upto, half_floor, upto_quarter}
use Rattle.inverse_tail.specs.Tail.{hundredth, rounded}

-- ---- the constants, by their patterns
pub top_bits : of_bits binary64 0x40ef_ffe0_0000_0000 ≡ float 65535
unfolding of_bits of_int round
top_bits = refl

pub half_bits : of_bits binary64 0x3fe0_0000_0000_0000 ≡ half
unfolding of_bits
half_bits = refl

pub hundredth_bits : of_bits binary64 0x3f84_7ae1_47ae_147b ≡ hundredth
unfolding of_bits round
hundredth_bits = refl

top_whole : float 65535 ≡ whole 65535
unfolding of_int round
top_whole = refl

-- ---- what the tests tell
-- at or above a whole number is not below 0
above_not_under : (k : ℕ) (f : Float) → le (whole k) f ≡ true → lt f nought ≡ false
unfolding le lt eq
above_not_under k nan h = refl
above_not_under k (inf true) h = absurd (true≢false (sym h))
above_not_under k (inf false) h = refl
above_not_under k (fin false m e) h =
    le-ltb (m * up e * 1) (0 * down e) (subst (λ (z : ℕ). z ≤ m * up e * 1) (sym (zero-mul (down e))) zero-le)
above_not_under k (fin true m e) h =
    let a = k * 1 * down e in
    let b = m * up e * 1 in
    let t : T (eqb a b && (false || eqb a 0)) = subst T (sym h) tt in
    zero (eqb→eq a b (and_l (eqb a b) (false || eqb a 0) t)) (eqb→eq a 0 (and_r (eqb a b) (eqb a 0) t))
    (zero-mul (down e))
  where
    zero : {a b c : ℕ} → a ≡ b → a ≡ 0 → c ≡ 0 → ltb 0 (b + c) ≡ false
    zero {a} {b} {c} p q r = le-ltb 0 (b + c) (omega arith)

not_nan : (k : ℕ) (f : Float) → le (whole k) f ≡ true → is_nan f ≡ false
unfolding le lt eq is_nan
not_nan k nan h = absurd (true≢false (sym h))
not_nan k (inf s) h = refl
not_nan k (fin s m e) h = refl

-- neither a NaN nor below 0, and not at or above k: from 0 to k
under_upto : (k : ℕ) (f : Float) → is_nan f ≡ false → lt f nought ≡ false → le (whole k) f ≡ false → T (upto k f)
unfolding le
under_upto k f n h g =
    let out : (false || (false || false)) ≡ not (upto k f) =
    sym (ap₂ (λ (a b : Bool). a || b) n (ap₂ (λ (a b : Bool). a || b) h (left (lt (whole k) f) (eq (whole k) f) g)))
    ∙ outside_is k f in
    subst T (sym (not-false (upto k f) (sym out))) tt
  where
    left : (a b : Bool) → (a || b) ≡ false → a ≡ false
    left true b e = e
    left false b e = refl

-- below 0, or a NaN
not_above : (f : Float) → le nought f ≡ false → (lt f nought ≡ true) ⊎ (f ≡ nan)
unfolding le lt
not_above nan h = inr refl
not_above (inf true) h = inl refl
not_above (inf false) h = absurd (true≢false h)
not_above (fin true zero e) h = absurd (subst T h (zeros_ordered false true (pos 0) e))
not_above (fin true (suc m) e) h = inl (is_true (lt (fin true (suc m) e) nought) (negative_under m e))
not_above (fin false m e) h =
    absurd (subst T h (le_of_values nought (fin false m e) 0 1 (m * up e) (down e) (pow_pos 0) (down_pos e) (refl, refl)
    (refl, refl) (subst (λ (z : ℕ). z ≤ m * up e * 1) (sym (zero-mul (down e))) zero-le)))

rounded_nan : rounded nan ≡ 0
unfolding rounded lt le eq add floor of_int round
rounded_nan = refl

-- floor(f + 0.5) for an f from 0 to 65535
mid_upto : (f : Float) → T (upto 65535 f) → T (upto 65536 (add binary64 f half))
mid_upto f t = half_upto f (upto_quarter f t)

mid_fits : (f : Float) → T (upto 65535 f) → floor (add binary64 f half) ≤ 65535
mid_fits f t = half_floor f (upto_quarter f t)

number_fits : (f : Float) → is_nan f ≡ false → rounded f ≤ 65535
unfolding rounded
number_fits f n = go (lt f nought) (le (float 65535) f) refl refl
  where
    go : (a b : Bool) → lt f nought ≡ a → le (float 65535) f ≡ b
        → pick a 0 (pick b 65535 (floor (add binary64 f half))) ≤ 65535
    go true b h g = zero-le
    go false true h g = le_refl 65535
    go false false h g = mid_fits f (under_upto 65535 f n h (ap (λ (z : Float). le z f) (sym top_whole) ∙ g))

-- 16 bits hold what a float is rounded to, whatever it is. [inverse_tail]
pub rounded_fits : (f : Float) → rounded f ≤ 65535
unfolding is_nan
rounded_fits nan = rw rounded_nan zero-le
rounded_fits (inf s) = number_fits (inf s) refl
rounded_fits (fin s m e) = number_fits (fin s m e) refl

-- ---- `rounded`, by the program's tests and constants
module _ (f : Float) where
  top_test : (b : Bool) → le (of_bits binary64 0x40ef_ffe0_0000_0000) f ≡ b → le (float 65535) f ≡ b
  top_test b h = ap (λ (z : Float). le z f) (sym top_bits) ∙ h

  whole_test : (b : Bool) → le (float 65535) f ≡ b → le (whole 65535) f ≡ b
  whole_test b h = ap (λ (z : Float). le z f) (sym top_whole) ∙ h

  zero_test : (b : Bool) → le (of_bits binary64 0) f ≡ b → le nought f ≡ b
  zero_test b h = ap (λ (z : Float). le z f) (sym (bits_nought binary64)) ∙ h

  pub rounded_high : le (of_bits binary64 0x40ef_ffe0_0000_0000) f ≡ true → 65535 ≡ rounded f
  unfolding rounded
  rounded_high h =
      let t = top_test true h in
      simp (above_not_under 65535 f (whole_test true t), t)

  pub rounded_low : le (of_bits binary64 0) f ≡ false → 0 ≡ rounded f
  unfolding rounded
  rounded_low h =
      ⊎_elim (λ (u : lt f nought ≡ true). simp u)
      (λ (e : f ≡ nan). sym (ap rounded e ∙ rounded_nan)) (not_above f (zero_test false h))

  module _ (g : le (of_bits binary64 0x40ef_ffe0_0000_0000) f ≡ false) (h : le (of_bits binary64 0) f ≡ true) where
    inside : T (upto 65535 f)
    inside =
        let z = zero_test true h in
        under_upto 65535 f (not_nan 0 f z) (above_not_under 0 f z) (whole_test false (top_test false g))

    half_is : add binary64 f (of_bits binary64 0x3fe0_0000_0000_0000) ≡ add binary64 f half
    half_is = ap (add binary64 f) half_bits

    pub rounded_asks : T (upto 65536 (add binary64 f (of_bits binary64 0x3fe0_0000_0000_0000)))
    rounded_asks = subst (λ (z : Float). T (upto 65536 z)) (sym half_is) (mid_upto f inside)

    module _ {r : ℕ} (p : FloorPromise (add binary64 f (of_bits binary64 0x3fe0_0000_0000_0000)) r) where
      floor_is : r ≡ floor (add binary64 f half)
      floor_is = p.value ∙ ap floor half_is

      pub rounded_small : r ≤ 65535
      rounded_small = subst (λ (z : ℕ). z ≤ 65535) (sym floor_is) (mid_fits f inside)

      pub rounded_mid : r ≡ rounded f
      unfolding rounded
      rounded_mid = floor_is ∙ simp (above_not_under 0 f (zero_test true h), top_test false g)
