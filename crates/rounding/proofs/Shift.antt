-- The bit pattern of an f64 that is not below 1, and its whole part from that: the pattern's digits, shifted down.
-- Assumes nothing.
use mathlib.Core.Path.{◌≡◌, refl, sym, ap, ap₂, ◌∙◌, subst}
use mathlib.Core.Bool.{true, false}
use Prim.Native.Nat.{ℕ, zero, suc, ◌+◌, ◌-◌, ◌*◌, ◌/◌, ◌%◌, ◌^◌, ◌≤◌, ◌<◌}
use native.Mathlib.Nat.{le_trans, lt_of_lt_of_le, lt_of_not-le, lt_irrefl, zero-add, zero-mul, le-div_iff_mul-le}
use native.Mathlib.Omega.{arith}
use lib.Dec.{T}
use lib.Pow.{pow_pos, pow-add, pow_mono, shr_lt, shr-shr}
use borrow.Author.Tests.{ltb-true, ltb-false}
use lib.Ieee.{Float, nan, inf, fin, binary64, up, down, size, lt, of_bits, to_bits}
use lib.Ieee.Digits.{size-lt, size-le, size_reaches}
use lib.Ieee.Fits.{down_pos}
use lib.Ieee.Positive.{num, den}
use Rattle.ieee.specs.Range.{one}
use Rattle.ieee.proofs.Range.{counts}

-- ---- the bit pattern of an f64 that is n of the smallest ones: how many binary digits of n are dropped, and the rest
abbrev drop : ℕ → ℕ
drop n = size n - 53

abbrev pub pattern : ℕ → ℕ
pattern n = drop n * 4503599627370496 + n / 2 ^ drop n

-- what `floor_f64` makes of a pattern: its digits, with the leading one, shifted down
abbrev pub cut : ℕ → ℕ
cut b = (4503599627370496 + b % 4503599627370496) / 2 ^ (1075 - b / 4503599627370496)

-- of an f64 from 1 to 65,536 that is the whole part
module _ (n : ℕ) (lo : 2 ^ 1074 ≤ n) (hi : n < 2 ^ 1091) where
  long : 1074 < size n
  long =
      lt_of_not-le (λ (g : size n ≤ 1074). lt_irrefl n (lt_of_lt_of_le (size-lt n) (le_trans (pow_mono g) lo)))

  short : size n ≤ 1091
  short = size-le n 1091 hi

  parted : (z k : ℕ) → k ≡ z - 53 → 1074 < z → z ≤ 1091 → (53 + k ≡ z) × ((52 + k < z) × ((1022 ≤ k) × (k ≤ 1038)))
  parted z k e a b = (omega arith, (omega arith, (omega arith, omega arith)))

  places : (53 + drop n ≡ size n) × ((52 + drop n < size n) × ((1022 ≤ drop n) × (drop n ≤ 1038)))
  places = parted (size n) (drop n) refl long short

  digits_lt : n / 2 ^ drop n < 9007199254740992
  digits_lt = shr_lt 53 (drop n) (subst (λ (z : ℕ). n < 2 ^ z) (sym places.0) (size-lt n))

  digits_ge : 4503599627370496 ≤ n / 2 ^ drop n
  digits_ge =
      (le-div_iff_mul-le (pow_pos (drop n))).1
      (subst (λ (z : ℕ). z ≤ n) (pow-add 2 52 (drop n)) (size_reaches n (52 + drop n) places.1.0))

  exponent_is : pattern n / 4503599627370496 ≡ drop n + 1
  exponent_is = go (drop n) (n / 2 ^ drop n) digits_ge digits_lt
    where
      go : (k d : ℕ) → 4503599627370496 ≤ d → d < 9007199254740992
          → (k * 4503599627370496 + d) / 4503599627370496 ≡ k + 1
      go k d a b = omega arith

  digits_are : 4503599627370496 + pattern n % 4503599627370496 ≡ n / 2 ^ drop n
  digits_are = go (drop n) (n / 2 ^ drop n) digits_ge digits_lt
    where
      go : (k d : ℕ) → 4503599627370496 ≤ d → d < 9007199254740992
          → 4503599627370496 + (k * 4503599627370496 + d) % 4503599627370496 ≡ d
      go k d a b = omega arith

  pub exponent_in : (1023 ≤ pattern n / 4503599627370496) × (pattern n / 4503599627370496 ≤ 1039)
  exponent_in = go (pattern n / 4503599627370496) (drop n) exponent_is places.1.1
    where
      go : (e k : ℕ) → e ≡ k + 1 → (1022 ≤ k) × (k ≤ 1038) → (1023 ≤ e) × (e ≤ 1039)
      go e k a b = (omega (arith, b.0), omega (arith, b.1))

  pub cut_is_whole : cut (pattern n) ≡ n / 2 ^ 1074
  cut_is_whole =
      ap₂ (λ (a b : ℕ). a / 2 ^ (1075 - b)) digits_are exponent_is
      ∙ shr-shr n (drop n) (1075 - (drop n + 1))
      ∙ ap (λ (z : ℕ). n / 2 ^ z) (go (drop n) places.1.1.1)
    where
      go : (k : ℕ) → k ≤ 1038 → k + (1075 - (k + 1)) ≡ 1074
      go k a = omega arith

-- ---- the test `x < 1.0`
pub one_is : of_bits binary64 0x3ff0_0000_0000_0000 ≡ one
unfolding of_bits
one_is = refl

pub under_one : (x : Float) → T (counts x) → lt x one ≡ true → num x < den x
unfolding lt
under_one nan c h = absurd c
under_one (inf s) c h = absurd c
under_one (fin true (suc m) e) c h = absurd c
under_one (fin true zero e) c h = subst (λ (z : ℕ). z < down e) (sym (zero-mul (up e))) (down_pos e)
under_one (fin false m e) c h = go (m * up e) (down e) (ltb-true (m * up e * 1) (1 * down e) h)
  where
    go : (n d : ℕ) → n * 1 < 1 * d → n < d
    go n d h = omega arith

-- an x that is not below 1 has no sign
pub over_one : (x : Float) → T (counts x) → lt x one ≡ false
    → (den x ≤ num x) × (to_bits binary64 x ≡ pattern (num x * 2 ^ 1074 / den x))
unfolding lt to_bits
over_one nan c h = absurd c
over_one (inf s) c h = absurd c
over_one (fin true (suc m) e) c h = absurd c
over_one (fin true zero e) c h =
    absurd (go (0 * up e) (down e) (down_pos e) (ltb-false 0 (0 * up e * 1 + 1 * down e) h))
  where
    go : (n d : ℕ) → 0 < d → n * 1 + 1 * d ≤ 0 → ⊥
    go n d D h = omega arith
over_one (fin false m e) c h = (
  go (m * up e) (down e) (ltb-false (m * up e * 1) (1 * down e) h),
  let n = m * up e * 2 ^ 1074 / down e in ap (λ (z : ℕ). z + n / 2 ^ drop n) (zero-add (drop n * 4503599627370496)),
)
  where
    go : (n d : ℕ) → 1 * d ≤ n * 1 → d ≤ n
    go n d h = omega arith
