-- The bit pattern of the f32 nearest to an f64: the quotient that `nearest_quotient` works out by a sum, and `narrow`
-- of the f64's fields in each range of the exponent, in the order in which `magnitude` tests them. Assumes nothing.
use mathlib.Core.Path.{◌≡◌, refl, sym, ap, ap₂, ◌∙◌, subst}
use mathlib.Core.Bool.{Bool, true, false, not, cond, ◌&&◌}
use mathlib.Core.Logic.{inl, inr}
use Prim.Native.Nat.{ℕ, zero, suc, ◌+◌, ◌-◌, ◌*◌, ◌/◌, ◌%◌, ◌^◌, ◌≤◌, ◌<◌, zero-le, compare}
use Prim.Native.Nat.{Ordering}
use native.Mathlib.Nat.{le_trans, le_of_eq, le-add_right, lt_of_lt_of_le, eq-or-lt_of_le, suc-sub-suc, one-mul}
use native.Mathlib.Nat.{mul_assoc, mul-le-mul_left, mul-le-mul, mod-lt, add-mul}
use native.Mathlib.Nat.{div-add-mod', div-eq_of_lt-le, mul-add-div_right, mul-add-mod_self_right}
use native.Mathlib.Nat.{le_of_suc-le-suc, div-lt_iff_lt-mul}
use Rattle.std.proofs.Common.{true≢false, eqb→eq}
use native.Mathlib.Omega.{arith}
use lib.Dec.{T, leb, ltb, eqb, lit<, lit≤}
use lib.Arith.{le→nltb}
use lib.Pow.{pow-add, pow_pos, pow_mono, shl_exact}
use borrow.Author.Tests.{ltb-true, ltb-false, ne_eqb}
use lib.Ieee.{Float, nan, inf, fin, binary32, binary64, up, down, odd, round, fits, is_nan, nan_bits, ne, div}
use lib.Ieee.{of_fields}
use lib.Ieee.{nearest, of_bits, to_bits}
use lib.Ieee.Fits.{down_pos, round-fits, nan-fits, inf-fits}
use lib.Ieee.Bits.{of_bits-to_bits, is_false, nan_bits_is, nan_bits_above}
use lib.Ieee.Compare.{differs_from_itself}
use lib.Ieee.Exact.{HasValue, odd_sign}
use lib.Ieee.Nearest.{closest}
use lib.Ieee.Scale.{round_same}
use Rattle.ieee.proofs.Tests.{not_nan}
use Rattle.ieee.proofs.Value.{round_id}
use Rattle.ieee.proofs.Closest.{closest_up, closest_down, closest_none, closest_le, closest_ge}
use Rattle.ieee.proofs.Units.{inf_pattern, round_pattern, round_infinite}
use Rattle.rounding.specs.Nearest.{narrow, NarrowPromise}

-- ---- laws for callers: a value that is known as a fraction, what an f32 holds already, and what comes out

-- It goes by the number, and not by how that is written. [rounding::nearest_f64_to_f32]
pub narrow_of : (x : Float) (s : Bool) (a c : ℕ) → 0 < c → HasValue x s a c → narrow x ≡ round binary32 s a c
unfolding narrow
narrow_of nan s a c C h = absurd h
narrow_of (inf t) s a c C h = absurd h
narrow_of (fin t m e) s a c C h =
    ap (λ (z : Bool). round binary32 z (m * up e) (down e)) h.0
    ∙ round_same binary32 s (m * up e) (down e) a c (down_pos e) C h.1

-- An f32 stays what it is. [rounding::nearest_f64_to_f32]
pub narrow_id : (x : Float) → T (fits binary32 x) → narrow x ≡ x
unfolding narrow
narrow_id nan F = refl
narrow_id (inf s) F = refl
narrow_id (fin s m e) F = round_id binary32 (fin s m e) s (m * up e) (down e) F (down_pos e) (refl, refl)

-- What comes out is an f32. [rounding::nearest_f64_to_f32]
pub narrow_fits : (x : Float) → T (fits binary32 (narrow x))
unfolding narrow
narrow_fits nan = nan-fits binary32
narrow_fits (inf s) = inf-fits binary32 s
narrow_fits (fin s m e) = round-fits binary32 s (m * up e) (down e)

-- ---- what `nearest_quotient` returns: the sum reaches the next multiple of d exactly where `closest` goes up
module _ (n d : ℕ) (D : 2 ≤ d) (E : d % 2 ≡ 0) where
  parts : n / d * d + n % d ≡ n
  parts = div-add-mod' n d

  small : n % d < d
  small = mod-lt n (le_trans (lit≤ tt) D)

  next : (k : ℕ) → (k + 1) * d ≡ k * d + d
  next k = add-mul k 1 d ∙ ap (λ (z : ℕ). k * d + z) (one-mul d)

  pub by_sum : (n + d / 2 + n / d % 2 - 1) / d ≡ closest n d
  by_sum = go (ltb d (n % d * 2 + n / d % 2)) refl
    where
      go : (b : Bool) → ltb d (n % d * 2 + n / d % 2) ≡ b → (n + d / 2 + n / d % 2 - 1) / d ≡ closest n d
      go true k =
          let h : d < n % d * 2 + n / d % 2 = ltb-true d (n % d * 2 + n / d % 2) k in
          div-eq_of_lt-le d (omega (arith, parts, next (n / d)))
          (omega (arith, parts, small, next (n / d), next (n / d + 1)))
          ∙ sym (closest_up n d h)
      go false k =
          let h : n % d * 2 + n / d % 2 ≤ d = ltb-false d (n % d * 2 + n / d % 2) k in
          div-eq_of_lt-le d (omega (arith, parts)) (omega (arith, parts, small, next (n / d)))
          ∙ sym (closest_down n d h)

-- an even multiple of d more leaves a tie what it was
closest_more : (a n d : ℕ) → 0 < d → a % 2 ≡ 0 → closest (a * d + n) d ≡ a + closest n d
closest_more a n d D E =
    ap₂ (λ (q r : ℕ). nearest q (compare (r * 2) d)) (mul-add-div_right D a n) (mul-add-mod_self_right a d n)
    ∙ go (compare (n % d * 2) d)
  where
    go : (o : Ordering) → nearest (a + n / d) o ≡ a + nearest (n / d) o
    go Ordering.lt = refl
    go Ordering.eq = omega arith
    go Ordering.gt = omega arith

-- ---- the exponents
powers : (q a b c d e : ℕ) → a + b + c ≡ d + e → q * 2 ^ a * 2 ^ b * 2 ^ c ≡ q * (2 ^ d * 2 ^ e)
powers q a b c d e h =
    ap (λ (z : ℕ). z * 2 ^ c) (mul_assoc q (2 ^ a) (2 ^ b) ∙ ap (λ (z : ℕ). q * z) (sym (pow-add 2 a b)))
    ∙ mul_assoc q (2 ^ (a + b)) (2 ^ c)
    ∙ ap (λ (z : ℕ). q * z) (sym (pow-add 2 (a + b) c) ∙ ap (λ (z : ℕ). 2 ^ z) h ∙ pow-add 2 d e)

-- ---- q * 2 ^ j of the smallest f64, for a q of at most 53 digits
module _ (s : Bool) (q j : ℕ) (hi : q < 2 ^ 53) where
  abbrev rounded : Float
  rounded = round binary32 s (q * 2 ^ j) (2 ^ 1074)

  -- below the normal numbers of the f32
  low : j ≤ 895 → of_bits binary32 (cond s 2147483648 0 + closest q (2 ^ (925 - j))) ≡ rounded
  low J =
      ap (λ (z : ℕ). of_bits binary32 (cond s 2147483648 0 + z)) (tidy (closest q (2 ^ (925 - j))))
      ∙ round_pattern binary32 s (q * 2 ^ j) (2 ^ 1074) 0 q (2 ^ (925 - j)) (pow_pos 1074)
      (pow_pos (925 - j)) (powers q j 149 (925 - j) 1074 0 (sum j J))
      (lt_of_lt_of_le hi (le_trans (lit≤ tt) (mul-le-mul_left (2 ^ 24) (pow_mono (far j J))))) (inl refl) zero-le
    where
      tidy : (r : ℕ) → r ≡ 0 * 8388608 + r
      tidy r = omega arith

      sum : (j : ℕ) → j ≤ 895 → j + 149 + (925 - j) ≡ 1074 + 0
      sum j h = omega arith

      far : (j : ℕ) → j ≤ 895 → 29 ≤ 925 - j
      far j h = omega arith

  -- less than half of the smallest f32
  none : j ≤ 871 → of_bits binary32 (cond s 2147483648 0 + 0) ≡ rounded
  none J =
      ap (λ (z : ℕ). of_bits binary32 (cond s 2147483648 0 + z))
      (sym (closest_none q (2 ^ (925 - j)) (lt_of_lt_of_le (twice q hi) (pow_mono (far j J)))))
      ∙ low (le_trans J (lit≤ tt))
    where
      twice : (q : ℕ) → q < 9007199254740992 → q * 2 < 18014398509481984
      twice q h = omega arith

      far : (j : ℕ) → j ≤ 871 → 54 ≤ 925 - j
      far j h = omega arith

  module _ (lo : 2 ^ 52 ≤ q) where
    normal : 896 ≤ j → j ≤ 1149
        → of_bits binary32 (cond s 2147483648 0 + ((j - 896) * 8388608 + closest q 536870912)) ≡ rounded
    normal J K =
        round_pattern binary32 s (q * 2 ^ j) (2 ^ 1074) (j - 896) q 536870912 (pow_pos 1074) (lit< tt)
        (powers q j 149 29 1074 (j - 896) (sum j J)) hi (inr lo) (most j K)
      where
        sum : (j : ℕ) → 896 ≤ j → j + 149 + 29 ≡ 1074 + (j - 896)
        sum j h = omega arith

        most : (j : ℕ) → j ≤ 1149 → j - 896 ≤ 253
        most j h = omega arith

    over : 1150 ≤ j → inf s ≡ rounded
    over J =
        sym (round_infinite binary32 s (q * 2 ^ j) (2 ^ 1074) (j - 896) q 536870912 (pow_pos 1074) (lit< tt)
        (powers q j 149 29 1074 (j - 896) (sum j J)) hi (inr lo)
        (le_trans (lit≤ tt) (mul-le-mul (closest_ge q 536870912 8388608 (lit< tt) lo) (pow_mono (least j J)))))
      where
        sum : (j : ℕ) → 1150 ≤ j → j + 149 + 29 ≡ 1074 + (j - 896)
        sum j h = omega arith

        least : (j : ℕ) → 1150 ≤ j → 254 ≤ j - 896
        least j h = omega arith

-- ---- The f64 that has e in its exponent's field and t in the one below
-- r is the pattern, without the sign, of the f32 nearest to it. With a field of 0 the f64 is t of the smallest f64;
-- with suc j it is (2^52 + t) · 2^j of them, so that the laws above, over q and j, cover each range of e. All ones are
-- an infinity.
abbrev pub Shown : ℕ → ℕ → ℕ → Bool → Type 0
Shown e t r s = of_bits binary32 (cond s 2147483648 0 + r) ≡ narrow (of_fields binary64 s e t)

at_ones : (s : Bool) → narrow (of_fields binary64 s 2047 0) ≡ inf s
unfolding of_fields narrow
at_ones s = refl

module _ (s : Bool) (t : ℕ) (T52 : t < 2 ^ 52) where
  at_zero : narrow (of_fields binary64 s 0 t) ≡ round binary32 s (t * 2 ^ 0) (2 ^ 1074)
  unfolding of_fields
  at_zero = narrow_of (odd 53 s t 0 1074) s (t * 2 ^ 0) (2 ^ 1074) (pow_pos 1074) (odd_sign 53 s t 0 1074)

  number : (j : ℕ) → j < 2046
      → narrow (of_fields binary64 s (suc j) t) ≡ round binary32 s ((2 ^ 52 + t) * 2 ^ j) (2 ^ 1074)
  unfolding of_fields
  number j h =
      ap (λ (b : Bool). narrow (cond b (cond (eqb t 0) (inf s) nan) (odd 53 s (2 ^ 52 + t) j 1074)))
      (ne_eqb (suc j) 2047 (λ (e : suc j ≡ 2047). omega arith))
      ∙ narrow_of (odd 53 s (2 ^ 52 + t) j 1074) s ((2 ^ 52 + t) * 2 ^ j) (2 ^ 1074) (pow_pos 1074)
      (odd_sign 53 s (2 ^ 52 + t) j 1074)

  lo : 2 ^ 52 ≤ 2 ^ 52 + t
  lo = le-add_right (2 ^ 52) t

  hi : 2 ^ 52 + t < 2 ^ 53
  hi = go t T52
    where
      go : (t : ℕ) → t < 4503599627370496 → 4503599627370496 + t < 9007199254740992
      go t h = omega arith

  -- too large: an infinity, or a number that rounds to one
  pub shown_over : (e : ℕ) → 1151 ≤ e → e ≤ 2047 → (e ≡ 2047 → t ≡ 0) → Shown e t 2139095040 s
  shown_over zero E H n = absurd (omega arith)
  shown_over (suc j) E H n = elim (eq-or-lt_of_le H) [
    | inl p ↦ inf_pattern binary32 s ∙ sym (ap₂ (λ (x y : ℕ). narrow (of_fields binary64 s x y)) p (n p) ∙ at_ones s)
    | inr l ↦ inf_pattern binary32 s ∙ over s (2 ^ 52 + t) j hi lo (omega arith) ∙ sym (number j (omega arith))
  ]

  -- a normal f32: its exponent's field is e - 896, and 29 digits are cut off
  pub shown_normal : (e : ℕ) → 897 ≤ e → e < 1151
      → Shown e t ((e - 897) * 8388608 + closest (4503599627370496 + t) 536870912) s
  shown_normal zero E H = absurd (omega arith)
  shown_normal (suc j) E H =
      ap (λ (z : ℕ). of_bits binary32 (cond s 2147483648 0 + (z * 8388608 + closest (4503599627370496 + t) 536870912)))
      (suc-sub-suc j 896)
      ∙ normal s (2 ^ 52 + t) j hi lo (omega arith) (omega arith)
      ∙ sym (number j (omega arith))

  -- a subnormal f32: a digit more is cut off for each step that e is lower
  pub shown_low : (e : ℕ) → 873 ≤ e → e < 897 → Shown e t (closest (4503599627370496 + t) (2 ^ (926 - e))) s
  shown_low zero E H = absurd (omega arith)
  shown_low (suc j) E H =
      ap (λ (z : ℕ). of_bits binary32 (cond s 2147483648 0 + closest (4503599627370496 + t) (2 ^ z))) (suc-sub-suc
      925 j)
      ∙ low s (2 ^ 52 + t) j hi (omega arith)
      ∙ sym (number j (omega arith))

  -- less than half of the smallest f32: 0
  pub shown_none : (e : ℕ) → e < 873 → Shown e t 0 s
  shown_none zero E = none s t 0 (lt_of_lt_of_le T52 (lit≤ tt)) zero-le ∙ sym at_zero
  shown_none (suc j) E = none s (2 ^ 52 + t) j hi (omega arith) ∙ sym (number j (omega arith))

-- ---- what `magnitude` returns in each arm: at most the infinity's pattern, and the right one under either sign
-- the quotient of the digits by a power of two that leaves 24 of them
quotient_le : (t d : ℕ) → t < 4503599627370496 → 2 ^ 29 ≤ d → closest (4503599627370496 + t) d ≤ 16777216
quotient_le t d h k =
    closest_le (4503599627370496 + t) d 16777216 (lt_of_lt_of_le (pow_pos 29) k)
    (lt_of_lt_of_le (hi false t h) (le_trans (lit≤ tt) (mul-le-mul_left 16777216 k)))

-- b is the f64's pattern without its sign: e in the exponent's field, and t in the one below
module _ (b : ℕ) where
  abbrev e : ℕ
  e = b / 4503599627370496

  abbrev t : ℕ
  t = b % 4503599627370496

  T52 : t < 4503599627370496
  T52 = mod-lt b (lit< tt)

  abbrev Pattern : ℕ → Type 0
  Pattern r = (r ≤ 2139095040) × ((s : Bool) → Shown e t r s)

  pub over_gives : 0x47f0_0000_0000_0000 ≤ b → b ≤ 0x7ff0_0000_0000_0000 → Pattern 2139095040
  over_gives a h = (
    lit≤ tt,
    λ (s : Bool). shown_over s t T52 e (omega arith) (omega arith) (λ (p : e ≡ 2047). omega arith),
  )

  -- exponent and digits rounded as one number: what a step of the exponent adds is an even multiple of the divisor
  as_one : 0x3810_0000_0000_0000 ≤ b
      → closest (b - 0x3800_0000_0000_0000) 536870912
      ≡ (e - 897) * 8388608 + closest (4503599627370496 + t) 536870912
  as_one a =
      let k : b - 0x3800_0000_0000_0000 ≡ (e - 897) * 8388608 * 536870912 + (4503599627370496 + t) = omega arith in
      ap (λ (z : ℕ). closest z 536870912) k
      ∙ closest_more ((e - 897) * 8388608) (4503599627370496 + t) 536870912 (lit< tt) (omega arith)

  pub normal_gives : (r : ℕ) → 0x3810_0000_0000_0000 ≤ b → b < 0x47f0_0000_0000_0000
      → r ≡ closest (b - 0x3800_0000_0000_0000) 536870912 → Pattern r
  normal_gives r a h p =
      let q = p ∙ as_one a in (
        omega (arith, q, quotient_le t 536870912 T52 (lit≤ tt)),
        λ (s : Bool).
            ap (λ (z : ℕ). of_bits binary32 (cond s 2147483648 0 + z)) q
            ∙ shown_normal s t T52 e (omega arith) (omega arith),
      )

  -- `1 << (926 - e)`
  abbrev shift : ℕ
  shift = 1 * 2 ^ (926 - e) % 18446744073709551616

  shifted : 873 ≤ e → shift ≡ 2 ^ (926 - e)
  shifted a =
      let room : 1 + (926 - e) ≤ 64 = omega arith in
      shl_exact 1 (926 - e) 64 (lit< tt) room ∙ one-mul (2 ^ (926 - e))

  pub low_asks : 0x3690_0000_0000_0000 ≤ b
      → (0 < shift) × ((shift ≤ 4611686018427387904) × (4503599627370496 + t < 4611686018427387904))
  low_asks a =
      let few : 926 - e ≤ 53 = omega arith in (
        subst (λ (z : ℕ). 0 < z) (sym (shifted (omega arith))) (pow_pos (926 - e)),
        (
          subst (λ (z : ℕ). z ≤ 4611686018427387904) (sym (shifted (omega arith))) (le_trans (pow_mono few) (lit≤ tt)),
          omega arith,
        ),
      )

  pub low_gives : (r : ℕ) → 0x3690_0000_0000_0000 ≤ b → b < 0x3810_0000_0000_0000
      → r ≡ closest (4503599627370496 + t) shift → Pattern r
  low_gives r a h p =
      let q : r ≡ closest (4503599627370496 + t) (2 ^ (926 - e)) =
      p ∙ ap (closest (4503599627370496 + t)) (shifted (omega arith)) in
      let far : 29 ≤ 926 - e = omega arith in (
        le_trans (le_of_eq q) (le_trans (quotient_le t (2 ^ (926 - e)) T52 (pow_mono far)) (lit≤ tt)),
        λ (s : Bool).
            ap (λ (z : ℕ). of_bits binary32 (cond s 2147483648 0 + z)) q
            ∙ shown_low s t T52 e (omega arith) (omega arith),
      )

  pub none_gives : b < 0x3690_0000_0000_0000 → Pattern 0
  none_gives h = (zero-le, λ (s : Bool). shown_none s t T52 e (omega arith))

-- ---- an f64 that is no NaN, and its pattern
module _ (x : Float) (F : T (fits binary64 x)) (N : ne x x ≡ false) where
  abbrev bits : ℕ
  bits = to_bits binary64 x

  abbrev exponent : ℕ
  exponent = bits % 9223372036854775808 / 4503599627370496

  abbrev digits : ℕ
  digits = bits % 4503599627370496

  of_bits_lem : of_bits binary64 bits ≡ x
  of_bits_lem = of_bits-to_bits binary64 x F

  -- all ones in the exponent's field are an infinity's, with no digits
  no_digits : exponent ≡ 2047 → digits ≡ 0
  unfolding nan_bits
  no_digits e =
      go (eqb digits 0) (eqb→eq digits 0) (sym (ap (λ (z : ℕ). eqb z 2047 && not (eqb digits 0)) e)
      ∙ nan_bits_is binary64 bits ∙ ap is_nan of_bits_lem ∙ is_false (is_nan x) (not_nan x N))
    where
      go : (u : Bool) → (T u → digits ≡ 0) → (true && not u) ≡ false → digits ≡ 0
      go true k z = k tt
      go false k z = absurd (true≢false z)

  pub fields_asked : (exponent ≤ 2047) × ((digits < 4503599627370496) × (exponent ≡ 2047 → digits ≡ 0))
  fields_asked = (
    le_of_suc-le-suc ((div-lt_iff_lt-mul (pow_pos 52)).1 (mod-lt bits (pow_pos 63))),
    (mod-lt bits (pow_pos 52), no_digits),
  )

  pub narrowed : (s : Bool) (m : ℕ) → leb 9223372036854775808 bits ≡ s → ((s : Bool) → Shown exponent digits m s)
      → NarrowPromise x (of_bits binary32 (cond s 2147483648 0 + m))
  unfolding of_bits
  narrowed s m e h =
      record {
        value = h s ∙ ap (λ (t : Bool). narrow (of_fields binary64 t exponent digits)) (sym e)
            ∙ ap narrow of_bits_lem;
      }

pub narrow_nan : (x : Float) → ne x x ≡ true → NarrowPromise x (div binary32 (of_bits binary32 0) (of_bits binary32 0))
unfolding narrow div of_bits
narrow_nan x h = record { value = sym (ap narrow (differs_from_itself x (subst T (sym h) tt))) }

pub no_nan_pattern : (s : Bool) (m : ℕ) → m ≤ 2139095040 → T (not (nan_bits binary32 (cond s 2147483648 0 + m)))
no_nan_pattern s m h =
    subst (λ (b : Bool). T (not b)) (sym (nan_bits_above binary32 (cond s 2147483648 0 + m)))
    (le→nltb 2139095040 ((cond s 2147483648 0 + m) % 2147483648) (go s))
  where
    go : (s : Bool) → (cond s 2147483648 0 + m) % 2147483648 ≤ 2139095040
    go true = omega arith
    go false = omega arith
