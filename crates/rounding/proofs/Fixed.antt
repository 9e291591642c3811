-- A fixed-point number over its power of two is exactly an f64, so the f32 is rounded once. Stated once for any power.
-- Assumes nothing.
use mathlib.Core.Path.{◌≡◌, refl, sym, ap, ap₂, ◌∙◌, subst}
use mathlib.Core.Bool.{Bool, true, false}
use Prim.Native.Nat.{ℕ, suc, ◌+◌, ◌-◌, ◌*◌, ◌^◌, ◌≤◌, ◌<◌}
use native.Mathlib.Nat.{le_trans, le_of_lt, lt_of_lt_of_le, lt_of_le_of_lt, one-mul, mul-one, mul_assoc}
use native.Mathlib.Omega.{arith}
use lib.IntN.{ℤ, pos, negsuc}
use lib.Signed.{mag}
use lib.Dec.{lit<, lit≤}
use lib.Pow.{shl_lt, pow_mono, pow_pos, pow-add}
use lib.Ieee.{Float, fin, binary32, binary64, round, div, of_int, of_bits}
use lib.Ieee.Back.{round_whole}
use lib.Ieee.Exact.{HasValue, round_exact}
use Rattle.ieee.proofs.Operations.{div_of, sign_kept}
use Rattle.rounding.specs.Nearest.{narrow, ratio, NarrowPromise, U8Fixed8Promise, S15Fixed16Promise}
use Rattle.rounding.proofs.Narrow.{narrow_of}

module _ (k : ℕ) (K : k ≤ 16) where
  exact : (s : Bool) (n : ℕ) → n < 2 ^ 32 → HasValue (round binary64 s (n * 1) (2 ^ k * 1)) s (n * 1) (2 ^ k * 1)
  exact s n h =
      let P : 0 < 2 ^ k * 1 = subst (λ (z : ℕ). 0 < z) (sym (mul-one (2 ^ k))) (pow_pos k) in
      let room : 32 + (1074 - k) ≤ 2098 = omega arith in
      let split : 1074 - k + k ≡ 1074 = omega arith in
      round_exact binary64 s (n * 1) (2 ^ k * 1) n (1074 - k) P (lt_of_lt_of_le h (lit≤ tt))
      (lt_of_lt_of_le (shl_lt 32 (1074 - k) h) (pow_mono room))
      (ap (λ (z : ℕ). z * 2 ^ 1074) (mul-one n)
      ∙ ap (λ (z : ℕ). n * z) (ap (λ (z : ℕ). 2 ^ z) (sym split) ∙ pow-add 2 (1074 - k) k)
      ∙ sym (mul_assoc n (2 ^ (1074 - k)) (2 ^ k))
      ∙ ap (λ (z : ℕ). n * 2 ^ (1074 - k) * z) (sym (mul-one (2 ^ k))))

  over : (s : Bool) (n : ℕ) → n < 2 ^ 32
      → narrow (div binary64 (round binary64 s n 1) (fin false 1 (pos k))) ≡ round binary32 s n (2 ^ k)
  over s n h =
      ap narrow
      (div_of binary64 (round binary64 s n 1) (fin false 1 (pos k)) s false n 1 (2 ^ k) 1 (lit< tt) (lit< tt)
      (pow_pos k) (round_whole binary64 s n (le_trans (le_of_lt h) (lit≤ tt)))
      (refl, ap (λ (z : ℕ). z * 1) (one-mul (2 ^ k)))
      ∙ ap (λ (t : Bool). round binary64 t (n * 1) (2 ^ k * 1)) (sign_kept s))
      ∙ narrow_of (round binary64 s (n * 1) (2 ^ k * 1)) s
      (n * 1) (2 ^ k * 1) (subst (λ (z : ℕ). 0 < z) (sym (mul-one (2 ^ k))) (pow_pos k)) (exact s n h)
      ∙ ap₂ (λ (a c : ℕ). round binary32 s a c) (mul-one n) (mul-one (2 ^ k))

  fixed : (z : ℤ) → mag z < 2 ^ 31 → narrow (div binary64 (of_int binary64 z) (fin false 1 (pos k))) ≡ ratio z (2 ^ k)
  unfolding of_int ratio
  fixed (pos n) h = over false n (lt_of_lt_of_le h (lit≤ tt))
  fixed (negsuc n) h = over true (suc n) (lt_of_le_of_lt h (lit< tt))

-- the divisors, by their patterns
by_256 : of_bits binary64 0x4070_0000_0000_0000 ≡ fin false 1 (pos 8)
unfolding of_bits
by_256 = refl

by_65536 : of_bits binary64 0x40f0_0000_0000_0000 ≡ fin false 1 (pos 16)
unfolding of_bits
by_65536 = refl

pub u8_gives : (x : ℕ) (r : Float) → x < 2 ^ 16
    → NarrowPromise (div binary64 (of_int binary64 (pos x)) (of_bits binary64 0x4070_0000_0000_0000)) r
    → U8Fixed8Promise x r
unfolding ratio
u8_gives x r h p =
    let e : r ≡ ratio (pos x) 256 =
    p.value ∙ ap (λ (y : Float). narrow (div binary64 (of_int binary64 (pos x)) y)) by_256
    ∙ fixed 8 (lit≤ tt) (pos x) (lt_of_lt_of_le h (lit≤ tt)) in
    record {
      value = e;
      exact =
          subst (λ (y : Float). HasValue y false x 256) (sym e)
          (round_exact binary32 false x 256 x 141 (lit< tt) (lt_of_lt_of_le h (lit≤ tt))
          (lt_of_lt_of_le (shl_lt 16 141 h) (lit≤ tt)) (sym (mul_assoc x (2 ^ 141) 256)));
    }

pub s15_gives : (z : ℤ) (r : Float) → mag z < 2 ^ 31
    → NarrowPromise (div binary64 (of_int binary64 z) (of_bits binary64 0x40f0_0000_0000_0000)) r
    → S15Fixed16Promise z r
s15_gives z r h p =
    record {
      value = p.value ∙ ap (λ (y : Float). narrow (div binary64 (of_int binary64 z) y)) by_65536
          ∙ fixed 16 (lit≤ tt) z h;
    }
