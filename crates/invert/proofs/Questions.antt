-- The questions of a whole table inverted: i·s is at most 65535.25 though s is rounded, so floor(i·s + 0.5) is a 16-bit
-- value. Assumes nothing.
use mathlib.Core.Path.{◌≡◌, ◌∙◌, refl, sym, ap, ap₂, subst}
use mathlib.Core.Bool.{false}
use Prim.Native.Nat.{ℕ, ◌+◌, ◌-◌, ◌*◌, ◌^◌, ◌≤◌, ◌<◌}
use native.Mathlib.Omega.{arith}
use lib.Dec.{T, lit<, lit≤}
use lib.Ieee.{Float, binary64, add, mul, div, of_bits}
use lib.Ieee.Exact.{round_exact}
use Rattle.ieee.specs.Range.{float, half, upto}
use Rattle.ieee.proofs.Operations.{mul_swap}
use Rattle.ieee.proofs.Range.{Upto, Held, mul_upto, whole_of, div_close}
use Rattle.rounding.specs.Cut.{floor, FloorPromise}
use Rattle.rounding.proofs.Cut.{half_upto, half_floor}
use Rattle.invert.specs.Invert.{scale_of, asked}
use Rattle.inverse_tail.proofs.Clamp.{top_bits, half_bits}

-- 65535.25
quarter_over : Held binary64 262141 4
quarter_over = round_exact binary64 false 262141 4 262141 1072 (lit< tt) (lit< tt) (lit< tt) refl

module _ (m i : ℕ) (two : 2 ≤ m) (most : m ≤ 65536) (inside : i < m) where
  product_upto : Upto 262141 4 (mul binary64 (float i) (scale_of m))
  unfolding scale_of
  product_upto =
      let pos : 0 < m - 1 = omega arith in
      let few : m - 1 ≤ 65536 = omega arith in
      let i' : i ≤ 65536 = omega arith in
      subst (Upto 262141 4) (mul_swap binary64 (div binary64 (float 65535) (float (m - 1))) (float i))
      (mul_upto binary64 (div binary64 (float 65535) (float (m - 1))) (float i)
      (65535 * (2 ^ 53 + 1)) ((m - 1) * 2 ^ 53) i 1 262141 4 (omega arith) (lit< tt) (lit< tt)
      (div_close binary64 65535 (m - 1) (lit< tt) pos (lit≤ tt) few) (whole_of binary64 i i') quarter_over
      (omega arith))

  -- the question as the program works it out
  abbrev pub question : Float
  question =
      add binary64 (mul binary64 (float i) (div binary64 (of_bits binary64 0x40ef_ffe0_0000_0000) (float (m - 1))))
      (of_bits binary64 0x3fe0_0000_0000_0000)

  question_is : question ≡ add binary64 (mul binary64 (float i) (scale_of m)) half
  unfolding scale_of
  question_is =
      ap₂ (λ (c d : Float). add binary64 (mul binary64 (float i) (div binary64 c (float (m - 1)))) d) top_bits half_bits

  pub question_asks : T (upto 65536 question)
  question_asks =
      subst (λ (z : Float). T (upto 65536 z)) (sym question_is)
      (half_upto (mul binary64 (float i) (scale_of m)) product_upto)

  module _ {r : ℕ} (p : FloorPromise question r) where
    pub question_small : r ≤ 65535
    question_small =
        subst (λ (z : ℕ). z ≤ 65535) (ap floor (sym question_is) ∙ sym p.value)
        (half_floor (mul binary64 (float i) (scale_of m)) product_upto)

    pub question_asked : r ≡ asked m i
    unfolding asked
    question_asked = p.value ∙ ap floor question_is
