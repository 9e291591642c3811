-- The first eight bytes of a tag, from the numbers that they make, and those numbers from the bytes. Assumes nothing.
use mathlib.Core.Path.{◌≡◌, ◌∙◌, refl, sym, ap}
use mathlib.Core.List.{List, [], ◌++◌, append_assoc}
use Prim.Native.Nat.{ℕ, ◌≤◌}
use native.Mathlib.Omega.{arith}
use lib.ListN.{length, get_or, take, drop, length-append}
use lib.Seq.{take-add}
use Rattle.icc.specs.Bytes.{EightBits, be32, bytes32}
use Rattle.icc.specs.Opening.{signature_of, reserved_of, opening}
use Rattle.icc.proofs.Numbers.{length_bytes32, be32_bytes, bytes_be32}

-- The reserved bytes make 0 exactly if each of them is 0.
module _ (b : List ℕ) where
  -- Where the reserved bytes make 0, each of them is 0. [icc]
  pub reserved_each : reserved_of b ≡ 0 → (get_or b 4 0 ≡ 0) × (get_or b 5 0 ≡ 0) × (get_or b 6 0 ≡ 0)
      × (get_or b 7 0 ≡ 0)
  unfolding be32
  reserved_each e = (omega arith, omega arith, omega arith, omega arith)

  -- Where each reserved byte is 0, together they make 0. [icc]
  pub each_reserved : get_or b 4 0 ≡ 0 → get_or b 5 0 ≡ 0 → get_or b 6 0 ≡ 0 → get_or b 7 0 ≡ 0 → reserved_of b ≡ 0
  unfolding be32
  each_reserved p q r s = omega arith

module _ (s : ℕ) where
  pub length_opening : length (opening s) ≡ 8
  length_opening = omega (arith, length-append (bytes32 s) (bytes32 0), length_bytes32 s, length_bytes32 0)

  -- A tag with signature s and reserved bytes of 0 begins with the eight bytes that are written for s. [icc]
  pub opens : (b : List ℕ) → EightBits b → 8 ≤ length b → signature_of b ≡ s → reserved_of b ≡ 0 → take 8 b ≡ opening s
  opens b w h signed zeros =
      take-add 4 4 b
      ∙ ap (λ (l : List ℕ). l ++ take 4 (drop 4 b)) (sym (bytes_be32 b w 0 (omega arith)) ∙ ap bytes32 signed)
      ∙ ap (λ (l : List ℕ). bytes32 s ++ l) (sym (bytes_be32 b w 4 h) ∙ ap bytes32 zeros)

  -- What opens with a signature has that signature. [icc]
  pub opening_signed : (l : List ℕ) → signature_of (opening s ++ l) ≡ s
  opening_signed l = rw append_assoc (be32_bytes [] 0 s (bytes32 0 ++ l) refl)

  -- The reserved bytes of an opening make 0. [icc]
  pub opening_zeros : (l : List ℕ) → reserved_of (opening s ++ l) ≡ 0
  opening_zeros l = rw append_assoc (be32_bytes (bytes32 s) 4 0 l (length_bytes32 s))
