-- A number's bytes make the number, and a number made of bytes has those bytes. Assumes nothing.
use mathlib.Core.Path.{◌≡◌, ◌∙◌, refl, sym, ap}
use mathlib.Core.List.{List, ◌++◌}
use Prim.Native.Nat.{ℕ, suc, ◌+◌, ◌*◌, ◌/◌, ◌%◌, ◌≤◌, ◌<◌}
use native.Mathlib.Nat.{add-zero, add_assoc}
use native.Mathlib.Numerals.{add-one}
use native.Mathlib.Omega.{arith}
use lib.ListN.{length, get_or, take, drop}
use lib.Seq.{get_or-append-add, drop-cons, drop-drop, take-add}
use Rattle.std.specs.Int.{w16, w32, to_be_bytes}
use Rattle.icc.specs.Bytes.{EightBits, be16, be32, bytes16, bytes32}

pub length_bytes16 : (x : ℕ) → length (bytes16 x) ≡ 2
unfolding bytes16
length_bytes16 x = refl

pub length_bytes32 : (x : ℕ) → length (bytes32 x) ≡ 4
unfolding bytes32
length_bytes32 x = refl

-- std's bytes of a number are the definition's
pub be_bytes16 : (x : ℕ) → x < 65536 → to_be_bytes w16 x ≡ bytes16 x
unfolding bytes16
be_bytes16 x h =
    let high : x / 256 % 256 ≡ x / 256 = omega arith in
    rw high refl

pub be_bytes32 : (x : ℕ) → x < 0x1_0000_0000 → to_be_bytes w32 x ≡ bytes32 x
unfolding bytes32
be_bytes32 x h =
    let high : x / 16777216 % 256 ≡ x / 16777216 = omega arith in
    rw high refl

-- The number whose bytes stand after p is read there.
module _ (p : List ℕ) (i x : ℕ) (q : List ℕ) (e : length p ≡ i) where
  first : (l : List ℕ) → get_or (p ++ l) i 0 ≡ get_or l 0 0
  first l = rw add-zero at (rw e at (get_or-append-add p l 0 0))

  later : (l : List ℕ) (k : ℕ) → get_or (p ++ l) (i + k) 0 ≡ get_or l k 0
  later l k = rw e at (get_or-append-add p l k 0)

  -- A 16-bit number is read as it was written, wherever it stands. [icc]
  pub be16_bytes : be16 (p ++ (bytes16 x ++ q)) i ≡ x
  unfolding be16 bytes16
  be16_bytes = let l = bytes16 x ++ q in omega (arith, first l, later l 1)

  -- A 32-bit number is read as it was written, wherever it stands. [icc]
  pub be32_bytes : be32 (p ++ (bytes32 x ++ q)) i ≡ x
  unfolding be32 bytes32
  be32_bytes = let l = bytes32 x ++ q in omega (arith, first l, later l 1, later l 2, later l 3)

-- four bytes are twice two
pub be32_halves : (b : List ℕ) (i : ℕ) → be32 b i ≡ be16 b i * 65536 + be16 b (i + 2)
unfolding be16 be32
be32_halves b i = omega (arith, ap (λ (k : ℕ). get_or b k 0) (add_assoc i 2 1))

pub bytes32_halves : (x : ℕ) → bytes32 x ≡ bytes16 (x / 65536) ++ bytes16 (x % 65536)
unfolding bytes16 bytes32
bytes32_halves x =
    let a : x / 16777216 ≡ x / 65536 / 256 = omega arith in
    let b : x / 256 % 256 ≡ x % 65536 / 256 = omega arith in
    let c : x % 256 ≡ x % 65536 % 256 = omega arith in
    cc

-- The number that is read at byte i has the bytes that stand there.
module _ (b : List ℕ) (w : EightBits b) where
  pub below16 : (i : ℕ) → be16 b i < 65536
  unfolding be16
  below16 i = omega (arith, w i, w (i + 1))

  -- Two bytes are what is written for the 16-bit number that is read there. [icc]
  pub bytes_be16 : (i : ℕ) → i + 2 ≤ length b → bytes16 (be16 b i) ≡ take 2 (drop i b)
  unfolding be16 bytes16
  bytes_be16 i h =
      let high : be16 b i / 256 ≡ get_or b i 0 = omega (arith, w i, w (i + 1)) in
      let low : be16 b i % 256 ≡ get_or b (i + 1) 0 = omega (arith, w i, w (i + 1)) in
      rw (high, low, drop-cons b i 0 (omega arith), add-one i, drop-cons b (suc i) 0 (omega arith)) refl

  -- Four bytes are what is written for the 32-bit number that is read there. [icc]
  pub bytes_be32 : (i : ℕ) → i + 4 ≤ length b → bytes32 (be32 b i) ≡ take 4 (drop i b)
  bytes_be32 i h =
      let high : be32 b i / 65536 ≡ be16 b i = omega (arith, be32_halves b i, below16 (i + 2)) in
      let low : be32 b i % 65536 ≡ be16 b (i + 2) = omega (arith, be32_halves b i, below16 (i + 2)) in
      rw (bytes32_halves (be32 b i), high, low, bytes_be16 i (omega arith), bytes_be16 (i + 2) (omega arith))
      (ap (λ (l : List ℕ). take 2 (drop i b) ++ take 2 l) (sym (drop-drop 2 i b)) ∙ sym (take-add 2 2 (drop i b)))
