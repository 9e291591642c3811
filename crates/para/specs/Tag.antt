-- The para tag of ICC.1, byte by byte: 70 61 72 61 (hexadecimal), four zero bytes, a 16-bit function type t, two zero
-- bytes, then 1, 3, 4, 5 or 7 signed 16.16 numbers for t = 0 to 4. Assumes nothing.
use Rattle.std.specs.Prelude.{ℕ, ◌+◌, ◌*◌, ◌<◌, List, [], ◌∷◌, get_or, ltb, ℤ, pos}
use Rattle.std.specs.Int.Signed.{mag}
use Rattle.table.specs.Choice.{pick}
use Rattle.icc.specs.Bytes.{be16, be32}
use Rattle.para.specs.declared.Numbers.{Numbers}
use Rattle.para.specs.Signed.{signed_of}

-- the signature, "para"
abbrev pub signature : ℕ
signature = 0x7061_7261

-- the function type, at byte 8
abbrev pub type_of : List ℕ → ℕ
type_of b = be16 b 8

-- the number that bytes 10 and 11 make, the reserved ones after it, which is 0 where both are
abbrev pub reserved_after : List ℕ → ℕ
reserved_after b = be16 b 10

-- how many numbers a function type has
unfoldable pub count_of : ℕ → ℕ
count_of t = get_or (1 ∷ 3 ∷ 4 ∷ 5 ∷ 7 ∷ []) t 0

-- 12 plus four bytes for each of n numbers
abbrev pub tag_length : ℕ → ℕ
tag_length n = 12 + 4 * n

-- Seven numbers, from the number at each place and as a list.
abbrev pub seven : (ℕ → ℤ) → Numbers
seven at = record { g = at 0; a = at 1; b = at 2; c = at 3; d = at 4; e = at 5; f = at 6 }

abbrev pub listed : Numbers → List ℤ
listed m = m.g ∷ m.a ∷ m.b ∷ m.c ∷ m.d ∷ m.e ∷ m.f ∷ []

abbrev pub placed : Numbers → ℕ → ℤ
placed m k = get_or (listed m) k (pos 0)

-- every one is 32 bits wide
abbrev pub SignedBits : Numbers → Type 0
SignedBits m = (k : ℕ) → mag (placed m k) < 0x8000_0000

-- of the numbers at each place the first n, the others being 0
abbrev pub used_at : ℕ → (ℕ → ℤ) → ℕ → ℤ
used_at n at k = pick (ltb k n) (at k) (pos 0)

abbrev pub used : ℕ → (ℕ → ℤ) → Numbers
used n at = seven (used_at n at)

-- What a tag holds: raw number k, the four bytes at 12 + 4k; and as many as its type has.
unfoldable pub raw_at : List ℕ → ℕ → ℤ
raw_at b k = signed_of (be32 b (12 + 4 * k))

unfoldable pub numbers_of : List ℕ → Numbers
numbers_of b = used (count_of (type_of b)) (raw_at b)
