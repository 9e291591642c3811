-- Bytes, and the numbers that ICC.1 makes of them: big-endian, the most significant byte first. Assumes nothing.
use Rattle.std.specs.Prelude.{ℕ, ◌+◌, ◌*◌, ◌/◌, ◌%◌, ◌<◌, List, [], ◌∷◌, get_or}

-- every byte is 8 bits wide
abbrev pub EightBits : List ℕ → Type 0
EightBits b = (i : ℕ) → get_or b i 0 < 256

-- the 16-bit number at byte i
unfoldable pub be16 : List ℕ → ℕ → ℕ
be16 b i = get_or b i 0 * 256 + get_or b (i + 1) 0

-- the 32-bit number at byte i
unfoldable pub be32 : List ℕ → ℕ → ℕ
be32 b i = get_or b i 0 * 16777216 + get_or b (i + 1) 0 * 65536 + get_or b (i + 2) 0 * 256 + get_or b (i + 3) 0

-- the two bytes of a 16-bit number
unfoldable pub bytes16 : ℕ → List ℕ
bytes16 x = x / 256 ∷ x % 256 ∷ []

-- the four bytes of a 32-bit number
unfoldable pub bytes32 : ℕ → List ℕ
bytes32 x = x / 16777216 ∷ x / 65536 % 256 ∷ x / 256 % 256 ∷ x % 256 ∷ []
