-- The curv tag of ICC.1, byte by byte: 63 75 72 76, four zero bytes, a 32-bit count n, n 16-bit entries. Assumes
-- nothing.
use Rattle.std.specs.Prelude.{ℕ, ◌+◌, ◌*◌, Bool, List, eqb}
use Rattle.table.specs.Fill.{tabulated}
use Rattle.icc.specs.Bytes.{be16, be32}

-- the signature, "curv"
abbrev pub signature : ℕ
signature = 0x6375_7276

-- What a tag holds: its count, at byte 8; entry i, the two bytes at 12 + 2i; and its entries, as many as the count
-- says.
abbrev pub count_of : List ℕ → ℕ
count_of b = be32 b 8

unfoldable pub entry_at : List ℕ → ℕ → ℕ
entry_at b i = be16 b (12 + 2 * i)

abbrev pub entries_of : List ℕ → List ℕ
entries_of b = tabulated (entry_at b) (count_of b)

-- 12 + 2n, where the last of n entries ends
abbrev pub tag_length : ℕ → ℕ
tag_length n = 12 + 2 * n

-- which totals a tag of n entries may have: exactly that
unfoldable pub total : ℕ → ℕ → Bool
total n len = eqb len (tag_length n)
