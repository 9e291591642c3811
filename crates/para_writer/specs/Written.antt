-- What is written for a function type and seven numbers: the para tag of those that the type has, byte by byte. Assumes
-- nothing.
use Rattle.std.specs.Prelude.{ℕ, suc, ◌-◌, List, ◌++◌, map, take, ℤ, pos, negsuc}
use Rattle.icc.specs.Bytes.{bytes16, bytes32}
use Rattle.icc.specs.Words.{in_turn}
use Rattle.icc.specs.Opening.{opening}
use Rattle.para.specs.declared.Numbers.{Numbers}
use Rattle.para.specs.Tag.{signature, count_of, listed}

-- The 32 bits of a number in two's complement: below 0 it is more by 2^32 (`negsuc n` is -(n + 1)).
unfoldable pub pattern_of : ℤ → ℕ
pattern_of (pos n) = n
pattern_of (negsuc n) = 0x1_0000_0000 - suc n

-- The first twelve bytes, and four for each number that the type has. The others are ignored.
unfoldable pub head : ℕ → List ℕ
head t = opening signature ++ (bytes16 t ++ bytes16 0)

abbrev pub patterns : Numbers → List ℕ
patterns m = map pattern_of (listed m)

abbrev pub tag_of : ℕ → Numbers → List ℕ
tag_of t m = head t ++ in_turn bytes32 (take (count_of t) (patterns m))
