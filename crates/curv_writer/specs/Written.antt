-- What is written for a table: the curv tag of its entries, byte by byte. Assumes nothing.
use Rattle.std.specs.Prelude.{ℕ, List, ◌++◌, length}
use Rattle.icc.specs.Bytes.{bytes16, bytes32}
use Rattle.icc.specs.Words.{in_turn}
use Rattle.icc.specs.Opening.{opening}
use Rattle.curv.specs.Tag.{signature}

-- the first twelve bytes: the signature, four zero bytes, and the count n
unfoldable pub head : ℕ → List ℕ
head n = opening signature ++ bytes32 n

-- and the two bytes of each entry
abbrev pub bytes_of : List ℕ → List ℕ
bytes_of t = in_turn bytes16 t

abbrev pub tag_of : List ℕ → List ℕ
tag_of t = head (length t) ++ bytes_of t
