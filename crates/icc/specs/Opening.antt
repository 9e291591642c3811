-- How a tag of ICC.1 begins: four bytes of signature, then four reserved bytes, which are zero. Assumes nothing.
use Rattle.std.specs.Prelude.{ℕ, List, ◌++◌}
use Rattle.icc.specs.Bytes.{be32, bytes32}

-- The number that bytes 0 to 3 make, the signature, and the one that bytes 4 to 7 make, which is 0 where all four are.
abbrev pub signature_of : List ℕ → ℕ
signature_of b = be32 b 0

abbrev pub reserved_of : List ℕ → ℕ
reserved_of b = be32 b 4

-- the first eight bytes of a tag with the signature s
abbrev pub opening : ℕ → List ℕ
opening s = bytes32 s ++ bytes32 0
