-- A path of 4,096 bytes, as C takes it. Assumes nothing.
use Rattle.std.specs.Prelude.{◌≡◌, ℕ, List, slice_index_or}

-- its last byte is 0, so that it ends within them
abbrev pub Ended : List ℕ → Type 0
Ended path = slice_index_or path 4095 1 ≡ 0
