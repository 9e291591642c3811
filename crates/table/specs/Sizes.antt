-- How long a table may be. Assumes nothing.
use Rattle.std.specs.Prelude.{ℕ, Bool, leb}
use Rattle.table.specs.Choice.{both}

-- n is from low to high, both included
unfoldable pub within : ℕ → ℕ → ℕ → Bool
within low high n = both (leb low n) (leb n high)

-- The three sizes that document 01's rows 1 and 12 ask for: 1 to 65,536 entries,
abbrev pub sized : ℕ → Bool
sized n = within 1 65536 n

-- 2 to 65,536, where the first and the last must be two,
abbrev pub spanned : ℕ → Bool
spanned n = within 2 65536 n

-- and at most 65,536, where there may be none.
abbrev pub not_above : ℕ → Bool
not_above n = leb n 65536
