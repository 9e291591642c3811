-- What stands in a column of the plot at a row. Assumes nothing.
use Rattle.std.specs.Prelude.{ℕ, ◌+◌, ◌-◌, ◌*◌, ◌/◌, ◌≤◌, ◌≡◌, List}
use Rattle.placing.specs.Place.{density_at, row_of, drive_of}
use Rattle.placing.specs.Reach.{Within}

-- the row of the density at the column's own drive
abbrev pub star_row : List ℕ → ℕ → ℕ
star_row t c = row_of (density_at t (drive_of c))

-- the column after; the last one, 63, stands for its own, as the first does for its c - 1
abbrev pub right_of : ℕ → ℕ
right_of c = c + 1 - c / 63

-- a column is drawn from its first drive to the next column's first, and the last one to 65535
abbrev pub first_of : ℕ → ℕ
first_of c = c * 1024

abbrev pub last_of : ℕ → ℕ
last_of c = c * 1024 + 1024 - c / 63

-- in column c the curve is at one drive not below the row, and at one not above it
pub record Passed (t : List ℕ) (c row : ℕ) : Type 0 where
  pub peak : ℕ
  pub peak_in : Within (first_of c) (last_of c) peak
  pub not_below : row_of (density_at t peak) ≤ row
  pub valley : ℕ
  pub valley_in : Within (first_of c) (last_of c) valley
  pub not_above : row ≤ row_of (density_at t valley)

-- column c has its star in the row, or in another
abbrev pub Star : List ℕ → ℕ → ℕ → Type 0
Star t c row = row ≡ star_row t c

abbrev pub Other : List ℕ → ℕ → ℕ → Type 0
Other t c row = Star t c row → ⊥

-- the mark in column c at a row, the codes of `*`, `:` and a blank: a star in its row; a colon in any other row that
-- the curve passes, unless a star stands beside it
pub data Marked (t : List ℕ) (c row : ℕ) : ℕ → Type 0 where
  star : Star t c row → Marked t c row 42
  left : Other t c row → Star t (c - 1) row → Marked t c row 32
  right : Other t c row → Star t (right_of c) row → Marked t c row 32
  passed : Other t c row → Other t (c - 1) row → Other t (right_of c) row → Passed t c row → Marked t c row 58
  blank : Other t c row → (Passed t c row → ⊥) → Marked t c row 32
