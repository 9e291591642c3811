-- What the calls promise of a table that is drawn and of one that is refused, with any title. They promise lengths and
-- no bytes: what is drawn where is in `Plot` and in crate placing, and what is a title in `Title`. Assumes nothing.
use Rattle.std.specs.Prelude.{ℕ, ◌≤◌, ◌<◌, ◌≡◌, List, length}
use Rattle.table.specs.Sizes.{sized}
use Rattle.table.specs.Choice.{pick}
use Rattle.picture.specs.Svg.{pieces_of}

-- How many of n parts a table's picture has: none where the table is refused.
abbrev pub count_of : List ℕ → ℕ → ℕ
count_of t n = pick (sized (length t)) n 0

-- It is not more than n, and a table that has a part at all is not too long.
pub record Drawn (t : List ℕ) (n r : ℕ) : Type 0 where
  pub count : r ≡ count_of t n
  pub most : r ≤ n
  pub small : 0 < r → length t ≤ 65536

-- Part k of a picture that has `count` parts: its length is at most `most`, and 0 exactly where there is no such part.
pub record Part (most count k r : ℕ) : Type 0 where
  pub room : r ≤ most
  pub some : k < count → 1 ≤ r
  pub beyond : count ≤ k → r ≡ 0

-- A line of the plot, and a piece of the svg file.
abbrev pub LinePromise : List ℕ → ℕ → ℕ → Type 0
LinePromise t = Part 128 (count_of t 22)

abbrev pub PiecePromise : List ℕ → ℕ → ℕ → Type 0
PiecePromise t = Part 512 (count_of t (pieces_of (length t)))
