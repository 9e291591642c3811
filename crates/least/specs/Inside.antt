-- The preconditions of the inner functions of this crate and of `least_row`. Assumes nothing.
use Rattle.std.specs.Prelude.{ℕ, ◌+◌, ◌≤◌, ◌<◌, ◌≡◌, List, length, get_or}
use Rattle.table.specs.Order.{Passed}

-- a table that has passed the tests, and its last index
pub record Searchable (t : List ℕ) (top : ℕ) : Type 0 where
  pub passed : Passed t
  pub last : length t ≡ top + 1

-- entry i is the first that is not below v
pub record FirstReaching (t : List ℕ) (v i : ℕ) : Type 0 where
  pub inside : i < length t
  pub before : (j : ℕ) → j < i → get_or t j 0 < v
  pub here : v ≤ get_or t i 0

-- entry c is below v, and the next is not
pub record Cell (t : List ℕ) (v c : ℕ) : Type 0 where
  pub inside : c + 1 < length t
  pub below : get_or t c 0 < v
  pub reached : v ≤ get_or t (c + 1) 0
