-- A run of equal entries at the start of a table; at its end it is the run of the table reversed. Assumes nothing.
use Rattle.std.specs.Prelude.{ℕ, suc, List, [], ◌∷◌, eqb}
use Rattle.table.specs.Choice.{pick}

-- how many entries in a row, from the first on, equal y
unfoldable pub run : ℕ → List ℕ → ℕ
run y [] = 0
run y (x ∷ l) = pick (eqb x y) (suc (run y l)) 0
