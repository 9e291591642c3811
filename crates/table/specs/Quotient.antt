-- The quotient rounded up, which the lookup and the least input share. Assumes nothing.
use Rattle.std.specs.Prelude.{ℕ, ◌+◌, ◌/◌, ◌%◌, ltb}
use Rattle.table.specs.Choice.{pick}

-- one more than the quotient where something is left over, else the quotient
abbrev pub div_ceil : ℕ → ℕ → ℕ
div_ceil value cap = pick (ltb 0 (value % cap)) (value / cap + 1) (value / cap)
