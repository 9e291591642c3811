-- The gamma curve of document 02, 65535·(x/65535)^(p/65536), on whole numbers. Assumes nothing.
use Rattle.std.specs.Prelude.{ℕ, ◌+◌, ◌*◌, ◌/◌, List, ltb}
use Rattle.table.specs.Choice.{pick}
use Rattle.table.specs.Fill.{tabulated}
use Rattle.power.specs.Power.{power}
use Rattle.curve.specs.Ramp.{ramp}

-- what is added before the last division, by 65536: an exponent below 1 rounds up, one of 1 or more to the nearest
unfoldable pub added : ℕ → ℕ
added p = pick (ltb p 65536) 65535 32768

-- the value at x: the power of x·65536, where 65535·65536 stands for 1, in 65536ths of a unit, and then in units
unfoldable pub value_at : ℕ → ℕ → ℕ
value_at p x = (power 4294901760 (x * 65536) p + added p) / 65536

-- entry i of a table of n entries: the value at entry i of the straight curve of n entries
abbrev pub entry_at : ℕ → ℕ → ℕ → ℕ
entry_at p n i = value_at p (ramp n i)

-- all n of them
abbrev pub table_of : ℕ → ℕ → List ℕ
table_of p n = tabulated (entry_at p n) n

-- what an entry k of a gamma tag means: p = 256k
abbrev pub exponent_of : ℕ → ℕ
exponent_of k = 256 * k
