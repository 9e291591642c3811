-- The straight curve that a start gives. Assumes nothing.
use Rattle.std.specs.Prelude.{ℕ, ◌+◌, ◌-◌, ◌*◌, ◌/◌, List}
use Rattle.table.specs.Fill.{tabulated}

-- entry i of n: floor((2·65535·i + n-1)/(2(n-1)))
unfoldable pub ramp : ℕ → ℕ → ℕ
ramp n i = (2 * 65535 * i + (n - 1)) / (2 * (n - 1))

-- all n of them
abbrev pub ramp_of : ℕ → List ℕ
ramp_of n = tabulated (ramp n) n
