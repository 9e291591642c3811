-- Signed 32-bit numbers in two's complement. Assumes nothing.
use Rattle.std.specs.Prelude.{ℕ, ltb, ℤ, pos, ◌-ℤ◌}
use Rattle.table.specs.Choice.{pick}

-- the number that a pattern of 32 bits stands for: from 2^31 on it is less by 2^32
unfoldable pub signed_of : ℕ → ℤ
signed_of x = pick (ltb x 0x8000_0000) (pos x) (pos x -ℤ pos 0x1_0000_0000)
