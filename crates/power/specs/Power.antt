-- A power on whole numbers, U·(β/U)^(p/65536), each step of it rounded down. U, which is below 2^32, stands for 1, and
-- β, which is at most U, for β/U. Assumes nothing.
use Rattle.std.specs.Prelude.{ℕ, zero, suc, ◌*◌, ◌/◌, ◌%◌, eqb}
use Rattle.table.specs.Choice.{pick}
use Rattle.power.specs.Root.{root}

-- what is multiplied under the root: β where the last binary digit of r is 1, else U
unfoldable pub factor : ℕ → ℕ → ℕ → ℕ
factor U β r = pick (eqb (r % 2) 1) β U

-- r whole steps, each times β/U
unfoldable pub whole_steps : ℕ → ℕ → ℕ → ℕ → ℕ
whole_steps U β zero a = a
whole_steps U β (suc r) a = whole_steps U β r (a * β / U)

-- k square roots, one for each of the last k binary digits of r, the last digit first; then as many whole steps as the
-- digits that are left say
unfoldable pub root_steps : ℕ → ℕ → ℕ → ℕ → ℕ → ℕ
root_steps U β zero r a = whole_steps U β r a
root_steps U β (suc k) r a = root_steps U β k (r / 2) (root (a * factor U β r))

-- sixteen square roots for p mod 65536, then floor(p/65536) whole steps
unfoldable pub power : ℕ → ℕ → ℕ → ℕ
power U β p = root_steps U β 16 p U
