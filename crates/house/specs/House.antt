-- The house curve: a fixed table of 1,024 numbers, gamma 2.5, each by a rule on whole numbers. Assumes nothing.
use Rattle.std.specs.Prelude.{ℕ, ◌+◌, ◌-◌, ◌*◌, ◌^◌, ◌≤◌, ◌<◌, ◌≡◌, List, length, get_or}

-- 4·65535²·i⁵
abbrev pub fifth : ℕ → ℕ
fifth i = 4 * 65535 ^ 2 * i ^ 5

-- m²·1023⁵
abbrev pub square : ℕ → ℕ
square m = m ^ 2 * 1023 ^ 5

-- entry i is the n with (2n+1)²·1023⁵ > 4·65535²·i⁵, and for n > 0 also (2n-1)²·1023⁵ ≤ 4·65535²·i⁵
pub record IsEntry (i n : ℕ) : Type 0 where
  pub above : fifth i < square (2 * n + 1)
  pub below : 0 < n → square (2 * n - 1) ≤ fifth i

-- the whole table
pub record IsHouse (t : List ℕ) : Type 0 where
  pub size : length t ≡ 1024
  pub rule : (i : ℕ) → i < 1024 → IsEntry i (get_or t i 0)
