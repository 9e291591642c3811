-- The least input of a value, for any lookup f from the positions 0 to 65535 to values. Two curves one after the other
-- are such a lookup too. Assumes nothing.
use Rattle.std.specs.Prelude.{ℕ, zero, suc, ◌≤◌, Bool, leb}
use Rattle.table.specs.Choice.{pick}

-- the first of s, s + 1 and so on at which the test holds, and s + m where it holds at none of these m
unfoldable pub first : (ℕ → Bool) → ℕ → ℕ → ℕ
first test zero s = s
first test (suc m) s = pick (test s) s (first test m (suc s))

-- the smallest position at which f is at least v, and 65536, one past the last, where there is none
unfoldable pub least_of : (ℕ → ℕ) → ℕ → ℕ
least_of f v = first (λ (q : ℕ). leb v (f q)) 65536 0

-- f never falls as the position rises
abbrev pub NeverFalls : (ℕ → ℕ) → Type 0
NeverFalls f = (p q : ℕ) → p ≤ q → q ≤ 65535 → f p ≤ f q
