-- The integer gamma lookup of document 01: the sum of the two weighted entries over cap = N - 1, in units of D. Assumes
-- nothing.
use Rattle.std.specs.Prelude.{ℕ, ◌+◌, ◌-◌, ◌*◌, ◌/◌, ◌^◌, List, length}
use Rattle.lookup.specs.Lookup.{weighted, steps, entries_of}

-- D = floor(cap·65535/(2^depth - 1)), cap = N - 1
unfoldable pub gamma_unit : ℕ → ℕ → ℕ
gamma_unit N depth = (N - 1) * 65535 / (2 ^ depth - 1)

-- the gamma lookup at input x: floor((S + floor(D/2))/D), S over cap = N - 1 and not divided by it
unfoldable pub gamma : ℕ → ℕ → (ℕ → ℕ) → ℕ → ℕ → ℕ
gamma N depth T n x = (weighted (N - 1) T (steps n x) + gamma_unit N depth / 2) / gamma_unit N depth

-- the gamma lookup in a table
abbrev pub gamma_up : List ℕ → ℕ → ℕ → ℕ → ℕ
gamma_up t N depth x = gamma N depth (entries_of t) (length t) x
