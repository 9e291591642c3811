-- The 16-bit lookup of document 01, and what the gamma lookup shares with it. A position or an input lies v steps into
-- the table (document 01's V), with cap steps from each entry to the next: cap is 65535 for the 16-bit lookup and N - 1
-- for the gamma lookup. The entries are given as a function T of the index and their number n, so that a table is only
-- one source of them. Assumes nothing.
use Rattle.std.specs.Prelude.{ℕ, ◌+◌, ◌-◌, ◌*◌, ◌/◌, ◌%◌, List, length, get_or}
use Rattle.table.specs.Quotient.{div_ceil}

-- lower = floor(v/cap)
abbrev pub lower : ℕ → ℕ → ℕ
lower cap v = v / cap

-- k = v mod cap
abbrev pub rest : ℕ → ℕ → ℕ
rest cap v = v % cap

-- upper = lower + 1 if k > 0, else lower: the quotient rounded up
abbrev pub upper : ℕ → ℕ → ℕ
upper cap v = div_ceil v cap

-- S = T[upper]·k + T[lower]·(cap - k), the sum of the two weighted entries
unfoldable pub weighted : ℕ → (ℕ → ℕ) → ℕ → ℕ
weighted cap T v = T (upper cap v) * rest cap v + T (lower cap v) * (cap - rest cap v)

-- v = p(n-1)
abbrev pub steps : ℕ → ℕ → ℕ
steps n p = p * (n - 1)

-- the 16-bit lookup at position p: floor(S/65535)
unfoldable pub lookup16 : (ℕ → ℕ) → ℕ → ℕ → ℕ
lookup16 T n p = weighted 65535 T (steps n p) / 65535

-- a table as a source of entries
abbrev pub entries_of : List ℕ → ℕ → ℕ
entries_of t i = get_or t i 0

-- the 16-bit lookup in a table
abbrev pub looked_up : List ℕ → ℕ → ℕ
looked_up t p = lookup16 (entries_of t) (length t) p
