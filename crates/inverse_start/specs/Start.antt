-- The steps of document 01's inverse, `lut_inverse_interp16`, before its search, in the document's letters: a table of
-- n entries, a value v. Assumes nothing.
use Rattle.std.specs.Prelude.{ℕ, ◌-◌, ◌*◌, ◌/◌, Bool, true, List, reverse, length, ℤ, pos, negsuc, ◌+ℤ◌, ◌-ℤ◌}
use Rattle.std.specs.Prelude.{◌*ℤ◌, ltb, eqb}
use Rattle.std.specs.Int.Signed.{quot_z}
use Rattle.table.specs.Choice.{pick, both}
use Rattle.table.specs.Runs.{run}

-- z counts leading 0 entries
unfoldable pub leading_zeros : List ℕ → ℕ
leading_zeros t = run 0 t

-- w counts trailing 65535 entries
unfoldable pub trailing_tops : List ℕ → ℕ
trailing_tops t = run 65535 (reverse t)

-- value 0 with z = 0 answers 0; if z > 1 or w > 1, value 0 answers 0
unfoldable pub zero_at_once : ℕ → ℕ → ℕ → Bool
zero_at_once v z w = both (eqb v 0) (pick (eqb z 0) true (pick (ltb 1 z) true (ltb 1 w)))

-- start l = 1; if z > 1: l = floor((z-1)·65535/(n-1)) - 1. There n > 1, and the quotient is at least 1
unfoldable pub first_left : ℕ → ℕ → ℕ
first_left n z = pick (ltb 1 z) ((z - 1) * 65535 / (n - 1) - 1) 1

-- a whole number, or 0 for what is below 0
abbrev pub not_below0 : ℤ → ℕ
not_below0 (pos k) = k
not_below0 (negsuc k) = 0

-- start r = 65536; if w > 1: r = (n-1-w)·65535/(n-1) cut toward zero, plus 1. Where every entry is 65535 that can lie
-- below 0: it is then not above l, and neither is 0
unfoldable pub first_right : ℕ → ℕ → ℕ
first_right n w =
    pick (ltb 1 w) (not_below0 (quot_z ((pos n -ℤ pos 1 -ℤ pos w) *ℤ pos 65535) (pos n -ℤ pos 1) +ℤ pos 1)) 65536

-- l and r as a table starts them
abbrev pub left_of : List ℕ → ℕ
left_of t = first_left (length t) (leading_zeros t)

abbrev pub right_of : List ℕ → ℕ
right_of t = first_right (length t) (trailing_tops t)
