-- A tag's entries are 16 bits wide. Assumes nothing.
use mathlib.Core.Logic.{⊎_elim}
use mathlib.Core.List.{List}
use Prim.Native.Nat.{ℕ, ◌+◌, ◌*◌, ◌≤◌, ◌<◌}
use native.Mathlib.Omega.{arith}
use lib.ListN.{length, get_or, get_or-eq_default}
use Rattle.table.specs.Fill.{tabulated}
use Rattle.table.specs.Order.{SixteenBits}
use Rattle.table.proofs.Choice.{below?}
use Rattle.table.proofs.Fill.{length_tabulated, get_or_tabulated}
use Rattle.icc.specs.Bytes.{EightBits}
use Rattle.icc.proofs.Numbers.{below16}
use Rattle.curv.specs.Tag.{entry_at}

-- The entries of a tag are 16 bits wide. [curv_reader::read_curv]
pub entries_wide : (b : List ℕ) → EightBits b → (n : ℕ) → SixteenBits (tabulated (entry_at b) n)
unfolding entry_at
entries_wide b w n i = ⊎_elim inside outside (below? i n)
  where
    inside : i < n → get_or (tabulated (entry_at b) n) i 0 < 65536
    inside h = rw (get_or_tabulated (entry_at b) n i 0 h) (below16 b w (12 + 2 * i))

    outside : n ≤ i → get_or (tabulated (entry_at b) n) i 0 < 65536
    outside h =
        let beyond : length (tabulated (entry_at b) n) ≤ i = omega (arith, length_tabulated (entry_at b) n) in
        rw (get_or-eq_default (tabulated (entry_at b) n) 0 beyond) (omega arith)
