-- The row and the baked form, entry by entry, are single lookups, and a baked table answers as the table does. Assumes
-- nothing.
use mathlib.Core.Path.{◌≡◌, ◌∙◌}
use mathlib.Core.List.{List}
use Prim.Native.Nat.{ℕ, ◌≤◌, ◌<◌}
use native.Mathlib.Omega.{arith}
use lib.ListN.{length, get_or}
use Rattle.table.proofs.Fill.{length_tabulated, get_or_tabulated}
use Rattle.lookup.specs.Lookup.{looked_up}
use Rattle.lookup.proofs.LookupLaws.{looked_up_full}
use Rattle.rows.specs.Rows.{row_at, row_of, baked_of}

-- Entry i of the row is the lookup at entry i of the positions. [rows::lut_interp_linear16_row]
pub row_entry : (t positions : List ℕ) (i : ℕ) → i < length positions
    → get_or (row_of t positions) i 0 ≡ looked_up t (get_or positions i 0)
row_entry t positions i h = get_or_tabulated (row_at t positions) (length positions) i 0 h

-- Entry p of the baked table is the lookup at p. [rows::bake]
pub baked_entry : (t : List ℕ) (p : ℕ) → p < 65536 → get_or (baked_of t) p 0 ≡ looked_up t p
baked_entry t p h = get_or_tabulated (looked_up t) 65536 p 0 h

-- Looking up in the baked table is looking up in the table. [rows::bake]
pub baked_same : (t : List ℕ) (p : ℕ) → p ≤ 65535 → looked_up (baked_of t) p ≡ looked_up t p
baked_same t p h =
    looked_up_full (baked_of t) (length_tabulated (looked_up t) 65536) p ∙ baked_entry t p (omega arith)
