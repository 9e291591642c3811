-- What this crate's inner functions count, and what they ask. Assumes nothing.
use Rattle.std.specs.Prelude.{◌≡◌, List, ℕ, ◌≤◌, ◌<◌}
use Rattle.lookup.specs.Lookup.{looked_up}
use Rattle.inverse_start.specs.Start.{leading_zeros, trailing_tops}
use Rattle.inverse.specs.declared.inside.Ends.{Ends}

-- the runs at a table's ends
pub record EndsOf (t : List ℕ) (ends : Ends) : Type 0 where
  pub zeros : ends.z ≡ leading_zeros t
  pub tops : ends.w ≡ trailing_tops t

-- What keeps every x that the search probes from 1 to 65535, so that x-1 is a position. l can start at 0; then r starts
-- at 2 or more, and positions 0 and 1 do not look up above the value, so that r stays at 2 or more until l has risen.
pub record Ready (t : List ℕ) (v l r : ℕ) : Type 0 where
  pub high : r ≤ 65536
  pub apart : l ≡ 0 → 2 ≤ r
  pub under : l ≡ 0 → (p : ℕ) → p < 2 → looked_up t p ≤ v
