-- Worked examples: a row with a value equal to the last entry and one above it, and its refusals. Assumes nothing.
use mathlib.Core.Path.{refl, sym, ap}
use mathlib.Core.List.{[], ◌∷◌}
use Prim.Native.Nat.{ℕ}
use Rattle.std.specs.Prelude.{Ok, Err}
use Rattle.table.specs.Sizes.{within}
use Rattle.table.specs.Fill.{tabulated}
use Rattle.table.specs.declared.Refusal.TheVariants.{NotNondecreasing, OutputLength}
use Rattle.least.proofs.Worked.{short, short_20}
use Rattle.least_row.specs.Promises.{LeastRowPromise}

row : LeastRowPromise short (20 ∷ 21 ∷ []) (7 ∷ 7 ∷ []) (Ok tt) (65535 ∷ 65536 ∷ [])
unfolding short within tabulated
row = record { number = refl; after = ap (λ (p : ℕ). p ∷ 65536 ∷ []) (sym short_20) }

-- of a falling table an output of the wrong length comes first
row_short_output : LeastRowPromise (20 ∷ 10 ∷ []) (5 ∷ 6 ∷ []) (7 ∷ []) (Err OutputLength) (7 ∷ [])
unfolding within
row_short_output = record { number = refl; after = refl }

row_falling : LeastRowPromise (20 ∷ 10 ∷ []) (5 ∷ []) (7 ∷ []) (Err NotNondecreasing) (7 ∷ [])
unfolding within
row_falling = record { number = refl; after = refl }
