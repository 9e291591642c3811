-- Worked examples: each refusal and its order, and one whole sitting with a granted and a refused nudge. Assumes
-- nothing.
use mathlib.Core.Path.{◌≡◌, refl}
use mathlib.Core.List.{List, [], ◌∷◌}
use Prim.Native.Nat.{ℕ, zero, suc}
use lib.ListN.{length}
use lib.Dec.{lit<}
use Rattle.std.specs.Prelude.{Ok, Err}
use Rattle.table.specs.Sizes.{within}
use Rattle.table.specs.Order.{not_below_left, not_above_right}
use Rattle.table.specs.Fill.{tabulated}
use Rattle.table.specs.Turns.{Throughout}
use Rattle.table.specs.declared.Density.{Density}
use Rattle.table.specs.declared.Refusal.TheVariants.{TableLength, NotNondecreasing, IndexBeyond, OutsideNeighbours}
use Rattle.curve.specs.Ramp.{ramp}
use Rattle.curve.specs.Promises.{Sitting, sitting_on}
use Rattle.nudge.specs.Promises.{NudgePromise}
use Rattle.nudge.specs.Calls.{Turn, start, nudge, WholeSitting}
use Rattle.nudge.specs.Demand.{InOrder}
use Rattle.nudge.proofs.Sitting.{sitting_demand, Bits, run_keeps_bits}

density : ℕ → Density
density n = record { 0 = n }

straight : Sitting
straight = sitting_on (0 ∷ 32768 ∷ 65535 ∷ [])

bent : Sitting
bent = sitting_on (0 ∷ 100 ∷ 65535 ∷ [])

falling : Sitting
falling = sitting_on (9 ∷ 5 ∷ [])

nudge_empty : NudgePromise (sitting_on []) 0 (density 7) (Err TableLength) (sitting_on [])
unfolding within density
nudge_empty = record { number = refl; table = refl }

nudge_of_65537 : (t : List ℕ) → length t ≡ 65537 → (i : ℕ) (v : Density)
    → NudgePromise (sitting_on t) i v (Err TableLength) (sitting_on t)
unfolding within
nudge_of_65537 t e i v = record { number = simp e; table = simp e }

-- of a falling table an index beyond it comes first
nudge_beyond : NudgePromise falling 2 (density 7) (Err IndexBeyond) falling
unfolding within falling density
nudge_beyond = record { number = refl; table = refl }

nudge_falling : NudgePromise falling 1 (density 9) (Err NotNondecreasing) falling
unfolding within falling density
nudge_falling = record { number = refl; table = refl }

nudge_below_left : NudgePromise bent 2 (density 99) (Err OutsideNeighbours) bent
unfolding within not_below_left not_above_right bent density
nudge_below_left = record { number = refl; table = refl }

nudge_above_right : NudgePromise bent 0 (density 101) (Err OutsideNeighbours) bent
unfolding within not_below_left not_above_right bent density
nudge_above_right = record { number = refl; table = refl }

nudge_granted : NudgePromise straight 1 (density 100) (Ok tt) bent
unfolding within not_below_left not_above_right straight bent density
nudge_granted = record { number = refl; table = refl }

-- A start of three entries on a lent buffer of sevens, the middle one nudged to 100, and the first to 101, which is
-- refused.
lent : Sitting
lent = sitting_on (7 ∷ 7 ∷ 7 ∷ [])

opening : Turn
opening = record { call = start; answer = (Ok tt); after = straight }

nudges : List Turn
nudges =
    record { call = nudge 1 (density 100); answer = (Ok tt); after = bent }
    ∷ record { call = nudge 0 (density 101); answer = Err OutsideNeighbours; after = bent }
    ∷ []

whole : WholeSitting lent opening nudges
unfolding within ramp tabulated lent straight opening nudges density
whole = record {
  opened = refl;
  granted = refl;
  run = (record { number = refl; table = refl }, (nudge_granted, (nudge_above_right, tt)));
}

whole_in_order : Throughout (InOrder lent) opening.after nudges
whole_in_order = sitting_demand lent opening nudges whole

-- its entries are 16 bits wide from the first to the last
lent_bits : Bits lent
unfolding lent
lent_bits zero = lit< tt
lent_bits (suc zero) = lit< tt
lent_bits (suc (suc zero)) = lit< tt
lent_bits (suc (suc (suc i))) = lit< tt

whole_bits : Throughout Bits lent (opening ∷ nudges)
unfolding opening nudges density
whole_bits = run_keeps_bits (opening ∷ nudges) lent lent_bits (tt, (lit< tt, (lit< tt, tt))) whole.run
