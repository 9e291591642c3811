-- Demand 3, whole. It rests on what the lookup and the nudging layer promise, and on their laws; of the lookup nothing
-- else is known here. Assumes nothing.
use mathlib.Core.Path.{◌≡◌, refl}
use mathlib.Core.Logic.{⊎_elim, ◌↔◌}
use mathlib.Core.Bool.{true}
use mathlib.Core.List.{List}
use Prim.Native.Nat.{ℕ, ◌≤◌, ◌<◌}
use native.Mathlib.Omega.{arith}
use lib.ListN.{length}
use Rattle.std.specs.Prelude.{Ok, Err}
use Rattle.table.specs.Sizes.{sized}
use Rattle.table.specs.Order.{Nondecreasing, Passed, last_entry}
use Rattle.table.specs.Turns.{Throughout}
use Rattle.table.specs.declared.Refusal.{Refusal}
use Rattle.table.proofs.Choice.{below?}
use Rattle.table.proofs.Order.{fact_test}
use Rattle.lookup.specs.Lookup.{looked_up}
use Rattle.lookup.specs.Demand.{LookupIn, position_of, sample_of, LookupObeys}
use Rattle.lookup.proofs.LookupLaws.{sample_is, lookup_demand}
use Rattle.curve.specs.Promises.{Sitting}
use Rattle.nudge.specs.Calls.{Turn, WholeSitting}
use Rattle.nudge.proofs.Sitting.{sitting_demand, throughout_map}
use Rattle.least.specs.Least.{least_of}
use Rattle.least.specs.Demand.{LeastIn, LeastObeys, LeastDemand, Demand3}
use Rattle.least.proofs.LeastLaws.{least_exact}
use Rattle.least.proofs.Tables.{table_rises, table_inside}
use Rattle.least.proofs.Promises.{least_some, least_found, least_above}

module _ (t : List ℕ) (size : sized (length t) ≡ true) (order : Nondecreasing t) where
  passed : Passed t
  passed = record { size = size; order = fact_test t order }

  only_above : (m : LeastIn t) (why : Refusal) → m.answer ≡ Err why → last_entry t < m.value.0
  only_above m why e = ⊎_elim (λ l. l) reached (below? (last_entry t) m.value.0)
    where
      reached : m.value.0 ≤ last_entry t → last_entry t < m.value.0
      reached h =
          let f : m.answer ≡ Ok (record { 0 = least_of (looked_up t) m.value.0 }) =
          least_found passed h m.kept in
          let z : ◌≡◌ {A = ℕ} 0 1 = cc in
          absurd (omega arith)

  exact : (v : ℕ) (l : LookupIn t) → (v ≤ sample_of l) ↔ (least_of (looked_up t) v ≤ position_of l)
  exact v l =
      let e = least_exact (looked_up t) v (table_rises passed) (position_of l) l.bits in
      let s = sample_is size l in
      ((λ r. e.0 (omega arith)), (λ r. omega (arith, e.1 r)))

  obeys : LeastObeys t
  obeys = record {
    everywhere = λ v. record { question = record { value = v; answer = _; kept = least_some t v }; for = refl };
    refused = only_above;
    above = λ m h. least_above passed h m.kept;
    least =
        λ m h.
        record {
          position = record { 0 = least_of (looked_up t) m.value.0 };
          found = least_found passed h m.kept;
          bits = table_inside passed m.value.0 h;
          exact = exact m.value.0;
        };
  }

-- It is refused with 5 exactly if v is above the last entry, and otherwise the lookup at q is at least v exactly when q
-- is at least the answer. [least::least_input]
pub least_demand : LeastDemand
least_demand = obeys

-- Demand 3 holds, whole: the sitting's part, the lookup's and the least input's. [least]
pub demand_3 : Demand3
demand_3 = record { sitting = sitting_demand; lookup = lookup_demand; least = least_demand }

-- So both obey on the table that any sitting holds.
pub record CurveObeys (s : Sitting) : Type 0 where
  pub lookup : LookupObeys s.table
  pub least : LeastObeys s.table

-- Throughout a sitting the lookup and the least input obey their laws on its table. [least, nudge]
pub sitting_obeys : {lent : Sitting} {opening : Turn} {turns : List Turn} → WholeSitting lent opening turns
    → Throughout CurveObeys opening.after turns
sitting_obeys {lent} {opening} {turns} w =
    throughout_map
    (λ s i.
    record {
      lookup = demand_3.lookup s.table i.size i.order;
      least = demand_3.least s.table i.size i.order;
    })
    turns opening.after (demand_3.sitting lent opening turns w)
