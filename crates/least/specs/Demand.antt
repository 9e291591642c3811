-- Demand 3, whole: what holds of the table throughout a sitting, and of the lookup and the least input on every
-- nondecreasing table of 1 to 65,536 entries. Each part is stated of any answers that keep the promises, so it holds of
-- any code that keeps them. Assumes nothing.
use Rattle.std.specs.Prelude.{ℕ, ◌≤◌, ◌<◌, ◌≡◌, ◌↔◌, true, List, length, Result, Ok, Err}
use Rattle.table.specs.Sizes.{sized}
use Rattle.table.specs.Order.{Nondecreasing, last_entry}
use Rattle.table.specs.declared.Density.{Density}
use Rattle.table.specs.declared.Drive.{Drive}
use Rattle.table.specs.declared.Refusal.{Refusal}
use Rattle.table.specs.declared.Refusal.TheVariants.{AboveLast}
use Rattle.lookup.specs.Demand.{LookupIn, position_of, sample_of, LookupDemand}
use Rattle.nudge.specs.Demand.{SittingDemand}
use Rattle.least.specs.Promises.{LeastPromise}

-- a question for a least input in t: a value, and any answer that keeps the promise
pub record LeastIn (t : List ℕ) : Type 0 where
  pub value : Density
  pub answer : Result Drive Refusal
  pub kept : LeastPromise t value answer

-- one for v
pub record LeastOf (t : List ℕ) (v : Density) : Type 0 where
  pub question : LeastIn t
  pub for : question.value ≡ v

-- the answer is a position from which on, and only from which on, the lookup in t is at least v
pub record LeastIs (t : List ℕ) (v : ℕ) (answer : Result Drive Refusal) : Type 0 where
  pub position : Drive
  pub found : answer ≡ Ok position
  pub bits : position.0 ≤ 65535
  pub exact : (l : LookupIn t) → (v ≤ sample_of l) ↔ (position.0 ≤ position_of l)

pub record LeastObeys (t : List ℕ) : Type 0 where
  -- there is one for every value;
  pub everywhere : (v : Density) → LeastOf t v
  -- it is refused only if the value is above the last entry,
  pub refused : (m : LeastIn t) (why : Refusal) → m.answer ≡ Err why → last_entry t < m.value.0
  -- and then with 5;
  pub above : (m : LeastIn t) → last_entry t < m.value.0 → m.answer ≡ Err AboveLast
  -- otherwise it is the least input
  pub least : (m : LeastIn t) → m.value.0 ≤ last_entry t → LeastIs t m.value.0 m.answer

abbrev pub LeastDemand : Type 0
LeastDemand = (t : List ℕ) → sized (length t) ≡ true → Nondecreasing t → LeastObeys t

pub record Demand3 : Type 0 where
  pub sitting : SittingDemand
  pub lookup : LookupDemand
  pub least : LeastDemand
