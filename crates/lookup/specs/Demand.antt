-- Demand 3's part on the 16-bit lookup: laws that any code keeping the lookup's promise obeys, on every nondecreasing
-- table of 1 to 65,536 entries. Assumes nothing.
use Rattle.std.specs.Prelude.{ℕ, ◌≤◌, ◌≡◌, true, List, length, get_or, Result}
use Rattle.table.specs.Sizes.{sized}
use Rattle.table.specs.Order.{Nondecreasing, last_entry}
use Rattle.table.specs.Answers.{number_of_answer, value_of_looked}
use Rattle.table.specs.declared.Drive.{Drive}
use Rattle.table.specs.declared.Density.{Density}
use Rattle.table.specs.declared.Refusal.{Refusal}
use Rattle.lookup.specs.Lookup.{lower, upper, steps}
use Rattle.lookup.specs.Promises.{LookupPromise}

-- a lookup in t: a 16-bit position, and any answer that keeps the promise there
pub record LookupIn (t : List ℕ) : Type 0 where
  pub position : Drive
  pub answer : Result Density Refusal
  pub bits : position.0 ≤ 65535
  pub kept : LookupPromise t position answer

module _ {t : List ℕ} (l : LookupIn t) where
  abbrev pub position_of : ℕ
  position_of = l.position.0

  abbrev pub sample_of : ℕ
  sample_of = value_of_looked l.answer

-- one at position p
pub record LookupAt (t : List ℕ) (p : ℕ) : Type 0 where
  pub lookup : LookupIn t
  pub there : position_of lookup ≡ p

pub record LookupObeys (t : List ℕ) : Type 0 where
  -- there is one at every position, and none is refused
  pub everywhere : (p : ℕ) → p ≤ 65535 → LookupAt t p
  pub granted : (l : LookupIn t) → number_of_answer l.answer ≡ 0
  -- it never falls as the position rises
  pub never_falls : (l m : LookupIn t) → position_of l ≤ position_of m → sample_of l ≤ sample_of m
  -- it lies between its bracketing entries
  pub not_below : (l : LookupIn t) → get_or t (lower 65535 (steps (length t) (position_of l))) 0 ≤ sample_of l
  pub not_above : (l : LookupIn t) → sample_of l ≤ get_or t (upper 65535 (steps (length t) (position_of l))) 0
  -- and it is exact at both ends
  pub first : (l : LookupIn t) → position_of l ≡ 0 → sample_of l ≡ get_or t 0 0
  pub last : (l : LookupIn t) → position_of l ≡ 65535 → sample_of l ≡ last_entry t

-- What demand 3 asks of the lookup in every nondecreasing table of 1 to 65,536 entries: it is granted everywhere, never
-- falls, lies between its bracketing entries, and is exact at both ends. [lookup::lut_interp_linear16]
abbrev pub LookupDemand : Type 0
LookupDemand = (t : List ℕ) → sized (length t) ≡ true → Nondecreasing t → LookupObeys t
