-- What the call of this crate promises: when it is refused and by which number, and its value. Assumes nothing.
use Rattle.std.specs.Prelude.{ℕ, ◌≡◌, List, length, leb, Result}
use Rattle.table.specs.Sizes.{sized}
use Rattle.table.specs.Order.{nondecreasing, last_entry}
use Rattle.table.specs.Refusals.{Verdict, granted, rung, number_in, if_granted}
use Rattle.table.specs.Answers.{number_of_answer, value_of_sought}
use Rattle.table.specs.declared.Density.{Density}
use Rattle.table.specs.declared.Refusal.TheVariants.{TableLength, NotNondecreasing, AboveLast}
use Rattle.table.specs.declared.Drive.{Drive}
use Rattle.table.specs.declared.Refusal.{Refusal}
use Rattle.lookup.specs.Lookup.{looked_up}
use Rattle.least.specs.Least.{least_of}

-- The least input of v: refused for the table's length, 1; for a table that is not nondecreasing, 2; for a v above the
-- last entry, 5. It is the smallest position whose lookup is at least v.
abbrev pub least_verdict : List ℕ → ℕ → Verdict
least_verdict t v =
    rung (sized (length t)) TableLength
    (rung (nondecreasing t) NotNondecreasing
    (rung (leb v (last_entry t)) AboveLast
    granted))

pub record LeastPromise (t : List ℕ) (v : Density) (r : Result Drive Refusal) : Type 0 where
  pub number : number_of_answer r ≡ number_in (least_verdict t v.0)
  pub value : value_of_sought r ≡ if_granted (least_verdict t v.0) (least_of (looked_up t) v.0) 0
