-- What a nudge promises: when it is refused and by which number, and the table after it. Assumes nothing.
use Rattle.std.specs.Prelude.{ℕ, ◌≡◌, length, set, ltb, Result}
use Rattle.table.specs.Sizes.{sized}
use Rattle.table.specs.Order.{nondecreasing, suits}
use Rattle.table.specs.Refusals.{Verdict, granted, rung, number_in, if_granted}
use Rattle.table.specs.Answers.{number_of_answer}
use Rattle.table.specs.declared.Density.{Density}
use Rattle.table.specs.declared.Refusal.TheVariants.{TableLength, NotNondecreasing, IndexBeyond, OutsideNeighbours}
use Rattle.table.specs.declared.Refusal.{Refusal}
use Rattle.curve.specs.Promises.{Sitting}

-- Nudge of entry i to v: refused for the table's length, 1; for an index beyond the table, 3; for a table that is not
-- nondecreasing, 2; for a v below the left or above the right neighbour, 4. It sets that entry and changes no other.
abbrev pub nudge_verdict : Sitting → ℕ → ℕ → Verdict
nudge_verdict s i v =
    rung (sized (length s.table)) TableLength
    (rung (ltb i (length s.table)) IndexBeyond
    (rung (nondecreasing s.table) NotNondecreasing
    (rung (suits s.table i v) OutsideNeighbours
    granted)))

pub record NudgePromise (s : Sitting) (i : ℕ) (v : Density) (r : Result (Unit {0}) Refusal)
    (s' : Sitting) : Type 0 where
  pub number : number_of_answer r ≡ number_in (nudge_verdict s i v.0)
  pub table : s'.table ≡ if_granted (nudge_verdict s i v.0) (set s.table i v.0) s.table
