-- What the verdict promises: when it is refused, the yes or no, and the violations beside it. Assumes nothing.
use Rattle.std.specs.Prelude.{ℕ, ◌≡◌, true, false, List, length, Result, Ok, Err}
use Rattle.table.specs.Sizes.{not_above}
use Rattle.table.specs.Refusals.{Verdict, granted, rung, number_in, if_granted}
use Rattle.table.specs.Answers.{number_of_answer}
use Rattle.table.specs.declared.Refusal.TheVariants.{TableLength}
use Rattle.table.specs.declared.Refusal.{Refusal}
use Rattle.monotonic.specs.Steps.{yes_no, violations, monotonic}
use Rattle.monotonic.specs.declared.Direction.{Direction}
use Rattle.monotonic.specs.declared.Monotonic.{Monotonic}

-- Document 01's number and values for each case: a granted one has number 0, and a refused one has 0 in every other
-- place.
abbrev pub yes_of_monotonic : Result Monotonic Refusal → ℕ
yes_of_monotonic (Ok (Monotonic.Yes v)) = yes_no true
yes_of_monotonic (Ok (Monotonic.No v)) = yes_no false
yes_of_monotonic (Err why) = 0

abbrev pub violations_of_monotonic : Result Monotonic Refusal → ℕ
violations_of_monotonic (Ok (Monotonic.Yes v)) = v
violations_of_monotonic (Ok (Monotonic.No v)) = v
violations_of_monotonic (Err why) = 0

-- refused for the table's length, 1, and only above 65,536
abbrev pub monotonic_verdict : List ℕ → Verdict
monotonic_verdict t = rung (not_above (length t)) TableLength granted

pub record MonotonicPromise (t : List ℕ) (d : Direction) (r : Result Monotonic Refusal) : Type 0 where
  pub number : number_of_answer r ≡ number_in (monotonic_verdict t)
  pub yes : yes_of_monotonic r ≡ if_granted (monotonic_verdict t) (yes_no (monotonic d t)) 0
  pub count : violations_of_monotonic r ≡ if_granted (monotonic_verdict t) (violations d t) 0
