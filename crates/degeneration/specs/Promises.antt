-- What the verdict promises: when it is refused, and the yes or no. Assumes nothing.
use Rattle.std.specs.Prelude.{ℕ, ◌≡◌, List, length, Bool, true, false, Result, Ok, Err}
use Rattle.table.specs.Choice.{pick}
use Rattle.table.specs.Sizes.{not_above}
use Rattle.table.specs.Refusals.{Verdict, granted, rung, number_in, if_granted}
use Rattle.table.specs.Answers.{number_of_answer}
use Rattle.table.specs.declared.Refusal.TheVariants.{TableLength}
use Rattle.table.specs.declared.Refusal.{Refusal}
use Rattle.degeneration.specs.Runs.{degenerated}

-- Document 01's number for each case, 0 where it is granted, and what stands in the place for yes or no: refused, that
-- is 0 too.
abbrev pub yes_of_degenerated : Result Bool Refusal → ℕ
yes_of_degenerated (Ok true) = 1
yes_of_degenerated (Ok false) = 0
yes_of_degenerated (Err why) = 0

-- refused for the table's length, 1, and only above 65,536
abbrev pub degenerated_verdict : List ℕ → Verdict
degenerated_verdict t = rung (not_above (length t)) TableLength granted

pub record DegeneratedPromise (t : List ℕ) (r : Result Bool Refusal) : Type 0 where
  pub number : number_of_answer r ≡ number_in (degenerated_verdict t)
  pub yes : yes_of_degenerated r ≡ if_granted (degenerated_verdict t) (pick (degenerated t) 1 0) 0
