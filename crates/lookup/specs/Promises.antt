-- What the call of this crate promises: when it is refused and by which number, and its value. Assumes nothing.
use Rattle.std.specs.Prelude.{ℕ, ◌≡◌, List, length, Result}
use Rattle.table.specs.Sizes.{sized}
use Rattle.table.specs.Refusals.{Verdict, granted, rung, number_in, if_granted}
use Rattle.table.specs.Answers.{number_of_answer, value_of_looked}
use Rattle.table.specs.declared.Drive.{Drive}
use Rattle.table.specs.declared.Refusal.TheVariants.{TableLength}
use Rattle.table.specs.declared.Density.{Density}
use Rattle.table.specs.declared.Refusal.{Refusal}
use Rattle.lookup.specs.Lookup.{looked_up}

-- The 16-bit lookup: refused for the table's length, 1.
abbrev pub lookup_verdict : List ℕ → Verdict
lookup_verdict t = rung (sized (length t)) TableLength granted

pub record LookupPromise (t : List ℕ) (p : Drive) (r : Result Density Refusal) : Type 0 where
  pub number : number_of_answer r ≡ number_in (lookup_verdict t)
  pub value : value_of_looked r ≡ if_granted (lookup_verdict t) (looked_up t p.0) 0
