-- What the inverse promises: when it is refused and by which number, and its value. Assumes nothing.
use Rattle.std.specs.Prelude.{ℕ, ◌≡◌, List, length, Result}
use Rattle.table.specs.Sizes.{sized}
use Rattle.table.specs.Refusals.{Verdict, granted, rung, number_in, if_granted}
use Rattle.table.specs.Answers.{number_of_answer, value_of_sought}
use Rattle.table.specs.declared.Density.{Density}
use Rattle.table.specs.declared.Refusal.TheVariants.{TableLength}
use Rattle.table.specs.declared.Drive.{Drive}
use Rattle.table.specs.declared.Refusal.{Refusal}
use Rattle.inverse.specs.Inverse.{inverted}

-- The inverse of one value: refused for the table's length, 1.
abbrev pub inverse_verdict : List ℕ → Verdict
inverse_verdict t = rung (sized (length t)) TableLength granted

pub record InversePromise (t : List ℕ) (v : Density) (r : Result Drive Refusal) : Type 0 where
  pub number : number_of_answer r ≡ number_in (inverse_verdict t)
  pub value : value_of_sought r ≡ if_granted (inverse_verdict t) (inverted t v.0) 0
