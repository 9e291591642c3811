-- What the call of this crate promises: when it is refused and by which number, and what the lent buffer holds after
-- it. Assumes nothing.
use Rattle.std.specs.Prelude.{◌≡◌, List, length, Float, Result}
use Rattle.table.specs.Sizes.{spanned}
use Rattle.table.specs.Refusals.{Verdict, granted, rung, number_in, if_granted}
use Rattle.table.specs.Answers.{number_of_answer}
use Rattle.table.specs.declared.Refusal.TheVariants.{OutsideRange}
use Rattle.table.specs.declared.Refusal.{Refusal}
use Rattle.passthrough.specs.Passed.{passed_through}

-- `passthrough_table_impl`: refused for a length outside 2 to 65,536, 12.
abbrev pub passthrough_verdict : List Float → Verdict
passthrough_verdict output = rung (spanned (length output)) OutsideRange granted

pub record PassthroughPromise (output : List Float) (r : Result (Unit {0}) Refusal) (output' : List Float)
    : Type 0 where
  pub number : number_of_answer r ≡ number_in (passthrough_verdict output)
  pub after : output' ≡ if_granted (passthrough_verdict output) (passed_through (length output)) output
