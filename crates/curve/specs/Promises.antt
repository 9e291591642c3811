-- What each call on a table promises: when it is refused and by which number, and the table that it leaves. Assumes
-- nothing.
use Rattle.std.specs.Prelude.{ℕ, ◌≡◌, List, length, Result}
use Rattle.table.specs.Sizes.{sized, spanned}
use Rattle.table.specs.Order.{nondecreasing}
use Rattle.table.specs.Refusals.{Verdict, granted, rung, number_in, if_granted}
use Rattle.table.specs.Answers.{number_of_answer}
use Rattle.table.specs.declared.Refusal.TheVariants.{TableLength, NotNondecreasing}
use Rattle.table.specs.declared.Refusal.{Refusal}
use Rattle.curve.specs.Ramp.{ramp_of}

-- What a sitting keeps from one call to the next. Promises speak of s before the call and s' after it.
pub record Sitting : Type 0 where
  pub table : List ℕ

abbrev pub sitting_on : List ℕ → Sitting
sitting_on t = record { table = t }

-- Start, of as many entries as the lent table has: refused for fewer than 2 or more than 65,536, 1. Granted, the table
-- is the straight curve; refused, it is as it was.
abbrev pub start_verdict : Sitting → Verdict
start_verdict s = rung (spanned (length s.table)) TableLength granted

pub record StartPromise (s : Sitting) (r : Result (Unit {0}) Refusal) (s' : Sitting) : Type 0 where
  pub number : number_of_answer r ≡ number_in (start_verdict s)
  pub table : s'.table ≡ if_granted (start_verdict s) (ramp_of (length s.table)) s.table

-- Accept: refused for the table's length, 1; for a table that is not nondecreasing, 2. The table is as it was either
-- way.
abbrev pub accept_verdict : Sitting → Verdict
accept_verdict s =
    rung (sized (length s.table)) TableLength (rung (nondecreasing s.table) NotNondecreasing granted)

pub record AcceptPromise (s : Sitting) (r : Result (Unit {0}) Refusal) (s' : Sitting) : Type 0 where
  pub number : number_of_answer r ≡ number_in (accept_verdict s)
  pub table : s'.table ≡ s.table
