-- What the call of this crate promises: when it is refused and by which number, and what the lent buffer holds after
-- it. Assumes nothing.
use Rattle.std.specs.Prelude.{ℕ, ◌≡◌, List, length, get_or, eqb, Result}
use Rattle.table.specs.Sizes.{sized}
use Rattle.table.specs.Order.{nondecreasing}
use Rattle.table.specs.Fill.{tabulated}
use Rattle.table.specs.Refusals.{Verdict, granted, rung, number_in, if_granted}
use Rattle.table.specs.Answers.{number_of_answer}
use Rattle.table.specs.declared.Refusal.TheVariants.{TableLength, NotNondecreasing, OutputLength}
use Rattle.table.specs.declared.Refusal.{Refusal}
use Rattle.lookup.specs.Lookup.{looked_up}
use Rattle.least.specs.Least.{least_of}
use Rattle.least.specs.Promises.{least_verdict}

-- What a row holds for v: the single call's position where that is granted, else 65536, one past the last.
abbrev pub row_position : List ℕ → ℕ → ℕ
row_position t v = if_granted (least_verdict t v) (least_of (looked_up t) v) 65536

abbrev pub least_row_at : List ℕ → List ℕ → ℕ → ℕ
least_row_at t values i = row_position t (get_or values i 0)

abbrev pub least_row_of : List ℕ → List ℕ → List ℕ
least_row_of t values = tabulated (least_row_at t values) (length values)

-- The least inputs of a row of values: refused for the table's length, 1; for an output that is not exactly as long as
-- the values, 6; for a table that is not nondecreasing, 2.
abbrev pub least_row_verdict : List ℕ → List ℕ → List ℕ → Verdict
least_row_verdict t values out =
    rung (sized (length t)) TableLength
    (rung (eqb (length out) (length values)) OutputLength
    (rung (nondecreasing t) NotNondecreasing
    granted))

pub record LeastRowPromise (t values out : List ℕ) (r : Result (Unit {0}) Refusal) (out' : List ℕ) : Type 0 where
  pub number : number_of_answer r ≡ number_in (least_row_verdict t values out)
  pub after : out' ≡ if_granted (least_row_verdict t values out) (least_row_of t values) out
