-- What each call of this crate promises: when it is refused and by which number, and what the lent buffer holds after
-- it. Assumes nothing.
use Rattle.std.specs.Prelude.{ℕ, ◌≡◌, List, length, eqb, Result}
use Rattle.table.specs.Sizes.{sized}
use Rattle.table.specs.Refusals.{Verdict, granted, rung, number_in, if_granted}
use Rattle.table.specs.Answers.{number_of_answer}
use Rattle.table.specs.declared.Refusal.TheVariants.{TableLength, OutputLength}
use Rattle.table.specs.declared.Refusal.{Refusal}
use Rattle.rows.specs.Rows.{row_of, baked_of}

-- A row of lookups: refused for the table's length, 1; for an output that is not exactly as long as the positions, 6.
-- Each entry of the output is the 16-bit lookup at its position.
abbrev pub row_verdict : List ℕ → List ℕ → List ℕ → Verdict
row_verdict t positions out =
    rung (sized (length t)) TableLength
    (rung (eqb (length out) (length positions)) OutputLength
    granted)

pub record RowPromise (t positions out : List ℕ) (r : Result (Unit {0}) Refusal) (out' : List ℕ) : Type 0 where
  pub number : number_of_answer r ≡ number_in (row_verdict t positions out)
  pub after : out' ≡ if_granted (row_verdict t positions out) (row_of t positions) out

-- A table's baked form, the answers at every position: refused for the table's length, 1; for an output of other than
-- 65,536 entries, 6.
abbrev pub bake_verdict : List ℕ → List ℕ → Verdict
bake_verdict t out =
    rung (sized (length t)) TableLength
    (rung (eqb (length out) 65536) OutputLength
    granted)

pub record BakePromise (t out : List ℕ) (r : Result (Unit {0}) Refusal) (out' : List ℕ) : Type 0 where
  pub number : number_of_answer r ≡ number_in (bake_verdict t out)
  pub after : out' ≡ if_granted (bake_verdict t out) (baked_of t) out
