-- What each call of this crate promises: when it is refused and by which number, its value, and what the lent buffer
-- holds after it. The calls that take a gamma tag's entry promise the same of the exponent that it means. Assumes
-- nothing.
use Rattle.std.specs.Prelude.{ℕ, ◌≡◌, Bool, List, length, eqb, Result}
use Rattle.table.specs.Sizes.{within, spanned}
use Rattle.table.specs.Refusals.{Verdict, granted, rung, number_in, if_granted}
use Rattle.table.specs.Answers.{number_of_answer, value_of_looked}
use Rattle.table.specs.declared.Drive.{Drive}
use Rattle.table.specs.declared.Refusal.TheVariants.{TableLength, OutputLength, Exponent}
use Rattle.table.specs.declared.Density.{Density}
use Rattle.table.specs.declared.Refusal.{Refusal}
use Rattle.power_curve.specs.Curve.{value_at, table_of}

-- an exponent of p/65536 is from 1/65536 to 4
abbrev pub allowed_exponent : ℕ → Bool
allowed_exponent p = within 1 262144 p

-- One value: refused for an exponent outside its range, 18.
abbrev pub power_verdict : ℕ → Verdict
power_verdict p = rung (allowed_exponent p) Exponent granted

pub record PowerPromise (x : Drive) (p : ℕ) (r : Result Density Refusal) : Type 0 where
  pub number : number_of_answer r ≡ number_in (power_verdict p)
  pub value : value_of_looked r ≡ if_granted (power_verdict p) (value_at p x.0) 0

-- A table of n entries: refused for n as a start is, 1; for the exponent, 18; for an output of other than n entries, 6.
abbrev pub power_table_verdict : List ℕ → ℕ → ℕ → Verdict
power_table_verdict out n p =
    rung (spanned n) TableLength
    (rung (allowed_exponent p) Exponent
    (rung (eqb (length out) n) OutputLength
    granted))

pub record PowerTablePromise (out : List ℕ) (n p : ℕ) (r : Result (Unit {0}) Refusal) (out' : List ℕ) : Type 0 where
  pub number : number_of_answer r ≡ number_in (power_table_verdict out n p)
  pub after : out' ≡ if_granted (power_table_verdict out n p) (table_of p n) out
