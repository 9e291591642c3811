-- What `invert_lut` promises: when it is refused and by which number, and what the lent buffer holds after it. Assumes
-- nothing.
use Rattle.std.specs.Prelude.{ℕ, ◌≡◌, List, length, Result}
use Rattle.table.specs.Sizes.{sized, spanned}
use Rattle.table.specs.Refusals.{Verdict, granted, rung, number_in, if_granted}
use Rattle.table.specs.Answers.{number_of_answer}
use Rattle.table.specs.declared.Refusal.TheVariants.{TableLength, OutsideRange}
use Rattle.table.specs.declared.Refusal.{Refusal}
use Rattle.invert.specs.Invert.{inverted_of}

-- A table inverted: refused for the table's length, 1; for an inverted length outside 2 to 65,536, 12.
abbrev pub invert_verdict : List ℕ → List ℕ → Verdict
invert_verdict t out =
    rung (sized (length t)) TableLength
    (rung (spanned (length out)) OutsideRange
    granted)

pub record InvertPromise (t out : List ℕ) (r : Result (Unit {0}) Refusal) (out' : List ℕ) : Type 0 where
  pub number : number_of_answer r ≡ number_in (invert_verdict t out)
  pub after : out' ≡ if_granted (invert_verdict t out) (inverted_of t (length out)) out
