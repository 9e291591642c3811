-- What writing promises: when it is refused and by which number, and what the lent buffer holds after it. Assumes
-- nothing.
use Rattle.std.specs.Prelude.{ℕ, ◌≡◌, List, length, leb, eqb, Result}
use Rattle.table.specs.Refusals.{Verdict, granted, rung, number_in, if_granted}
use Rattle.table.specs.Answers.{number_of_answer}
use Rattle.table.specs.declared.Refusal.TheVariants.{OutputLength, FunctionType}
use Rattle.table.specs.declared.Refusal.{Refusal}
use Rattle.para.specs.declared.Numbers.{Numbers}
use Rattle.para.specs.Tag.{count_of, tag_length}
use Rattle.para_writer.specs.Written.{tag_of}

-- Writing a type and seven numbers as a tag: refused for a type above 4, 11; for a buffer of other than 12 plus four
-- bytes for each number, 6.
abbrev pub write_verdict : ℕ → List ℕ → Verdict
write_verdict t out =
    rung (leb t 4) FunctionType
    (rung (eqb (length out) (tag_length (count_of t))) OutputLength
    granted)

pub record WritePromise (t : ℕ) (m : Numbers) (out : List ℕ) (r : Result (Unit {0}) Refusal)
    (out' : List ℕ) : Type 0 where
  pub number : number_of_answer r ≡ number_in (write_verdict t out)
  pub after : out' ≡ if_granted (write_verdict t out) (tag_of t m) out
