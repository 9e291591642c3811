-- What writing promises: when it is refused and by which number, and what the lent buffer holds after it. Assumes
-- nothing.
use Rattle.std.specs.Prelude.{ℕ, ◌≡◌, List, length, eqb, Result}
use Rattle.table.specs.Sizes.{not_above}
use Rattle.table.specs.Refusals.{Verdict, granted, rung, number_in, if_granted}
use Rattle.table.specs.Answers.{number_of_answer}
use Rattle.table.specs.declared.Refusal.TheVariants.{TableLength, OutputLength}
use Rattle.table.specs.declared.Refusal.{Refusal}
use Rattle.curv.specs.Tag.{tag_length}
use Rattle.curv_writer.specs.Written.{tag_of}

-- Writing a table as a tag: refused for a table above 65,536 entries, 1; for a buffer of other than 12 + 2n bytes, 6.
abbrev pub write_verdict : List ℕ → List ℕ → Verdict
write_verdict t out =
    rung (not_above (length t)) TableLength
    (rung (eqb (length out) (tag_length (length t))) OutputLength
    granted)

pub record WritePromise (t out : List ℕ) (r : Result (Unit {0}) Refusal) (out' : List ℕ) : Type 0 where
  pub number : number_of_answer r ≡ number_in (write_verdict t out)
  pub after : out' ≡ if_granted (write_verdict t out) (tag_of t) out
