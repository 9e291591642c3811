-- What a reading promises: when it is refused and by which number, and what the lent buffer holds after it. Assumes
-- nothing.
use Rattle.std.specs.Prelude.{◌≡◌, ℕ, List, length, eqb, Result}
use Rattle.table.specs.Refusals.{Verdict, granted, rung, and_then, number_in, if_granted}
use Rattle.table.specs.Answers.{number_of_answer}
use Rattle.table.specs.declared.Refusal.TheVariants.{OutputLength}
use Rattle.table.specs.declared.Refusal.{Refusal}
use Rattle.curv.specs.Tag.{count_of, entries_of}
use Rattle.curv.specs.Promises.{tag_verdict}

-- Reading a tag's entries: refused as the tag is, and then for a buffer of other than as many entries, 6.
abbrev pub read_verdict : List ℕ → List ℕ → Verdict
read_verdict b out = and_then (tag_verdict b) (rung (eqb (length out) (count_of b)) OutputLength granted)

pub record ReadPromise (b out : List ℕ) (r : Result (Unit {0}) Refusal) (out' : List ℕ) : Type 0 where
  pub number : number_of_answer r ≡ number_in (read_verdict b out)
  pub after : out' ≡ if_granted (read_verdict b out) (entries_of b) out
