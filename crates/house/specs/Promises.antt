-- What each call of this crate promises: when it is refused and by which number, its value, and what the lent buffer
-- holds after it. Assumes nothing.
use Rattle.std.specs.Prelude.{ℕ, ◌≡◌, List, length, leb, eqb, Result}
use Rattle.table.specs.Refusals.{Verdict, granted, rung, number_in, when_granted}
use Rattle.table.specs.Answers.{number_of_answer, value_of_looked}
use Rattle.table.specs.declared.Refusal.TheVariants.{IndexBeyond, OutputLength}
use Rattle.table.specs.declared.Density.{Density}
use Rattle.table.specs.declared.Refusal.{Refusal}
use Rattle.house.specs.House.{IsEntry, IsHouse}

-- One entry: refused for an index above 1,023, 3.
abbrev pub entry_verdict : ℕ → Verdict
entry_verdict i = rung (leb i 1023) IndexBeyond granted

pub record EntryPromise (i : ℕ) (r : Result Density Refusal) : Type 0 where
  pub number : number_of_answer r ≡ number_in (entry_verdict i)
  pub value : when_granted (entry_verdict i) (IsEntry i (value_of_looked r)) (value_of_looked r ≡ 0)

-- All entries: refused for an output of other than 1,024 entries, 6.
abbrev pub fill_verdict : List ℕ → Verdict
fill_verdict out = rung (eqb (length out) 1024) OutputLength granted

pub record FillPromise (out : List ℕ) (r : Result (Unit {0}) Refusal) (out' : List ℕ) : Type 0 where
  pub number : number_of_answer r ≡ number_in (fill_verdict out)
  pub after : when_granted (fill_verdict out) (IsHouse out') (out' ≡ out)
