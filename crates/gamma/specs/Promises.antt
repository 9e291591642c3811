-- What the gamma lookup promises: when it is refused and by which number, and its value. Assumes nothing.
use Rattle.std.specs.Prelude.{ℕ, ◌≡◌, List, length, ltb, Result, Ok, Err}
use Rattle.table.specs.Sizes.{within, sized, spanned}
use Rattle.table.specs.Refusals.{Verdict, granted, rung, number_in, if_granted}
use Rattle.table.specs.Answers.{number_of_answer}
use Rattle.table.specs.declared.Refusal.TheVariants.{TableLength, IndexBeyond, OutsideRange}
use Rattle.table.specs.declared.Refusal.{Refusal}
use Rattle.gamma.specs.Gamma.{gamma_up}

-- Document 01's number and value for each case of the gamma lookup's answer.
abbrev pub value_of_coded : Result ℕ Refusal → ℕ
value_of_coded (Ok c) = c
value_of_coded (Err why) = 0

-- The gamma lookup: refused for the table's length, 1; for N outside 2 to 65,536 or a depth outside 1 to 16, 12; for an
-- input at or above N, 3.
abbrev pub gamma_verdict : List ℕ → ℕ → ℕ → ℕ → Verdict
gamma_verdict t N depth x =
    rung (sized (length t)) TableLength
    (rung (spanned N) OutsideRange
    (rung (within 1 16 depth) OutsideRange
    (rung (ltb x N) IndexBeyond
    granted)))

pub record GammaPromise (t : List ℕ) (N depth x : ℕ) (r : Result ℕ Refusal) : Type 0 where
  pub number : number_of_answer r ≡ number_in (gamma_verdict t N depth x)
  pub value : value_of_coded r ≡ if_granted (gamma_verdict t N depth x) (gamma_up t N depth x) 0
