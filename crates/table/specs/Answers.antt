-- The documents' number and value for each case of an answer: a granted one has number 0, and a refused one has 0 in
-- every other place. Assumes nothing.
use Rattle.std.specs.Prelude.{ℕ, Result, Ok, Err}
use Rattle.table.specs.Refusals.{number_of}
use Rattle.table.specs.declared.Refusal.{Refusal}
use Rattle.table.specs.declared.Density.{Density}
use Rattle.table.specs.declared.Drive.{Drive}

-- any call's number
abbrev pub number_of_answer : {A : Type 0} → Result A Refusal → ℕ
number_of_answer (Ok a) = 0
number_of_answer (Err why) = number_of why

-- the value of a call that gives a sample
abbrev pub value_of_looked : Result Density Refusal → ℕ
value_of_looked (Ok d) = d.0
value_of_looked (Err why) = 0

-- and of one that gives a position
abbrev pub value_of_sought : Result Drive Refusal → ℕ
value_of_sought (Ok p) = p.0
value_of_sought (Err why) = 0
