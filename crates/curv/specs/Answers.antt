-- Document 01's number and value for each case of a count's answer. Assumes nothing.
use Rattle.std.specs.Prelude.{ℕ, Result, Ok, Err}
use Rattle.table.specs.Refusals.{number_of}
use Rattle.table.specs.declared.Refusal.{Refusal}

abbrev pub value_of_counted : Result ℕ Refusal → ℕ
value_of_counted (Ok n) = n
value_of_counted (Err why) = 0
