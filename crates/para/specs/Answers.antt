-- Document 01's number and values for each case of a reading's answer: a refused one has 0 in each of its eight places.
-- Assumes nothing.
use Rattle.std.specs.Prelude.{ℕ, pos, Result, Ok, Err}
use Rattle.table.specs.declared.Refusal.{Refusal}
use Rattle.para.specs.declared.Numbers.{Numbers}
use Rattle.para.specs.Tag.{seven}

abbrev pub count_of_read : Result (ℕ × Numbers) Refusal → ℕ
count_of_read (Ok (n, m)) = n
count_of_read (Err why) = 0

abbrev pub no_numbers : Numbers
no_numbers = seven (λ k. pos 0)

abbrev pub numbers_of_read : Result (ℕ × Numbers) Refusal → Numbers
numbers_of_read (Ok (n, m)) = m
numbers_of_read (Err why) = no_numbers
