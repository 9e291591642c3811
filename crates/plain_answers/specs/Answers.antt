-- The fields of each answer as C and Rust see it: document 01's number, and its values, which are 0 where the answer is
-- a refusal. Also the version of these structs. Assumes nothing.
use Rattle.std.specs.Prelude.{ℕ, Bool, true, false, eqb, Result, Float}
use Rattle.table.specs.Answers.{number_of_answer, value_of_looked, value_of_sought}
use Rattle.table.specs.declared.Density.{Density}
use Rattle.table.specs.declared.Drive.{Drive}
use Rattle.table.specs.declared.Refusal.{Refusal}
use Rattle.gamma.specs.Promises.{value_of_coded}
use Rattle.interp.specs.Promises.{value_of_interpolated}
use Rattle.parametric.specs.Promises.{value_of_unified}
use Rattle.parametric.specs.declared.ParametricCurve.{ParametricCurve}
use Rattle.monotonic.specs.declared.Direction.{Direction}
use Rattle.monotonic.specs.declared.Direction.TheVariants.{Rising, Falling}
use Rattle.monotonic.specs.declared.Monotonic.{Monotonic}
use Rattle.monotonic.specs.Promises.{yes_of_monotonic, violations_of_monotonic}
use Rattle.degeneration.specs.Promises.{yes_of_degenerated}
use Rattle.curv.specs.Answers.{value_of_counted}
use Rattle.para.specs.Answers.{count_of_read, numbers_of_read}
use Rattle.para.specs.declared.Numbers.{Numbers}
use Rattle.plain_answers.specs.declared.Sample.{Sample}
use Rattle.plain_answers.specs.declared.Position.{Position}
use Rattle.plain_answers.specs.declared.Code.{Code}
use Rattle.plain_answers.specs.declared.Real.{Real}
use Rattle.plain_answers.specs.declared.Parametric.{Parametric}
use Rattle.plain_answers.specs.declared.Monotony.{Monotony}
use Rattle.plain_answers.specs.declared.Degeneration.{Degeneration}
use Rattle.plain_answers.specs.declared.Count.{Count}
use Rattle.plain_answers.specs.declared.Para.{Para}

abbrev pub as_sample : Result Density Refusal → Sample
as_sample l = record { refusal = number_of_answer l; density = record { 0 = value_of_looked l } }

abbrev pub as_position : Result Drive Refusal → Position
as_position l = record { refusal = number_of_answer l; drive = record { 0 = value_of_sought l } }

abbrev pub as_code : Result ℕ Refusal → Code
as_code l = record { refusal = number_of_answer l; code = value_of_coded l }

abbrev pub as_real : Result Float Refusal → Real
as_real l = record { refusal = number_of_answer l; value = value_of_interpolated l }

abbrev pub as_parametric : Result ParametricCurve Refusal → Parametric
as_parametric l = record { refusal = number_of_answer l; curve = value_of_unified l }

abbrev pub as_para : Result (ℕ × Numbers) Refusal → Para
as_para l = record { refusal = number_of_answer l; count = count_of_read l; numbers = numbers_of_read l }

-- a direction crosses as whether it is rising, and yes or no, document 01's 1 or 0, as a bool
abbrev pub as_direction : Bool → Direction
as_direction true = Rising
as_direction false = Falling

abbrev pub as_monotony : Result Monotonic Refusal → Monotony
as_monotony l =
    record { refusal = number_of_answer l; yes = eqb (yes_of_monotonic l) 1; violations = violations_of_monotonic l }

abbrev pub as_degeneration : Result Bool Refusal → Degeneration
as_degeneration l = record { refusal = number_of_answer l; yes = eqb (yes_of_degenerated l) 1 }

abbrev pub as_count : Result ℕ Refusal → Count
as_count l = record { refusal = number_of_answer l; entries = value_of_counted l }

-- 0.4.0, as include/brassgroat.h and bindings/rust/Cargo.toml have it; face/test compares the three
abbrev pub version : ℕ
version = 400
