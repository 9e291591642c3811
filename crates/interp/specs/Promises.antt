-- What each call of this crate promises: when it is refused and by which number, and its value. Assumes nothing.
use Rattle.std.specs.Prelude.{ℕ, ◌-◌, ◌≡◌, true, false, not, List, length, get_or, T, Float, Result, Ok, Err}
use Rattle.std.specs.Float.{nan}
use Rattle.std.specs.Float.Ieee.{lt, le, eq}
use Rattle.std.specs.Float.Ieee.Scale.{finite}
use Rattle.table.specs.Sizes.{sized, not_above}
use Rattle.table.specs.Refusals.{Verdict, granted, rung, number_in, if_granted}
use Rattle.table.specs.Answers.{number_of_answer}
use Rattle.table.specs.declared.Refusal.TheVariants.{TableLength, OutsideUnit}
use Rattle.table.specs.declared.Refusal.{Refusal}
use Rattle.ieee.specs.Range.{nought, one}
use Rattle.interp.specs.Interp.{float_looked_up, outside_unit, linear_looked_up}

-- Document 01's number and value for each case of an answer: a refused one has 0 in the value's place.
abbrev pub value_of_interpolated : Result Float Refusal → Float
value_of_interpolated (Ok y) = y
value_of_interpolated (Err why) = nought

-- For finite entries the last one comes out exactly at x = 1, above it and at a NaN, and the first at x = 0 and below,
-- as numbers: `eq` takes a zero for the other zero.
pub record EndsExact (t : List Float) (x y : Float) : Type 0 where
  pub last : lt x one ≡ false → T (finite (get_or t (length t - 1) nan)) → T (eq y (get_or t (length t - 1) nan))
  pub first : le x nought ≡ true → T (finite (get_or t 0 nan)) → T (eq y (get_or t 0 nan))

-- `lut_interp_linear_float`: refused for the table's length, 1.
abbrev pub float_verdict : List Float → Verdict
float_verdict t = rung (sized (length t)) TableLength granted

pub record FloatPromise (t : List Float) (x : Float) (r : Result Float Refusal) : Type 0 where
  pub number : number_of_answer r ≡ number_in (float_verdict t)
  pub value : value_of_interpolated r ≡ if_granted (float_verdict t) (float_looked_up t x) nought
  pub ends : float_verdict t ≡ granted → EndsExact t x (value_of_interpolated r)

-- `lut_interp_linear`: refused for a table of more than 65,536 entries, 1; for an input that is NaN, below 0 or above
-- 1, 13.
abbrev pub linear_verdict : List ℕ → Float → Verdict
linear_verdict t x =
    rung (not_above (length t)) TableLength
    (rung (not (outside_unit x)) OutsideUnit
    granted)

pub record LinearPromise (t : List ℕ) (x : Float) (r : Result Float Refusal) : Type 0 where
  pub number : number_of_answer r ≡ number_in (linear_verdict t x)
  pub value : value_of_interpolated r ≡ if_granted (linear_verdict t x) (linear_looked_up t x) nought
