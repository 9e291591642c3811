-- What the calls of this crate promise. Assumes nothing.
use Rattle.std.specs.Prelude.{◌≡◌, Bool, List, length, Float, Result, Ok, Err}
use Rattle.table.specs.Refusals.{Verdict, granted, rung, number_in, if_granted}
use Rattle.table.specs.Answers.{number_of_answer}
use Rattle.table.specs.declared.Refusal.TheVariants.{ParameterCount}
use Rattle.table.specs.declared.Refusal.{Refusal}
use Rattle.ieee.specs.Range.{nought}
use Rattle.parametric.specs.declared.ParametricCurve.{ParametricCurve}
use Rattle.parametric.specs.Unify.{counted, unified}
use Rattle.parametric.specs.Compare.{close}

-- Document 01's number and values for each case of the answer: a refused one has 0 in each of the seven places.
abbrev pub no_curve : ParametricCurve
no_curve = record { g = nought; a = nought; b = nought; c = nought; d = nought; e = nought; f = nought }

abbrev pub value_of_unified : Result ParametricCurve Refusal → ParametricCurve
value_of_unified (Ok c) = c
value_of_unified (Err why) = no_curve

-- `ParametricCurve::new`: refused for a count that is not 1, 3, 4, 5 or 7, by 7.
abbrev pub new_verdict : List Float → Verdict
new_verdict params = rung (counted (length params)) ParameterCount granted

pub record NewPromise (params : List Float) (r : Result ParametricCurve Refusal) : Type 0 where
  pub number : number_of_answer r ≡ number_in (new_verdict params)
  pub value : value_of_unified r ≡ if_granted (new_verdict params) (unified params) no_curve

-- `compare_parametric`: never refused.
pub record ComparePromise (src dst : List Float) (r : Bool) : Type 0 where
  pub value : r ≡ close src dst
