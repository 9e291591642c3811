-- What reading a tag as a curve promises: when it is refused and by which number, and the curve. Assumes nothing.
use Rattle.std.specs.Prelude.{ℕ, ◌≡◌, List, ℤ, Float, Result}
use Rattle.table.specs.Fill.{tabulated}
use Rattle.table.specs.Refusals.{number_in, if_granted}
use Rattle.table.specs.Answers.{number_of_answer}
use Rattle.table.specs.declared.Refusal.{Refusal}
use Rattle.rounding.specs.Nearest.{ratio}
use Rattle.parametric.specs.declared.ParametricCurve.{ParametricCurve}
use Rattle.parametric.specs.Unify.{unified}
use Rattle.parametric.specs.Promises.{value_of_unified, no_curve}
use Rattle.para.specs.Tag.{type_of, count_of, raw_at}
use Rattle.para.specs.Promises.{tag_verdict}

-- Reading a tag as a curve: refused as the tag is. A raw number r becomes the f32 nearest to r / 65536, and the curve
-- is unified from these.
abbrev pub nearest : ℤ → Float
nearest r = ratio r 65536

abbrev pub curve_of : List ℕ → ParametricCurve
curve_of b = unified (tabulated (λ k. nearest (raw_at b k)) (count_of (type_of b)))

pub record CurvePromise (b : List ℕ) (r : Result ParametricCurve Refusal) : Type 0 where
  pub number : number_of_answer r ≡ number_in (tag_verdict b)
  pub value : value_of_unified r ≡ if_granted (tag_verdict b) (curve_of b) no_curve
