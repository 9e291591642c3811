-- Document 01's sentences on the unified curve, one record each, field by field. `Unify` makes a curve from a list of
-- parameters; these records say of a curve and a list whether the sentence holds. Assumes nothing.
use Rattle.std.specs.Prelude.{◌≡◌, ℕ, List, [], ◌∷◌, length, take, drop, Float, Result}
use Rattle.std.specs.Float.{binary32}
use Rattle.std.specs.Float.Ieee.{neg, div}
use Rattle.table.specs.Answers.{number_of_answer}
use Rattle.table.specs.declared.Refusal.{Refusal}
use Rattle.ieee.specs.Range.{nought, one}
use Rattle.parametric.specs.declared.ParametricCurve.{ParametricCurve}
use Rattle.parametric.specs.Promises.{value_of_unified}

-- "Seven floats g, a, b, c, d, e, f": the curve's, in this order
abbrev pub fields : ParametricCurve → List Float
fields y = y.g ∷ y.a ∷ y.b ∷ y.c ∷ y.d ∷ y.e ∷ y.f ∷ []

-- "one gives a = 1, the rest 0"
pub record OneGives (params : List Float) (y : ParametricCurve) : Type 0 where
  pub given : params ≡ take 1 (fields y)
  pub a_one : y.a ≡ one
  pub rest_nought : drop 2 (fields y) ≡ nought ∷ nought ∷ nought ∷ nought ∷ nought ∷ []

-- "three and four set c = 0, d = -b/a", an f32 step
pub record ThreeAndFourSet (params : List Float) (y : ParametricCurve) : Type 0 where
  pub given : take 3 params ≡ take 3 (fields y)
  pub c_nought : y.c ≡ nought
  pub d_quotient : y.d ≡ div binary32 (neg y.b) y.a

-- "four sets e = f = its last"
pub record FourSets (params : List Float) (y : ParametricCurve) : Type 0 where
  pub e_last : drop 3 params ≡ y.e ∷ []
  pub f_last : drop 3 params ≡ y.f ∷ []

-- "three and five set e = f = 0"
pub record ThreeAndFiveSet (y : ParametricCurve) : Type 0 where
  pub e_nought : y.e ≡ nought
  pub f_nought : y.f ≡ nought

abbrev Granted : Result ParametricCurve Refusal → Type 0
Granted r = number_of_answer r ≡ 0

-- none of the five counts
abbrev Other : ℕ → Type 0
Other n = (n ≡ 1 → ⊥) × (n ≡ 3 → ⊥) × (n ≡ 4 → ⊥) × (n ≡ 5 → ⊥) × (n ≡ 7 → ⊥)

-- What the sentences come to for each count, and row 7: "parameter count is not 1, 3, 4, 5 or 7".
pub record NewObeys (params : List Float) (r : Result ParametricCurve Refusal) : Type 0 where
  pub of_one : length params ≡ 1 → Granted r × OneGives params (value_of_unified r)
  pub of_three : length params ≡ 3
      → Granted r × ThreeAndFourSet params (value_of_unified r) × ThreeAndFiveSet (value_of_unified r)
  pub of_four : length params ≡ 4
      → Granted r × ThreeAndFourSet params (value_of_unified r) × FourSets params (value_of_unified r)
  pub of_five : length params ≡ 5
      → Granted r × (params ≡ take 5 (fields (value_of_unified r))) × ThreeAndFiveSet (value_of_unified r)
  pub of_seven : length params ≡ 7 → Granted r × (params ≡ fields (value_of_unified r))
  pub of_others : Other (length params) → number_of_answer r ≡ 7
