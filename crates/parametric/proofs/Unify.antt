-- The curve of each count, what a count may be, and that the promise names one answer. Assumes nothing.
use mathlib.Core.Path.{◌≡◌, ◌∙◌, sym}
use mathlib.Core.Bool.{true}
use mathlib.Core.List.{List}
use Prim.Native.Nat.{ℕ}
use borrow.Author.Tests.{eqb-true, ne_eqb}
use lib.ListN.{length}
use lib.Dec.{eqb}
use lib.Ieee.{Float}
use Rattle.std.specs.Prelude.{Result}
use Rattle.table.specs.Answers.{number_of_answer}
use Rattle.table.specs.declared.Refusal.{Refusal}
use Rattle.table.proofs.Answers.{same_answer}
use Rattle.parametric.specs.declared.ParametricCurve.{ParametricCurve}
use Rattle.parametric.specs.Unify.{parameter, of_one, of_three, of_four, of_five, of_seven, counted, unified}
use Rattle.parametric.specs.Promises.{value_of_unified, NewPromise}

module _ (l : List Float) {curve : ParametricCurve} where
  -- Of one parameter the curve is `of_one` of it. [parametric::ParametricCurve::new]
  pub one_makes : length l ≡ 1 → curve ≡ of_one (parameter l 0) → curve ≡ unified l
  unfolding unified
  one_makes h e = e ∙ simp h

  -- Of three parameters the curve is `of_three` of them. [parametric::ParametricCurve::new]
  pub three_make : length l ≡ 3 → curve ≡ of_three (parameter l 0) (parameter l 1) (parameter l 2) → curve ≡ unified l
  unfolding unified
  three_make h e = e ∙ simp h

  -- Of four parameters the curve is `of_four` of them. [parametric::ParametricCurve::new]
  pub four_make : length l ≡ 4 → curve ≡ of_four (parameter l 0) (parameter l 1) (parameter l 2) (parameter l 3)
      → curve ≡ unified l
  unfolding unified
  four_make h e = e ∙ simp h

  -- Of five parameters the curve is `of_five` of them. [parametric::ParametricCurve::new]
  pub five_make : length l ≡ 5
      → curve ≡ of_five (parameter l 0) (parameter l 1) (parameter l 2) (parameter l 3) (parameter l 4)
      → curve ≡ unified l
  unfolding unified
  five_make h e = e ∙ simp h

  -- Of seven parameters the curve is `of_seven` of them. [parametric::ParametricCurve::new]
  pub seven_make : length l ≡ 7 → curve ≡ of_seven l → curve ≡ unified l
  unfolding unified
  seven_make h e = e ∙ simp h

-- past the four smaller counts the last test decides
pub counted_last : (n : ℕ) → (n ≡ 1 → ⊥) → (n ≡ 3 → ⊥) → (n ≡ 4 → ⊥) → (n ≡ 5 → ⊥) → counted n ≡ eqb n 7
unfolding counted
counted_last n a b c d = simp (ne_eqb n 1 a, ne_eqb n 3 b, ne_eqb n 4 c, ne_eqb n 5 d)

-- A count that is allowed, and is not 1, 3, 4 or 5, is 7. [parametric::ParametricCurve::new]
pub then_seven : (n : ℕ) → counted n ≡ true → (n ≡ 1 → ⊥) → (n ≡ 3 → ⊥) → (n ≡ 4 → ⊥) → (n ≡ 5 → ⊥) → n ≡ 7
then_seven n h a b c d = eqb-true n 7 (sym (counted_last n a b c d) ∙ h)

pub same_unified : (r s : Result ParametricCurve Refusal) → number_of_answer r ≡ number_of_answer s
    → value_of_unified r ≡ value_of_unified s → r ≡ s
same_unified = same_answer value_of_unified (λ a b v. v)

-- the promise names one answer, all NaNs being one
pub new_one : {params : List Float} {r s : Result ParametricCurve Refusal} → NewPromise params r → NewPromise params s
    → r ≡ s
new_one {params} {r} {s} a b = same_unified r s (a.number ∙ sym b.number) (a.value ∙ sym b.value)
