-- Every answer that keeps the promise of `ParametricCurve::new` obeys document 01's sentences, count by count.
-- Assumes nothing.
use mathlib.Core.Path.{◌≡◌, ◌∙◌, refl, sym, subst}
use mathlib.Core.Bool.{true, false}
use mathlib.Core.List.{List, [], ◌∷◌}
use Prim.Native.Nat.{ℕ}
use native.Mathlib.Omega.{arith}
use borrow.Author.Tests.{ne_eqb}
use lib.ListN.{length, take}
use lib.Ieee.{Float}
use Rattle.std.specs.Prelude.{Result}
use Rattle.table.specs.Answers.{number_of_answer}
use Rattle.table.specs.declared.Refusal.{Refusal}
use Rattle.parametric.specs.declared.ParametricCurve.{ParametricCurve}
use Rattle.parametric.specs.Unify.{counted, unified}
use Rattle.parametric.specs.Promises.{value_of_unified, NewPromise}
use Rattle.parametric.specs.Counts.{fields, OneGives, ThreeAndFourSet, FourSets, ThreeAndFiveSet, NewObeys}
use Rattle.parametric.proofs.Unify.{counted_last}

-- ---- the definition, on a list of so many
one_gives : (l : List Float) → length l ≡ 1 → OneGives l (unified l)
unfolding unified
one_gives [] h = absurd (omega arith)
one_gives (g ∷ []) h = record { given = refl; a_one = refl; rest_nought = refl }
one_gives (g ∷ a ∷ l) h = absurd (omega arith)

three_set : (l : List Float) → length l ≡ 3 → ThreeAndFourSet l (unified l) × ThreeAndFiveSet (unified l)
unfolding unified
three_set [] h = absurd (omega arith)
three_set (g ∷ []) h = absurd (omega arith)
three_set (g ∷ a ∷ []) h = absurd (omega arith)
three_set (g ∷ a ∷ b ∷ []) h =
    (record { given = refl; c_nought = refl; d_quotient = refl }, record { e_nought = refl; f_nought = refl })
three_set (g ∷ a ∷ b ∷ c ∷ l) h = absurd (omega arith)

four_set : (l : List Float) → length l ≡ 4 → ThreeAndFourSet l (unified l) × FourSets l (unified l)
unfolding unified
four_set [] h = absurd (omega arith)
four_set (g ∷ []) h = absurd (omega arith)
four_set (g ∷ a ∷ []) h = absurd (omega arith)
four_set (g ∷ a ∷ b ∷ []) h = absurd (omega arith)
four_set (g ∷ a ∷ b ∷ c ∷ []) h =
    (record { given = refl; c_nought = refl; d_quotient = refl }, record { e_last = refl; f_last = refl })
four_set (g ∷ a ∷ b ∷ c ∷ d ∷ l) h = absurd (omega arith)

five_set : (l : List Float) → length l ≡ 5 → (l ≡ take 5 (fields (unified l))) × ThreeAndFiveSet (unified l)
unfolding unified
five_set [] h = absurd (omega arith)
five_set (g ∷ []) h = absurd (omega arith)
five_set (g ∷ a ∷ []) h = absurd (omega arith)
five_set (g ∷ a ∷ b ∷ []) h = absurd (omega arith)
five_set (g ∷ a ∷ b ∷ c ∷ []) h = absurd (omega arith)
five_set (g ∷ a ∷ b ∷ c ∷ d ∷ []) h = (refl, record { e_nought = refl; f_nought = refl })
five_set (g ∷ a ∷ b ∷ c ∷ d ∷ e ∷ l) h = absurd (omega arith)

seven_come : (l : List Float) → length l ≡ 7 → l ≡ fields (unified l)
unfolding unified
seven_come [] h = absurd (omega arith)
seven_come (g ∷ []) h = absurd (omega arith)
seven_come (g ∷ a ∷ []) h = absurd (omega arith)
seven_come (g ∷ a ∷ b ∷ []) h = absurd (omega arith)
seven_come (g ∷ a ∷ b ∷ c ∷ []) h = absurd (omega arith)
seven_come (g ∷ a ∷ b ∷ c ∷ d ∷ []) h = absurd (omega arith)
seven_come (g ∷ a ∷ b ∷ c ∷ d ∷ e ∷ []) h = absurd (omega arith)
seven_come (g ∷ a ∷ b ∷ c ∷ d ∷ e ∷ f ∷ []) h = refl
seven_come (g ∷ a ∷ b ∷ c ∷ d ∷ e ∷ f ∷ x ∷ l) h = absurd (omega arith)

-- ---- and of the answer
counts : (n k : ℕ) → n ≡ k → counted k ≡ true → counted n ≡ true
counts n k e h = rw e h

counts_not : (n : ℕ) → (n ≡ 1 → ⊥) → (n ≡ 3 → ⊥) → (n ≡ 4 → ⊥) → (n ≡ 5 → ⊥) → (n ≡ 7 → ⊥) → counted n ≡ false
counts_not n a b c d e = counted_last n a b c d ∙ ne_eqb n 7 e

-- Document 01's sentences hold, field by field (`NewObeys`). [parametric::ParametricCurve::new]
pub new_obeys : {params : List Float} {r : Result ParametricCurve Refusal} → NewPromise params r → NewObeys params r
unfolding counted
new_obeys {params} {r} p = record {
  of_one = λ h. let t = counts n 1 h refl in (number t, made (OneGives params) t (one_gives params h));
  of_three =
      λ h.
      let t = counts n 3 h refl in
      let s = three_set params h in
      (number t, made (ThreeAndFourSet params) t s.0, made ThreeAndFiveSet t s.1);
  of_four =
      λ h.
      let t = counts n 4 h refl in
      let s = four_set params h in
      (number t, made (ThreeAndFourSet params) t s.0, made (FourSets params) t s.1);
  of_five =
      λ h.
      let t = counts n 5 h refl in
      let s = five_set params h in
      (number t, made (λ y. params ≡ take 5 (fields y)) t s.0, made ThreeAndFiveSet t s.1);
  of_seven = λ h. let t = counts n 7 h refl in (number t, made (λ y. params ≡ fields y) t (seven_come params h));
  of_others = λ o. simp (counts_not n o.0 o.1 o.2 o.3 o.4) at p.number;
}
  where
    n : ℕ
    n = length params

    number : counted (length params) ≡ true → number_of_answer r ≡ 0
    number t = simp t at p.number

    made : (P : ParametricCurve → Type 0) → counted (length params) ≡ true → P (unified params) → P (value_of_unified r)
    made P t h = let e : value_of_unified r ≡ unified params = simp t at p.value in subst P (sym e) h
