-- How the promise is met; how the curve and the numbers read go together; and that the promise names one answer.
-- Assumes nothing.
use mathlib.Core.Path.{◌≡◌, ◌∙◌, refl, sym, ap}
use mathlib.Core.Bool.{Bool, true, false}
use mathlib.Core.List.{List, map}
use Prim.Native.Nat.{ℕ, ◌≤◌}
use native.Mathlib.Omega.{arith}
use lib.ListN.{length, take}
use lib.Dec.{leb, eqb}
use Rattle.std.specs.Prelude.{Result, Ok, Err}
use Rattle.table.specs.Fill.{tabulated}
use Rattle.table.specs.Refusals.{granted, refused, rung, number_in}
use Rattle.table.specs.Answers.{number_of_answer}
use Rattle.table.specs.declared.Refusal.{Refusal}
use Rattle.table.specs.declared.Refusal.TheVariants.{TagLength, WrongSignature, ReservedNotZero, FunctionType}
use Rattle.table.proofs.Fill.{length_tabulated}
use Rattle.icc.specs.Opening.{signature_of, reserved_of}
use Rattle.parametric.specs.Unify.{counted, unified}
use Rattle.parametric.specs.Promises.{value_of_unified, NewPromise}
use Rattle.parametric.specs.declared.ParametricCurve.{ParametricCurve}
use Rattle.parametric.proofs.Unify.{same_unified}
use Rattle.para.specs.declared.Numbers.{Numbers}
use Rattle.para.specs.Tag.{signature, type_of, reserved_after, count_of, tag_length, listed, raw_at, numbers_of}
use Rattle.para.specs.Promises.{tag_verdict, ReadPromise}
use Rattle.para.proofs.Counts.{five, count_most}
use Rattle.para.proofs.Places.{first_used}
use Rattle.para.proofs.Promises.{Granted, granted_read}
use Rattle.para_curve.specs.Promises.{nearest, CurvePromise}

-- a curve may have as many numbers as a type has
pub count_counted : (t : ℕ) → t ≤ 4 → counted (count_of t) ≡ true
unfolding count_of counted
count_counted = five (λ t. counted (count_of t) ≡ true) refl refl refl refl refl

module _ (b : List ℕ) where
  -- Where the tests refuse the tag, that refusal keeps the promise. [para_curve::read_parametric_curve]
  pub curve_refused : (why : Refusal) → tag_verdict b ≡ refused why → CurvePromise b (Err why)
  curve_refused why e = record { number = simp e; value = simp e }

  -- The floats that the curve is unified from are those of the numbers that are read.
  -- [para_curve::read_parametric_curve]
  pub floats_read : {n : ℕ} {m : Numbers} → Granted b n m
      → take n (map nearest (listed m)) ≡ tabulated (λ k. nearest (raw_at b k)) (count_of (type_of b))
  unfolding numbers_of
  floats_read g =
      rw (g.numbers, g.count) (first_used nearest (count_of (type_of b)) (raw_at b) (count_most (type_of b) g.known))

  -- What `new` answers to the tag's numbers keeps the promise, so that nothing is refused but the tag.
  -- [para_curve::read_parametric_curve]
  pub curve_granted : {n : ℕ} {m : Numbers} {r : Result ParametricCurve Refusal} → Granted b n m
      → NewPromise (take n (map nearest (listed m))) r → CurvePromise b r
  curve_granted {n} {m} g p =
      let params = tabulated (λ k. nearest (raw_at b k)) (count_of (type_of b)) in
      let many : counted (length params) ≡ true =
      ap counted (length_tabulated (λ k. nearest (raw_at b k)) (count_of (type_of b)))
      ∙ count_counted (type_of b) g.known in
      let q : NewPromise params _ = rw (floats_read g) at p in
      record {
        number = simp g.verdict (simp many at q.number);
        value = simp g.verdict (simp many at q.value);
      }

-- It carries the number that `read_para` carries. [para_curve::read_parametric_curve]
pub same_number : {b : List ℕ} {r : Result (ℕ × Numbers) Refusal} {s : Result ParametricCurve Refusal}
    → ReadPromise b r → CurvePromise b s
    → number_of_answer r ≡ number_of_answer s
same_number p q = p.number ∙ sym q.number

-- The curve is unified from the numbers that `read_para` reads. [para_curve::read_parametric_curve]
pub curve_read : {b : List ℕ} {n : ℕ} {m : Numbers} {s : Result ParametricCurve Refusal} → ReadPromise b (Ok (n, m))
    → CurvePromise b s
    → s ≡ Ok (unified (take n (map nearest (listed m))))
curve_read {b} {n} {m} {s} p q =
    let g = granted_read b (Ok (n, m)) p n m refl in
    let made : value_of_unified s ≡ unified (take n (map nearest (listed m))) =
    simp g.verdict at q.value ∙ ap unified (sym (floats_read b g)) in
    same_unified s (Ok (unified (take n (map nearest (listed m))))) (sym (same_number p q)) made

-- 7, for a count that no curve has, cannot arise, whatever the tests come to
no_seven : (p q r s t u : Bool)
    → number_in (rung p TagLength (rung q WrongSignature
    (rung r ReservedNotZero (rung s ReservedNotZero (rung t FunctionType (rung u TagLength granted)))))) ≡ 7 → ⊥
no_seven false q r s t u e = omega arith
no_seven true false r s t u e = omega arith
no_seven true true false s t u e = omega arith
no_seven true true true false t u e = omega arith
no_seven true true true true false u e = omega arith
no_seven true true true true true false e = omega arith
no_seven true true true true true true e = omega arith

-- It is never refused with 7. [para_curve::read_parametric_curve]
pub never_miscounted : {b : List ℕ} {r : Result ParametricCurve Refusal} → CurvePromise b r → number_of_answer r ≡ 7 → ⊥
unfolding tag_verdict
never_miscounted {b} p e =
    no_seven (leb 12 (length b)) (eqb (signature_of b) signature) (eqb (reserved_of b) 0) (eqb (reserved_after b) 0)
    (leb (type_of b) 4) (eqb (length b) (tag_length (count_of (type_of b))))
    (sym p.number ∙ e)

-- The promise names one answer.
pub curve_one : {b : List ℕ} {r s : Result ParametricCurve Refusal} → CurvePromise b r → CurvePromise b s → r ≡ s
curve_one {b} {r} {s} p q = same_unified r s (p.number ∙ sym q.number) (p.value ∙ sym q.value)
