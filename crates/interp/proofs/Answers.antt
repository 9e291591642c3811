-- Each promise names one answer, refused calls too. A NaN is one value here, whatever its bits. Assumes nothing.
use mathlib.Core.Path.{◌≡◌, ◌∙◌, sym}
use mathlib.Core.List.{List}
use Prim.Native.Nat.{ℕ}
use lib.Ieee.{Float}
use Rattle.std.specs.Prelude.{Result}
use Rattle.table.specs.Answers.{number_of_answer}
use Rattle.table.specs.declared.Refusal.{Refusal}
use Rattle.table.proofs.Answers.{same_answer}
use Rattle.interp.specs.Promises.{value_of_interpolated, FloatPromise, LinearPromise}

same_interpolated : (r s : Result Float Refusal) → number_of_answer r ≡ number_of_answer s
    → value_of_interpolated r ≡ value_of_interpolated s → r ≡ s
same_interpolated = same_answer value_of_interpolated (λ a b v. v)

pub float_one : {t : List Float} {x : Float} {r s : Result Float Refusal} → FloatPromise t x r
    → FloatPromise t x s → r ≡ s
float_one {t} {x} {r} {s} a b = same_interpolated r s (a.number ∙ sym b.number) (a.value ∙ sym b.value)

pub linear_one : {t : List ℕ} {x : Float} {r s : Result Float Refusal} → LinearPromise t x r
    → LinearPromise t x s → r ≡ s
linear_one {t} {x} {r} {s} a b = same_interpolated r s (a.number ∙ sym b.number) (a.value ∙ sym b.value)
