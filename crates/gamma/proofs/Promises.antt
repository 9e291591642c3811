-- The promise names one answer, refused calls too. Assumes nothing.
use mathlib.Core.Path.{◌≡◌, ◌∙◌, sym}
use mathlib.Core.List.{List}
use Prim.Native.Nat.{ℕ}
use Rattle.std.specs.Prelude.{Result}
use Rattle.table.specs.Answers.{number_of_answer}
use Rattle.table.specs.declared.Refusal.{Refusal}
use Rattle.table.proofs.Answers.{same_answer}
use Rattle.gamma.specs.Promises.{value_of_coded, GammaPromise}

same_coded : (r s : Result ℕ Refusal) → number_of_answer r ≡ number_of_answer s
    → value_of_coded r ≡ value_of_coded s → r ≡ s
same_coded = same_answer value_of_coded (λ a b v. v)

pub gamma_one : {t : List ℕ} {N depth x : ℕ} {r s : Result ℕ Refusal} → GammaPromise t N depth x r
    → GammaPromise t N depth x s → r ≡ s
gamma_one {t} {N} {depth} {x} {r} {s} a b = same_coded r s (a.number ∙ sym b.number) (a.value ∙ sym b.value)
