-- Each promise names one answer and one later state of its buffer, refused calls too. Assumes nothing.
use mathlib.Core.Path.{◌≡◌, ◌∙◌, sym}
use mathlib.Core.List.{List}
use Prim.Native.Nat.{ℕ}
use Rattle.std.specs.Prelude.{Result}
use Rattle.table.specs.declared.Refusal.{Refusal}
use Rattle.table.proofs.Answers.{same_done}
use Rattle.rows.specs.Promises.{RowPromise, BakePromise}

pub row_one : {t positions out out' out'' : List ℕ} {r s : Result (Unit {0}) Refusal}
    → RowPromise t positions out r out'
    → RowPromise t positions out s out'' → (r ≡ s) × (out' ≡ out'')
row_one {r = r} {s = s} a b = (same_done r s (a.number ∙ sym b.number), a.after ∙ sym b.after)

pub bake_one : {t out out' out'' : List ℕ} {r s : Result (Unit {0}) Refusal} → BakePromise t out r out'
    → BakePromise t out s out''
    → (r ≡ s) × (out' ≡ out'')
bake_one {r = r} {s = s} a b = (same_done r s (a.number ∙ sym b.number), a.after ∙ sym b.after)
