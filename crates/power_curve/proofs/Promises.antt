-- Each promise can be met (`power_some`, `power_table_some`) and names one answer and one later buffer, for refused
-- calls too; and what it tells whoever knows that n and the exponent are within their ranges. Assumes nothing.
use mathlib.Core.Path.{◌≡◌, ◌∙◌, refl, sym}
use mathlib.Core.Bool.{true}
use mathlib.Core.List.{List}
use Prim.Native.Nat.{ℕ}
use borrow.Author.Tests.{eq-eqb}
use lib.ListN.{length}
use Rattle.std.specs.Prelude.{Result, Ok}
use Rattle.table.specs.Sizes.{spanned}
use Rattle.table.specs.Refusals.{if_granted}
use Rattle.table.specs.Answers.{number_of_answer, value_of_looked}
use Rattle.table.specs.declared.Drive.{Drive}
use Rattle.table.specs.declared.Density.{Density}
use Rattle.table.specs.declared.Refusal.{Refusal}
use Rattle.table.proofs.Answers.{same_looked, looked_by, looked_number, looked_value, same_done, done_by, done_number}
use Rattle.power_curve.specs.Curve.{value_at, table_of}
use Rattle.power_curve.specs.Promises.{allowed_exponent, power_verdict, PowerPromise, power_table_verdict}
use Rattle.power_curve.specs.Promises.{PowerTablePromise}

-- The promise can be kept. [power_curve::power, power_curve::tag_power]
pub power_some : (x : Drive) (p : ℕ) → PowerPromise x p (looked_by (power_verdict p) (value_at p x.0))
power_some x p = record { number = looked_number (power_verdict p) _; value = looked_value (power_verdict p) _ }

module _ {x : Drive} {p : ℕ} where
  pub power_one : {r s : Result Density Refusal} → PowerPromise x p r → PowerPromise x p s → r ≡ s
  power_one {r} {s} a b = same_looked r s (a.number ∙ sym b.number) (a.value ∙ sym b.value)

  -- An exponent in its range is granted, and the answer is the defined value. [power_curve::power,
  -- power_curve::tag_power]
  pub power_granted : {r : Result Density Refusal} → allowed_exponent p ≡ true → PowerPromise x p r →
      (number_of_answer r ≡ 0) × (value_of_looked r ≡ value_at p x.0)
  power_granted h a = (a.number ∙ simp h, a.value ∙ simp h)

-- The promise can be kept. [power_curve::power_table, power_curve::tag_power_table]
pub power_table_some : (out : List ℕ) (n p : ℕ) →
    PowerTablePromise out n p (done_by (power_table_verdict out n p))
    (if_granted (power_table_verdict out n p) (table_of p n) out)
power_table_some out n p = record { number = done_number (power_table_verdict out n p); after = refl }

module _ {out : List ℕ} {n p : ℕ} where
  pub power_table_one : {r s : Result (Unit {0}) Refusal} {t u : List ℕ} → PowerTablePromise out n p r t
      → PowerTablePromise out n p s u →
      (r ≡ s) × (t ≡ u)
  power_table_one {r} {s} a b = (same_done r s (a.number ∙ sym b.number), a.after ∙ sym b.after)

  -- With n, exponent and output as they must be it is granted, and the output is the curve. [power_curve::power_table,
  -- power_curve::tag_power_table]
  pub power_table_granted : {r : Result (Unit {0}) Refusal} {t : List ℕ} → spanned n ≡ true → allowed_exponent p ≡ true
      → length out ≡ n →
      PowerTablePromise out n p r t → (r ≡ Ok tt) × (t ≡ table_of p n)
  power_table_granted {r} h k l a =
      let e = eq-eqb (length out) n l in
      (same_done r (Ok tt) (a.number ∙ simp (h, k, e)), a.after ∙ simp (h, k, e))
