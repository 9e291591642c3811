-- The promise can be met (`least_some`) and names one answer, for refused calls too. Whatever table is lent, be it
-- empty, of 65,537 entries or falling, and whatever value is asked, there is one numbered answer (`least_answer`). Also
-- what it tells by the table and the value. Assumes nothing.
use mathlib.Core.Path.{◌≡◌, ◌∙◌, sym}
use mathlib.Core.List.{List}
use Prim.Native.Nat.{ℕ, ◌≤◌, ◌<◌}
use borrow.Author.Tests.{le-leb, lt-leb}
use Rattle.std.specs.Prelude.{Result, Ok, Err}
use Rattle.table.specs.declared.Density.{Density}
use Rattle.table.specs.declared.Refusal.TheVariants.{AboveLast}
use Rattle.table.proofs.Answers.{same_sought, sought_by, sought_number, sought_value, sought_is}
use Rattle.lookup.specs.Lookup.{looked_up}
use Rattle.least.specs.Least.{least_of}
use Rattle.table.specs.Order.{Passed, last_entry}
use Rattle.table.specs.declared.Drive.{Drive}
use Rattle.table.specs.declared.Refusal.{Refusal}
use Rattle.least.specs.Promises.{least_verdict, LeastPromise}

-- The promise can be kept. [least::least_input]
pub least_some : (t : List ℕ) (v : Density)
    → LeastPromise t v (sought_by (least_verdict t v.0) (least_of (looked_up t) v.0))
least_some t v =
    record { number = sought_number (least_verdict t v.0) _; value = sought_value (least_verdict t v.0) _ }

module _ {t : List ℕ} {v : Density} where
  pub least_one : {r q : Result Drive Refusal} → LeastPromise t v r → LeastPromise t v q → r ≡ q
  least_one {r} {q} a b = same_sought r q (a.number ∙ sym b.number) (a.value ∙ sym b.value)

  -- The answer is what the tests come to, and the least input where they grant it. [least::least_input]
  pub least_answer : {r : Result Drive Refusal} → LeastPromise t v r
      → r ≡ sought_by (least_verdict t v.0) (least_of (looked_up t) v.0)
  least_answer a = sought_is (least_verdict t v.0) (least_of (looked_up t) v.0) a.number a.value

  -- In a table that passes the tests a value up to the last entry is answered by its least input. [least::least_input]
  pub least_found : {r : Result Drive Refusal} → Passed t → v.0 ≤ last_entry t → LeastPromise t v r
      → r ≡ Ok (record { 0 = least_of (looked_up t) v.0 })
  least_found s h a = least_answer a ∙ simp (s.size, s.order, le-leb _ _ h)

  -- In a table that passes the tests a value above the last entry is refused with 5. [least::least_input]
  pub least_above : {r : Result Drive Refusal} → Passed t → last_entry t < v.0 → LeastPromise t v r → r ≡ Err AboveLast
  least_above s h a = least_answer a ∙ simp (s.size, s.order, lt-leb _ _ h)
