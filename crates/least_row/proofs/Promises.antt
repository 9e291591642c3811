-- The promise can be met (`least_row_some`) and names one answer and one later state of its buffer, for refused calls
-- too. Whatever is lent, there is one numbered answer (`least_row_answer`), and a refused row leaves its buffer as it
-- was (`least_row_refused`). A granted one holds, entry by entry, what the single call answers. Assumes nothing.
use mathlib.Core.Path.{◌≡◌, ◌∙◌, refl, sym, ap}
use mathlib.Core.Logic.{⊎_elim, ◌↔◌}
use mathlib.Core.List.{List}
use Prim.Native.Nat.{ℕ, ◌≤◌, ◌<◌}
use native.Mathlib.Omega.{arith}
use lib.ListN.{length, get_or}
use lib.Dec.{eqb}
use Rattle.std.specs.Prelude.{Result, Ok, Err}
use Rattle.table.specs.Sizes.{sized}
use Rattle.table.specs.Order.{nondecreasing, Passed, last_entry}
use Rattle.table.specs.Refusals.{Verdict, granted, refused, if_granted}
use Rattle.table.specs.declared.Refusal.{Refusal}
use Rattle.table.specs.declared.Refusal.TheVariants.{TableLength, NotNondecreasing, AboveLast, OutputLength}
use Rattle.table.specs.declared.Drive.{Drive}
use Rattle.table.proofs.Choice.{below?}
use Rattle.table.proofs.Refusals.{rung_granted}
use Rattle.table.proofs.Answers.{same_done, done_by, done_number, done_is, done_granted, done_refused, sought_by}
use Rattle.table.proofs.Fill.{get_or_tabulated}
use Rattle.lookup.specs.Lookup.{looked_up}
use Rattle.least.specs.Least.{least_of}
use Rattle.least.specs.Promises.{least_verdict, LeastPromise}
use Rattle.least.proofs.Tables.{table_inside}
use Rattle.least.proofs.Promises.{least_answer, least_found, least_above}
use Rattle.least_row.specs.Promises.{least_row_at, least_row_of, least_row_verdict, LeastRowPromise}

-- The promise can be kept. [least_row::least_input_row]
pub least_row_some : (t values out : List ℕ) → LeastRowPromise t values out (done_by (least_row_verdict t values out))
    (if_granted (least_row_verdict t values out) (least_row_of t values) out)
least_row_some t values out = record { number = done_number (least_row_verdict t values out); after = refl }

module _ {t values out : List ℕ} where
  pub least_row_one : {r q : Result (Unit {0}) Refusal} {out' out'' : List ℕ} → LeastRowPromise t values out r out'
      → LeastRowPromise t values out q out'' → (r ≡ q) × (out' ≡ out'')
  least_row_one {r} {q} a b = (same_done r q (a.number ∙ sym b.number), a.after ∙ sym b.after)

  -- The answer is what the tests come to. [least_row::least_input_row]
  pub least_row_answer : {r : Result (Unit {0}) Refusal} {out' : List ℕ} → LeastRowPromise t values out r out'
      → r ≡ done_by (least_row_verdict t values out)
  least_row_answer a = done_is (least_row_verdict t values out) a.number

  -- A granted row's table has passed the tests of its length and its order. [least_row::least_input_row]
  pub least_row_passed : {out' : List ℕ} → LeastRowPromise t values out (Ok tt) out' → Passed t
  least_row_passed a =
      let w = done_granted (least_row_verdict t values out) a.number in
      let one = rung_granted (sized (length t)) TableLength _ w in
      let six = rung_granted (eqb (length out) (length values)) OutputLength _ one.1 in
      record { size = one.0; order = (rung_granted (nondecreasing t) NotNondecreasing granted six.1).0 }

  -- A granted row is the defined one. [least_row::least_input_row]
  pub least_row_granted : {out' : List ℕ} → LeastRowPromise t values out (Ok tt) out' → out' ≡ least_row_of t values
  least_row_granted a = a.after ∙ simp (done_granted (least_row_verdict t values out) a.number)

  -- A refused row leaves the output as it was. [least_row::least_input_row]
  pub least_row_refused : {why : Refusal} {out' : List ℕ}
      → LeastRowPromise t values out (Err why) out' → out' ≡ out
  least_row_refused {why} a = a.after ∙ simp (done_refused (least_row_verdict t values out) why a.number)

-- how a row writes the single call's answer
abbrev pub in_row : Result Drive Refusal → ℕ
in_row (Ok p) = p.0
in_row (Err why) = 65536

in_row_lem : (w : Verdict) (p : ℕ) → if_granted w p 65536 ≡ in_row (sought_by w p)
in_row_lem granted p = refl
in_row_lem (refused why) p = refl

-- A granted row holds at each place the single call's answer to the value there. [least_row::least_input_row]
pub row_is_single : {t values out out' : List ℕ} → LeastRowPromise t values out (Ok tt) out' → (i : ℕ)
    → i < length values → (r : Result Drive Refusal) → LeastPromise t (record { 0 = get_or values i 0 }) r
    → get_or out' i 0 ≡ in_row r
row_is_single {t} {values} a i h r b =
    ap (λ (l : List ℕ). get_or l i 0) (least_row_granted a)
    ∙ get_or_tabulated (least_row_at t values) (length values) i 0 h
    ∙ in_row_lem (least_verdict t (get_or values i 0)) (least_of (looked_up t) (get_or values i 0))
    ∙ ap in_row (sym (least_answer b))

-- In a granted row 65536 stands exactly where the single call is refused with 5. [least_row::least_input_row]
pub row_none : {t values out out' : List ℕ} → LeastRowPromise t values out (Ok tt) out' → (i : ℕ) → i < length values
    → (r : Result Drive Refusal) → LeastPromise t (record { 0 = get_or values i 0 }) r
    → (get_or out' i 0 ≡ 65536) ↔ (r ≡ Err AboveLast)
row_none {t} {values} {out} {out'} a i h r b = ⊎_elim above inside (below? (last_entry t) (get_or values i 0))
  where
    entry : get_or out' i 0 ≡ in_row r
    entry = row_is_single a i h r b

    above : last_entry t < get_or values i 0 → (get_or out' i 0 ≡ 65536) ↔ (r ≡ Err AboveLast)
    above l =
        let e = least_above (least_row_passed a) l b in
        ((λ _. e), (λ _. entry ∙ ap in_row e))

    inside : get_or values i 0 ≤ last_entry t → (get_or out' i 0 ≡ 65536) ↔ (r ≡ Err AboveLast)
    inside l =
        let e = least_found (least_row_passed a) l b in
        let p : get_or out' i 0 ≡ least_of (looked_up t) (get_or values i 0) = entry ∙ ap in_row e in (
          (λ n. absurd (omega (arith, p, table_inside (least_row_passed a) (get_or values i 0) l))),
          (λ f. let z : ◌≡◌ {A = ℕ} 0 1 = cc in absurd (omega arith)),
        )
