-- How a reading's promise is met, case by case; what an answer that keeps it tells; and that it names one answer and
-- one later state. Assumes nothing.
use mathlib.Core.Path.{◌≡◌, ◌∙◌, refl, sym, ap}
use mathlib.Core.List.{List}
use Prim.Native.Nat.{ℕ}
use native.Mathlib.Omega.{arith}
use borrow.Author.Tests.{eq-eqb, ne_eqb, eqb-true}
use lib.ListN.{length}
use Rattle.std.specs.Prelude.{Result, Ok, Err}
use Rattle.table.specs.Refusals.{Verdict, granted, refused, and_then}
use Rattle.table.specs.Fill.{tabulated}
use Rattle.table.specs.declared.Refusal.{Refusal}
use Rattle.table.specs.declared.Refusal.TheVariants.{OutputLength}
use Rattle.table.proofs.Refusals.{same_verdict, rung_granted}
use Rattle.table.proofs.Answers.{same_done}
use Rattle.curv.specs.Tag.{count_of, entry_at, entries_of}
use Rattle.curv.specs.Promises.{tag_verdict}
use Rattle.curv.proofs.Promises.{verdict_number, verdict_gives}
use Rattle.curv_reader.specs.Promises.{read_verdict, ReadPromise}

and_then_granted : (v w : Verdict) → and_then v w ≡ granted → (v ≡ granted) × (w ≡ granted)
and_then_granted granted w e = (refl, e)
and_then_granted (refused why) w e = let z : ◌≡◌ {A = ℕ} 0 1 = cc in absurd (omega arith)

module _ (b out : List ℕ) where
  read_refusal : (why : Refusal) → read_verdict b out ≡ refused why → ReadPromise b out (Err why) out
  read_refusal why e = record { number = verdict_number e; after = verdict_gives (entries_of b) out e }

  -- Where the tests refuse the tag, that refusal and the buffer as it was keep the promise. [curv_reader::read_curv]
  pub read_refused : (why : Refusal) → tag_verdict b ≡ refused why → ReadPromise b out (Err why) out
  read_refused why e = read_refusal why (rw e refl)

  -- With a buffer of another length, refusing with 6 and leaving it keeps the promise. [curv_reader::read_curv]
  pub read_misfit : tag_verdict b ≡ granted → (length out ≡ count_of b → ⊥)
      → ReadPromise b out (Err OutputLength) out
  read_misfit e n = read_refusal OutputLength (rw (e, ne_eqb _ _ n) refl)

  -- Where the tests pass, a buffer of the tag's count that holds its entries keeps the promise.
  -- [curv_reader::read_curv]
  pub read_granted : (out' : List ℕ) → tag_verdict b ≡ granted → length out ≡ count_of b
      → out' ≡ tabulated (entry_at b) (length out) → ReadPromise b out (Ok tt) out'
  read_granted out' e n f =
      let g : read_verdict b out ≡ granted = rw (e, eq-eqb _ _ n) refl in
      record {
        number = verdict_number g;
        after = f ∙ ap (tabulated (entry_at b)) n ∙ verdict_gives (entries_of b)
            out g;
      }

  -- A granted read had a tag that passes the tests and a buffer of its count, which then holds its entries.
  -- [curv_reader::read_curv]
  pub granted_read : {out' : List ℕ} → ReadPromise b out (Ok tt) out'
      → (tag_verdict b ≡ granted) × (length out ≡ count_of b) × (out' ≡ entries_of b)
  granted_read p =
      let g : read_verdict b out ≡ granted = sym (same_verdict granted (read_verdict b out) p.number) in
      let v = and_then_granted (tag_verdict b) _ g in
      (v.0, eqb-true _ _ (rung_granted _ _ _ v.1).0, p.after ∙ verdict_gives (entries_of b) out (sym g))

-- The promise names one answer and one later state.
pub read_one : {b out out' out'' : List ℕ} {r s : Result (Unit {0}) Refusal} → ReadPromise b out r out'
    → ReadPromise b out s out''
    → (r ≡ s) × (out' ≡ out'')
read_one {r = r} {s = s} p q = (same_done r s (p.number ∙ sym q.number), p.after ∙ sym q.after)
