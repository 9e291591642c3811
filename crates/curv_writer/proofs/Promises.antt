-- How the promise is met, case by case; what an answer that keeps it tells; and that it names one answer and one later
-- state. Assumes nothing.
use mathlib.Core.Path.{◌≡◌, ◌∙◌, refl, sym}
use mathlib.Core.List.{List}
use Prim.Native.Nat.{ℕ, ◌≤◌, ◌<◌}
use borrow.Author.Tests.{le-leb, lt-leb, eq-eqb, ne_eqb, leb-true, eqb-true}
use lib.ListN.{length}
use Rattle.std.specs.Prelude.{Result, Ok, Err}
use Rattle.table.specs.Refusals.{granted, refused}
use Rattle.table.specs.declared.Refusal.{Refusal}
use Rattle.table.specs.declared.Refusal.TheVariants.{TableLength, OutputLength}
use Rattle.table.proofs.Refusals.{same_verdict, rung_granted}
use Rattle.table.proofs.Answers.{same_done}
use Rattle.curv.specs.Tag.{tag_length}
use Rattle.curv_writer.specs.Written.{tag_of}
use Rattle.curv_writer.specs.Promises.{write_verdict, WritePromise}

module _ (t out : List ℕ) where
  write_refusal : (why : Refusal) → write_verdict t out ≡ refused why → WritePromise t out (Err why) out
  write_refusal why e = record { number = simp e; after = simp e }

  -- Above 65,536 entries, refusing with 1 and leaving the buffer keeps the promise. [curv_writer::write_curv]
  pub write_many : 65536 < length t → WritePromise t out (Err TableLength) out
  write_many h = write_refusal TableLength (rw (lt-leb _ _ h) refl)

  -- With a buffer of another length, refusing with 6 and leaving it keeps the promise. [curv_writer::write_curv]
  pub write_misfit : length t ≤ 65536 → (length out ≡ tag_length (length t) → ⊥)
      → WritePromise t out (Err OutputLength) out
  write_misfit h n = write_refusal OutputLength (rw (le-leb _ _ h, ne_eqb _ _ n) refl)

  -- For at most 65,536 entries, a buffer of the tag's length that holds the tag keeps the promise.
  -- [curv_writer::write_curv]
  pub write_granted : (out' : List ℕ) → length t ≤ 65536 → length out ≡ tag_length (length t) → out' ≡ tag_of t
      → WritePromise t out (Ok tt) out'
  write_granted out' h n f =
      let g : write_verdict t out ≡ granted = rw (le-leb _ _ h, eq-eqb _ _ n) refl in
      record { number = simp g; after = simp g f }

  -- A granted write had at most 65,536 entries and a buffer of the tag's length, which then holds the tag.
  -- [curv_writer::write_curv]
  pub granted_write : {out' : List ℕ} → WritePromise t out (Ok tt) out'
      → (length t ≤ 65536) × (length out ≡ tag_length (length t)) × (out' ≡ tag_of t)
  granted_write p =
      let g : write_verdict t out ≡ granted = sym (same_verdict granted (write_verdict t out) p.number) in
      let v = rung_granted _ _ _ g in
      (leb-true _ _ v.0, eqb-true _ _ (rung_granted _ _ _ v.1).0, simp g at p.after)

pub write_one : {t out out' out'' : List ℕ} {r s : Result (Unit {0}) Refusal} → WritePromise t out r out'
    → WritePromise t out s out''
    → (r ≡ s) × (out' ≡ out'')
write_one {r = r} {s = s} p q = (same_done r s (p.number ∙ sym q.number), p.after ∙ sym q.after)
