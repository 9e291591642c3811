-- How the promise is met, case by case; what an answer that keeps it tells; and that it names one answer and one later
-- state. Assumes nothing.
use mathlib.Core.Path.{◌≡◌, ◌∙◌, refl, sym, ap}
use mathlib.Core.List.{List, ◌++◌}
use Prim.Native.Nat.{ℕ, ◌<◌, ◌≤◌}
use borrow.Author.Tests.{le-leb, lt-leb, eq-eqb, ne_eqb, leb-true}
use lib.ListN.{length, take}
use Rattle.std.specs.Prelude.{Result, Ok, Err}
use Rattle.table.specs.Refusals.{granted, refused}
use Rattle.table.specs.declared.Refusal.{Refusal}
use Rattle.table.specs.declared.Refusal.TheVariants.{OutputLength, FunctionType}
use Rattle.table.proofs.Refusals.{same_verdict, rung_granted}
use Rattle.table.proofs.Answers.{same_done}
use Rattle.icc.specs.Bytes.{bytes32}
use Rattle.icc.specs.Words.{in_turn}
use Rattle.para.specs.declared.Numbers.{Numbers}
use Rattle.para.specs.Tag.{count_of, tag_length}
use Rattle.para_writer.specs.Written.{head, patterns, tag_of}
use Rattle.para_writer.specs.Promises.{write_verdict, WritePromise}

module _ (t : ℕ) (m : Numbers) (out : List ℕ) where
  write_refusal : (why : Refusal) → write_verdict t out ≡ refused why → WritePromise t m out (Err why) out
  write_refusal why e = record { number = simp e; after = simp e }

  -- For a type above 4, refusing with 11 and leaving the buffer keeps the promise. [para_writer::write_para]
  pub write_untyped : 4 < t → WritePromise t m out (Err FunctionType) out
  write_untyped h = write_refusal FunctionType (rw (lt-leb _ _ h) refl)

  -- With a buffer of another length, refusing with 6 and leaving it keeps the promise. [para_writer::write_para]
  pub write_misfit : t ≤ 4 → (length out ≡ tag_length (count_of t) → ⊥)
      → WritePromise t m out (Err OutputLength) out
  write_misfit h n = write_refusal OutputLength (rw (le-leb _ _ h, ne_eqb _ _ n) refl)

  -- For a type of at most 4, a buffer of the tag's length that holds the tag keeps the promise.
  -- [para_writer::write_para]
  pub write_granted : {out' : List ℕ} → t ≤ 4 → length out ≡ tag_length (count_of t) → out' ≡ tag_of t m
      → WritePromise t m out (Ok tt) out'
  write_granted h e f =
      let g : write_verdict t out ≡ granted = rw (le-leb _ _ h, eq-eqb _ _ e) refl in
      record { number = simp g; after = simp g f }

  -- n being the count that t has, by a head and the numbers after it
  pub write_done : {first out' : List ℕ} {n : ℕ} → t ≤ 4 → n ≡ count_of t → length out ≡ tag_length n
      → first ≡ head t → out' ≡ first ++ in_turn bytes32 (take n (patterns m)) → WritePromise t m out (Ok tt) out'
  write_done {n = n} h count room f e =
      write_granted h (room ∙ ap tag_length count)
      (e
      ∙ ap (λ (l : List ℕ). l ++ in_turn bytes32 (take n (patterns m))) f
      ∙ ap (λ (k : ℕ). head t ++ in_turn bytes32 (take k (patterns m))) count)

  -- A granted write had a type of at most 4, and its buffer then holds the tag. [para_writer::write_para]
  pub granted_write : {out' : List ℕ} → WritePromise t m out (Ok tt) out' → (t ≤ 4) × (out' ≡ tag_of t m)
  granted_write p =
      let g : write_verdict t out ≡ granted = sym (same_verdict granted (write_verdict t out) p.number) in
      (leb-true _ _ (rung_granted _ _ _ g).0, simp g at p.after)

pub write_one : {t : ℕ} {m : Numbers} {out out' out'' : List ℕ} {r s : Result (Unit {0}) Refusal}
    → WritePromise t m out r out'
    → WritePromise t m out s out'' → (r ≡ s) × (out' ≡ out'')
write_one {r = r} {s = s} p q = (same_done r s (p.number ∙ sym q.number), p.after ∙ sym q.after)
