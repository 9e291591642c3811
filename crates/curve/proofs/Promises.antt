-- Each promise can be met (`start_some`, `accept_some`) and names one answer and one later sitting, for refused calls
-- too. Whatever table is lent, be it empty, of 65,537 entries or falling, there is one numbered answer (`start_answer`,
-- `accept_answer`), and a refused call leaves the table as it was (`start_refused`, `accept_same`). Also what each
-- answer tells. Assumes nothing.
use mathlib.Core.Path.{◌≡◌, ◌∙◌, refl, sym, ap}
use mathlib.Core.Bool.{true}
use lib.ListN.{length}
use Rattle.std.specs.Prelude.{Result, Ok, Err}
use Rattle.table.specs.Sizes.{sized, spanned}
use Rattle.table.specs.Order.{nondecreasing}
use Rattle.table.specs.Refusals.{granted, if_granted}
use Rattle.table.specs.declared.Refusal.{Refusal}
use Rattle.table.specs.declared.Refusal.TheVariants.{TableLength, NotNondecreasing}
use Rattle.table.proofs.Refusals.{rung_granted}
use Rattle.table.proofs.Answers.{same_done, done_by, done_number, done_is, done_granted, done_refused}
use Rattle.curve.specs.Ramp.{ramp_of}
use Rattle.curve.specs.Promises.{Sitting, sitting_on, start_verdict, StartPromise, accept_verdict, AcceptPromise}

-- The promise of start can be kept. [curve::start]
pub start_some : (s : Sitting) → StartPromise s (done_by (start_verdict s))
    (sitting_on (if_granted (start_verdict s) (ramp_of (length s.table)) s.table))
start_some s = record { number = done_number (start_verdict s); table = refl }

module _ {s : Sitting} where
  pub start_one : {r q : Result (Unit {0}) Refusal} {s' s'' : Sitting} → StartPromise s r s' → StartPromise s q s''
      → (r ≡ q) × (s' ≡ s'')
  start_one {r} {q} a b = (same_done r q (a.number ∙ sym b.number), ap sitting_on (a.table ∙ sym b.table))

  -- Start answers what its tests come to. [curve::start]
  pub start_answer : {r : Result (Unit {0}) Refusal} {s' : Sitting} → StartPromise s r s'
      → r ≡ done_by (start_verdict s)
  start_answer a = done_is (start_verdict s) a.number

  -- A granted start had 2 to 65,536 entries, and leaves the straight curve of so many. [curve::start]
  pub start_granted : {s' : Sitting} → StartPromise s (Ok tt) s'
      → (spanned (length s.table) ≡ true) × (s'.table ≡ ramp_of (length s.table))
  start_granted a =
      let w = done_granted (start_verdict s) a.number in
      ((rung_granted (spanned (length s.table)) TableLength granted w).0, a.table ∙ simp w)

  -- A refused start leaves the table as it was. [curve::start]
  pub start_refused : {why : Refusal} {s' : Sitting} → StartPromise s (Err why) s' → s' ≡ s
  start_refused {why} a = ap sitting_on (a.table ∙ simp (done_refused (start_verdict s) why a.number))

-- The promise of accept can be kept. [curve::accept]
pub accept_some : (s : Sitting) → AcceptPromise s (done_by (accept_verdict s)) s
accept_some s = record { number = done_number (accept_verdict s); table = refl }

module _ {s : Sitting} where
  pub accept_one : {r q : Result (Unit {0}) Refusal} {s' s'' : Sitting} → AcceptPromise s r s' → AcceptPromise s q s''
      → (r ≡ q) × (s' ≡ s'')
  accept_one {r} {q} a b = (same_done r q (a.number ∙ sym b.number), ap sitting_on (a.table ∙ sym b.table))

  -- Accept answers what its tests come to. [curve::accept]
  pub accept_answer : {r : Result (Unit {0}) Refusal} {s' : Sitting} → AcceptPromise s r s'
      → r ≡ done_by (accept_verdict s)
  accept_answer a = done_is (accept_verdict s) a.number

  -- Accept leaves the table as it was. [curve::accept]
  pub accept_same : {r : Result (Unit {0}) Refusal} {s' : Sitting} → AcceptPromise s r s' → s' ≡ s
  accept_same a = ap sitting_on a.table

  -- A granted accept had 1 to 65,536 entries, and these are nondecreasing. [curve::accept]
  pub accept_granted : {s' : Sitting} → AcceptPromise s (Ok tt) s'
      → (sized (length s.table) ≡ true) × (nondecreasing s.table ≡ true)
  accept_granted a =
      let w = rung_granted (sized (length s.table)) TableLength _ (done_granted (accept_verdict s) a.number) in
      (w.0, (rung_granted (nondecreasing s.table) NotNondecreasing granted w.1).0)
