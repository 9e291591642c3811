-- The promise of a nudge can be met (`nudge_some`) and names one answer and one later sitting, for refused calls too.
-- Whatever table is lent, be it empty, of 65,537 entries or falling, and whatever index and value are asked, there is
-- one numbered answer (`nudge_answer`), and a refused nudge leaves the table as it was (`nudge_refused`). Also what
-- each answer tells. Assumes nothing.
use mathlib.Core.Path.{◌≡◌, ◌∙◌, refl, sym, ap}
use mathlib.Core.Bool.{true}
use mathlib.Core.List.{List}
use Prim.Native.Nat.{ℕ, ◌<◌}
use borrow.Author.Tests.{ltb-true}
use lib.ListN.{length, get_or, set, length-set}
use lib.Seq.{get_or-set_same, get_or-set_other}
use lib.Dec.{ltb}
use Rattle.std.specs.Prelude.{Result, Ok, Err}
use Rattle.table.specs.Sizes.{sized}
use Rattle.table.specs.Order.{nondecreasing, suits}
use Rattle.table.specs.Refusals.{granted, if_granted}
use Rattle.table.specs.declared.Density.{Density}
use Rattle.table.specs.declared.Refusal.{Refusal}
use Rattle.table.specs.declared.Refusal.TheVariants.{TableLength, NotNondecreasing, IndexBeyond, OutsideNeighbours}
use Rattle.table.proofs.Refusals.{rung_granted}
use Rattle.table.proofs.Answers.{same_done, done_by, done_number, done_is, done_granted, done_refused}
use Rattle.curve.specs.Promises.{Sitting, sitting_on}
use Rattle.nudge.specs.Promises.{nudge_verdict, NudgePromise}

-- The promise can be kept. [nudge::nudge]
pub nudge_some : (s : Sitting) (i : ℕ) (v : Density) → NudgePromise s i v (done_by (nudge_verdict s i v.0))
    (sitting_on (if_granted (nudge_verdict s i v.0) (set s.table i v.0) s.table))
nudge_some s i v = record { number = done_number (nudge_verdict s i v.0); table = refl }

-- what a granted nudge has shown of the table and the value
pub record Nudgeable (t : List ℕ) (i v : ℕ) : Type 0 where
  pub size : sized (length t) ≡ true
  pub index : i < length t
  pub order : nondecreasing t ≡ true
  pub fitting : suits t i v ≡ true

module _ {s : Sitting} {i : ℕ} {v : Density} where
  pub nudge_one : {r q : Result (Unit {0}) Refusal} {s' s'' : Sitting} → NudgePromise s i v r s'
      → NudgePromise s i v q s''
      → (r ≡ q) × (s' ≡ s'')
  nudge_one {r} {q} a b = (same_done r q (a.number ∙ sym b.number), ap sitting_on (a.table ∙ sym b.table))

  -- A nudge answers what its tests come to. [nudge::nudge]
  pub nudge_answer : {r : Result (Unit {0}) Refusal} {s' : Sitting} → NudgePromise s i v r s'
      → r ≡ done_by (nudge_verdict s i v.0)
  nudge_answer a = done_is (nudge_verdict s i v.0) a.number

  -- A granted nudge has passed its tests, and leaves the table with that entry set. [nudge::nudge]
  pub nudge_granted : {s' : Sitting} → NudgePromise s i v (Ok tt) s'
      → Nudgeable s.table i v.0 × (s'.table ≡ set s.table i v.0)
  nudge_granted a =
      let w = done_granted (nudge_verdict s i v.0) a.number in
      let one = rung_granted (sized (length s.table)) TableLength _ w in
      let three = rung_granted (ltb i (length s.table)) IndexBeyond _ one.1 in
      let two = rung_granted (nondecreasing s.table) NotNondecreasing _ three.1 in
      let four = rung_granted (suits s.table i v.0) OutsideNeighbours granted two.1 in (
        record { size = one.0; index = ltb-true i (length s.table) three.0; order = two.0; fitting = four.0 },
        a.table ∙ simp w,
      )

  -- A refused nudge leaves the table as it was. [nudge::nudge]
  pub nudge_refused : {why : Refusal} {s' : Sitting} → NudgePromise s i v (Err why) s' → s' ≡ s
  nudge_refused {why} a = ap sitting_on (a.table ∙ simp (done_refused (nudge_verdict s i v.0) why a.number))

  -- A granted nudge sets the entry. [nudge::nudge]
  pub nudge_sets : {s' : Sitting} → NudgePromise s i v (Ok tt) s' → get_or s'.table i 0 ≡ v.0
  nudge_sets a =
      let g = nudge_granted a in
      ap (λ (t : List ℕ). get_or t i 0) g.1 ∙ get_or-set_same s.table i v.0 0 g.0.index

  -- Whatever the answer, no other entry changes. [nudge::nudge]
  pub nudge_others : (r : Result (Unit {0}) Refusal) {s' : Sitting} → NudgePromise s i v r s' → (j : ℕ) → (j ≡ i → ⊥)
      → get_or s'.table j 0 ≡ get_or s.table j 0
  nudge_others (Ok tt) a j h =
      ap (λ (t : List ℕ). get_or t j 0) (nudge_granted a).1 ∙ get_or-set_other s.table i j v.0 0 h
  nudge_others (Err why) a j h = ap (λ (q : Sitting). get_or q.table j 0) (nudge_refused a)

  -- Whatever the answer, the table keeps its length. [nudge::nudge]
  pub nudge_length : (r : Result (Unit {0}) Refusal) {s' : Sitting} → NudgePromise s i v r s'
      → length s'.table ≡ length s.table
  nudge_length (Ok tt) a = ap length (nudge_granted a).1 ∙ length-set s.table i v.0
  nudge_length (Err why) a = ap (λ (q : Sitting). length q.table) (nudge_refused a)
