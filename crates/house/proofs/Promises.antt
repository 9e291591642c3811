-- Each promise names one answer and one later state; how each way out of the calls keeps its promise; and that an entry
-- asked for is the filled table's. Assumes nothing.
use mathlib.Core.Path.{◌≡◌, ◌∙◌, refl, sym}
use mathlib.Core.List.{List}
use Prim.Native.Nat.{ℕ, ◌≤◌, ◌<◌}
use native.Mathlib.Omega.{arith}
use borrow.Author.Tests.{le-leb, lt-leb, eq-eqb, ne_eqb}
use lib.ListN.{length, get_or}
use Rattle.std.specs.Prelude.{Result, Ok, Err}
use Rattle.table.specs.Refusals.{Verdict, granted, refused, when_granted}
use Rattle.table.specs.Answers.{value_of_looked}
use Rattle.table.specs.declared.Density.{Density}
use Rattle.table.specs.declared.Refusal.TheVariants.{IndexBeyond, OutputLength}
use Rattle.table.specs.declared.Refusal.{Refusal}
use Rattle.table.proofs.Answers.{same_looked, same_done}
use Rattle.house.specs.House.{IsEntry, IsHouse}
use Rattle.house.specs.Promises.{entry_verdict, EntryPromise, fill_verdict, FillPromise}
use Rattle.house.proofs.Rule.{one_entry, one_house}

one_value : (v : Verdict) (i a b : ℕ) → when_granted v (IsEntry i a) (a ≡ 0)
    → when_granted v (IsEntry i b) (b ≡ 0) → a ≡ b
one_value granted i a b p q = one_entry i a b p q
one_value (refused why) i a b p q = p ∙ sym q

one_after : (v : Verdict) (out a b : List ℕ) → when_granted v (IsHouse a) (a ≡ out)
    → when_granted v (IsHouse b) (b ≡ out) → a ≡ b
one_after granted out a b p q = one_house a b p q
one_after (refused why) out a b p q = p ∙ sym q

pub entry_one : (i : ℕ) (r s : Result Density Refusal) → EntryPromise i r → EntryPromise i s → r ≡ s
entry_one i r s p q =
    same_looked r s (p.number ∙ sym q.number)
    (one_value (entry_verdict i) i (value_of_looked r) (value_of_looked s) p.value q.value)

pub fill_one : (out : List ℕ) (r s : Result (Unit {0}) Refusal) (a b : List ℕ) → FillPromise out r a
    → FillPromise out s b
    → (r ≡ s) × (a ≡ b)
fill_one out r s a b p q = (
  same_done r s (p.number ∙ sym q.number),
  one_after (fill_verdict out) out a b p.after q.after,
)

module _ (i : ℕ) where
  pub entry_beyond : 1023 < i → EntryPromise i (Err IndexBeyond)
  entry_beyond h = record { number = simp (lt-leb i 1023 h); value = simp (lt-leb i 1023 h) refl }

  module _ (h : i ≤ 1023) where
    pub entry_given : (n : Density) → IsEntry i n.0 → EntryPromise i (Ok n)
    entry_given n p = record { number = simp (le-leb i 1023 h); value = simp (le-leb i 1023 h) p }

    -- For an index up to 1,023 the answer meets the rule. [house::entry]
    pub given_entry : (r : Result Density Refusal) → EntryPromise i r → IsEntry i (value_of_looked r)
    given_entry r p = simp (le-leb i 1023 h) at p.value

    -- For an index up to 1,023 the answer is the filled curve's entry. [house::entry]
    pub entry_of_house : (r : Result Density Refusal) (t : List ℕ) → EntryPromise i r → IsHouse t
        → value_of_looked r ≡ get_or t i 0
    entry_of_house r t p q = one_entry i (value_of_looked r) (get_or t i 0) (given_entry r p) (q.rule i (omega arith))

module _ (out out' : List ℕ) where
  pub fill_refused : (length out ≡ 1024 → ⊥) → out' ≡ out → FillPromise out (Err OutputLength) out'
  fill_refused n e = record { number = simp (ne_eqb (length out) 1024 n); after = simp (ne_eqb (length out) 1024 n) e }

  module _ (h : length out ≡ 1024) where
    pub fill_done : IsHouse out' → FillPromise out (Ok tt) out'
    fill_done p = record { number = simp (eq-eqb (length out) 1024 h); after = simp (eq-eqb (length out) 1024 h) p }

    -- A buffer of 1,024 entries holds the house curve after the call. [house::fill]
    pub given_house : (r : Result (Unit {0}) Refusal) → FillPromise out r out' → IsHouse out'
    given_house r p = simp (eq-eqb (length out) 1024 h) at p.after
