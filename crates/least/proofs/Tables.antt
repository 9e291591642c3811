-- What the lookup's laws say of a table that has passed the tests: its lookup never falls, so every value that is not
-- above the last entry has a least input. And where in such a table a partition point lies. Assumes nothing.
use mathlib.Core.Path.{◌≡◌, ap}
use mathlib.Core.Bool.{true, false}
use mathlib.Core.Logic.{⊎_elim}
use mathlib.Core.List.{List}
use Prim.Native.Nat.{ℕ, ◌+◌, ◌-◌, ◌≤◌, ◌<◌, zero-le}
use native.Mathlib.Nat.{le_refl}
use native.Mathlib.Omega.{arith}
use borrow.Author.Tests.{ltb-true, ltb-false}
use lib.Dec.{ltb}
use lib.ListN.{length, get_or}
use Rattle.std.specs.List.Sorted.{IsNonDecreasingBy, IsPartitionPoint}
use Rattle.std.proofs.lemmas.List.{get_or_default}
use Rattle.table.specs.Order.{Nondecreasing, nondecreasing, Passed, last_entry}
use Rattle.table.specs.Sizes.{sized}
use Rattle.table.proofs.Sizes.{within_low, within_high}
use Rattle.table.proofs.Order.{test_fact}
use Rattle.table.proofs.Choice.{below?}
use Rattle.lookup.specs.Lookup.{looked_up}
use Rattle.lookup.proofs.LookupLaws.{looked_up_rises, looked_up_first, looked_up_last}
use Rattle.least.specs.Inside.{Searchable, FirstReaching}
use Rattle.least.specs.Least.{least_of, NeverFalls}
use Rattle.least.proofs.LeastLaws.{least_at, least_inside}

-- by its last index: the last entry, how large the index is, and the order of the entries
module _ {t : List ℕ} {top : ℕ} (s : Searchable t top) where
  pub searchable_last : get_or t top 0 ≡ last_entry t
  searchable_last =
      let i : top ≡ length t - 1 = omega arith in
      ap (λ (n : ℕ). get_or t n 0) i

  pub searchable_few : top ≤ 65535
  searchable_few = omega (arith, within_high 1 65536 (length t) s.passed.size)

  pub searchable_rises : (i j : ℕ) → i ≤ j → j ≤ top → get_or t i 0 ≤ get_or t j 0
  searchable_rises i j ij h = test_fact t s.passed.order i j ij (omega arith)

-- by the tests, and the last index worked out from the length
pub searchable : {t : List ℕ} {top : ℕ} → sized (length t) ≡ true → nondecreasing t ≡ true → length t ≡ top + 1
    → Searchable t top
searchable s o e = record { passed = record { size = s; order = o }; last = e }

-- the order of the entries, read with any default
pub table_sorted : (t : List ℕ) → nondecreasing t ≡ true → IsNonDecreasingBy (λ (x : ℕ). x) t
table_sorted t o i j d ij h =
    omega (arith, test_fact t o i j ij h, get_or_default t i d 0 (omega arith), get_or_default t j d 0 h)

-- where a partition point of the test `x < v` lies in a table that comes to v
pub partition_first : {t : List ℕ} {v i : ℕ} → sized (length t) ≡ true → i ≤ length t
    → IsPartitionPoint (λ (x : ℕ). ltb x v ≡ true) (λ (x : ℕ). ltb x v ≡ false) t i
    → v ≤ last_entry t → FirstReaching t v i
partition_first {t} {v} {i} s b p r =
    let before : (j : ℕ) → j < i → get_or t j 0 < v = λ j l. ltb-true _ _ (p.0 j 0 zero-le l) in
    let some : 1 ≤ length t = within_low 1 65536 (length t) s in
    let missing : length t ≤ i → ⊥ = λ e. omega (arith, before (length t - 1) (omega arith)) in
    let inside : i < length t = ⊎_elim (λ l. l) (λ e. absurd (missing e)) (below? i (length t)) in
    record { inside = inside; before = before; here = ltb-false _ _ (p.1 i 0 (le_refl i) inside) }

module _ {t : List ℕ} (s : Passed t) where
  pub by_last : Searchable t (length t - 1)
  by_last = record { passed = s; last = omega (arith, within_low 1 65536 (length t) s.size) }

  pub table_order : Nondecreasing t
  table_order = test_fact t s.order

  pub table_rises : NeverFalls (looked_up t)
  table_rises = looked_up_rises t s.size table_order

  -- so a value that is not above the last entry has a least input
  pub table_inside : (v : ℕ) → v ≤ last_entry t → least_of (looked_up t) v ≤ 65535
  table_inside v h = least_inside (looked_up t) v table_rises (omega (arith, looked_up_last t))

  -- and position 0 is that of a value not above the first
  pub table_first : (v : ℕ) → v ≤ get_or t 0 0 → least_of (looked_up t) v ≡ 0
  table_first v h =
      least_at (looked_up t) v table_rises 0 zero-le (omega (arith, looked_up_first t)) (λ q e. absurd (omega arith))
