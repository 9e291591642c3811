-- The violations of a direction: a walk over the table counts them, and a table has no falls exactly if it is
-- nondecreasing. Assumes nothing.
use mathlib.Core.Path.{◌≡◌, ◌∙◌, refl, sym, ap}
use mathlib.Core.Bool.{Bool, true, false}
use mathlib.Core.Logic.{⊎_elim}
use mathlib.Core.List.{List, [], ◌∷◌}
use Prim.Native.Nat.{ℕ, suc, ◌+◌, ◌-◌, ◌≤◌, ◌<◌, zero-le}
use native.Mathlib.Nat.{add-zero, zero-add, add_assoc, le_refl, le-suc, le_trans}
use native.Mathlib.Numerals.{add-one}
use native.Mathlib.Omega.{arith}
use borrow.Author.Tests.{lt-ltb, le-ltb, le-leb, leb-true}
use lib.ListN.{length, get_or, drop, drop_of_length-le}
use lib.Seq.{drop-cons}
use lib.Dec.{leb}
use Rattle.table.specs.Order.{nondecreasing, nondecreasing_from}
use Rattle.table.proofs.Choice.{both_left, both_right, below?}
use Rattle.monotonic.specs.Steps.{yes_no, against, violations_from, violations}
use Rattle.monotonic.specs.declared.Direction.{Direction}
use Rattle.monotonic.specs.declared.Direction.TheVariants.{Rising}

pub yes_no_few : (b : Bool) → yes_no b ≤ 1
yes_no_few true = le_refl 1
yes_no_few false = omega arith

-- there are no more violations than entries
few_from : (d : Direction) (x : ℕ) (l : List ℕ) → violations_from d x l ≤ length l
few_from d x [] = zero-le
few_from d x (y ∷ l) = omega (arith, yes_no_few (against d x y), few_from d y l)

-- There are at most as many violations as entries. [monotonic::is_curve_monotonic]
pub violations_few : (d : Direction) (t : List ℕ) → violations d t ≤ length t
violations_few d [] = zero-le
violations_few d (x ∷ l) = le_trans (few_from d x l) (le-suc (length l))

-- the walk after i entries: count has the violations among them, and the others are still to come
pub record Counted (d : Direction) (t : List ℕ) (count i : ℕ) : Type 0 where
  pub from : 1 ≤ i
  pub few : count < i
  pub sum : count + violations_from d (get_or t (i - 1) 0) (drop i t) ≡ violations d t

module _ (d : Direction) where
  first_step : (t : List ℕ) → violations_from d (get_or t 0 0) (drop 1 t) ≡ violations d t
  first_step [] = refl
  first_step (x ∷ l) = refl

  pub counted_start : (t : List ℕ) → Counted d t 0 1
  counted_start t =
      record { from = omega arith; few = omega arith; sum = zero-add _ ∙ first_step t }

  pub counted_on : (t : List ℕ) (count i : ℕ) → i < length t → Counted d t count i
      → Counted d t (count + yes_no (against d (get_or t (i - 1) 0) (get_or t i 0))) (i + 1)
  counted_on t count i h w =
      let step = yes_no (against d (get_or t (i - 1) 0) (get_or t i 0)) in
      let next : violations_from d (get_or t (i - 1) 0) (drop i t)
      ≡ step + violations_from d (get_or t i 0) (drop (suc i) t)
      = rw (drop-cons t i 0 h) refl in
      let back : i + 1 - 1 ≡ i = omega arith in
      record {
        from = omega arith;
        few = omega (arith, w.few, yes_no_few (against d (get_or t (i - 1) 0) (get_or t i 0)));
        sum = rw (back, add-one) (add_assoc count step _ ∙ ap (λ (n : ℕ). count + n) (sym next) ∙ w.sum);
      }

  pub counted_end : (t : List ℕ) (count i : ℕ) → length t ≤ i → Counted d t count i → count ≡ violations d t
  counted_end t count i h w =
      let none : count + violations_from d (get_or t (i - 1) 0) (drop i t) ≡ count
      = rw (drop_of_length-le t {i = i} h) (add-zero count) in
      sym none ∙ w.sum

-- Fewer than two entries have no neighbours, and no violation. [monotonic::is_curve_monotonic]
pub short_none : (d : Direction) (t : List ℕ) → length t < 2 → violations d t ≡ 0
short_none d [] h = refl
short_none d (x ∷ []) h = refl
short_none d (x ∷ (y ∷ l)) h = absurd (omega arith)

-- a table has no falls exactly where it is nondecreasing
no_falls_from : (x : ℕ) (l : List ℕ) → violations_from Rising x l ≡ 0 → nondecreasing_from x l ≡ true
no_falls_from x [] e = refl
no_falls_from x (y ∷ l) e =
    ⊎_elim
    (λ (lt : y < x). let z : 1 + violations_from Rising y l ≡ 0 = rw (lt-ltb y x lt) at e in absurd (omega arith))
    (λ (le : x ≤ y).
    let z : 0 + violations_from Rising y l ≡ 0 = rw (le-ltb y x le) at e in
    simp (le-leb x y le) (no_falls_from y l (sym (zero-add _) ∙ z)))
    (below? y x)

from_no_falls : (x : ℕ) (l : List ℕ) → nondecreasing_from x l ≡ true → violations_from Rising x l ≡ 0
from_no_falls x [] e = refl
from_no_falls x (y ∷ l) e =
    let le : x ≤ y = leb-true x y (both_left _ _ e) in
    rw (le-ltb y x le) (zero-add _ ∙ from_no_falls y l (both_right (leb x y) _ e))

-- A table without a violation of rising is nondecreasing. [monotonic::is_curve_monotonic]
pub no_falls : (t : List ℕ) → violations Rising t ≡ 0 → nondecreasing t ≡ true
no_falls [] e = refl
no_falls (x ∷ l) e = no_falls_from x l e

-- A nondecreasing table has no violation of rising. [monotonic::is_curve_monotonic]
pub nondecreasing_none : (t : List ℕ) → nondecreasing t ≡ true → violations Rising t ≡ 0
nondecreasing_none [] e = refl
nondecreasing_none (x ∷ l) e = from_no_falls x l e
