-- The test `nondecreasing` and the fact `Nondecreasing`, each from the other; a walk over a table that makes the test;
-- and what holds after one entry is set. Assumes nothing.
use mathlib.Core.Path.{◌≡◌, ◌∙◌, refl, sym, ap, subst}
use mathlib.Core.Logic.{⊎_elim}
use mathlib.Core.Bool.{Bool, true, false, not, ◌||◌}
use mathlib.Core.List.{List, [], ◌∷◌}
use Prim.Native.Nat.{ℕ, zero, suc, ◌+◌, ◌-◌, ◌≤◌, ◌<◌, zero-le, suc-le-suc}
use native.Mathlib.Nat.{le_refl, le_trans, le_of_suc-le-suc, not-suc-le-zero, le-suc}
use native.Mathlib.Numerals.{add-one}
use native.Mathlib.Omega.{arith}
use borrow.Author.Tests.{leb-true, le-leb, lt-leb, lt-ltb, le-ltb}
use lib.ListN.{length, get_or, set, drop, length-set, drop_of_length-le}
use lib.Seq.{drop-cons, get_or-set_same, get_or-set_other, set_out}
use lib.Dec.{leb, ltb}
use Rattle.table.specs.Choice.{both}
use Rattle.table.specs.Order.{nondecreasing_from, nondecreasing, Nondecreasing, SixteenBits, not_below_left}
use Rattle.table.specs.Order.{not_above_right, suits}
use Rattle.table.proofs.Choice.{both_left, both_right, same?, below?}

-- x is above no entry after it
not_above : (x : ℕ) (l : List ℕ) → nondecreasing_from x l ≡ true → (i : ℕ) → i < length l → x ≤ get_or l i 0
not_above x [] e i h = absurd (not-suc-le-zero h)
not_above x (y ∷ l) e zero h = leb-true x y (both_left _ _ e)
not_above x (y ∷ l) e (suc i) h =
    le_trans (leb-true x y (both_left _ _ e)) (not_above y l (both_right (leb x y) _ e) i (le_of_suc-le-suc h))

from_test : (x : ℕ) (l : List ℕ) → nondecreasing_from x l ≡ true → Nondecreasing (x ∷ l)
from_test x l e zero zero ij h = le_refl x
from_test x l e zero (suc j) ij h = not_above x l e j (le_of_suc-le-suc h)
from_test x l e (suc i) zero ij h = absurd (not-suc-le-zero ij)
from_test x [] e (suc i) (suc j) ij h = absurd (not-suc-le-zero (le_of_suc-le-suc h))
from_test x (y ∷ l) e (suc i) (suc j) ij h =
    from_test y l (both_right (leb x y) _ e) i j (le_of_suc-le-suc ij) (le_of_suc-le-suc h)

-- Where the test holds, of any two entries the later is not below the earlier. [table::in_order]
pub test_fact : (t : List ℕ) → nondecreasing t ≡ true → Nondecreasing t
test_fact [] e i j ij h = absurd (not-suc-le-zero h)
test_fact (x ∷ l) e i j ij h = from_test x l e i j ij h

-- each entry is not above the next
abbrev pub Neighbourly : List ℕ → Type 0
Neighbourly t = (i : ℕ) → suc i < length t → get_or t i 0 ≤ get_or t (suc i) 0

to_test : (x : ℕ) (l : List ℕ) → Neighbourly (x ∷ l) → nondecreasing_from x l ≡ true
to_test x [] f = refl
to_test x (y ∷ l) f =
    simp (le-leb x y (f 0 (suc-le-suc (suc-le-suc zero-le)))) (to_test y l (λ i h. f (suc i) (suc-le-suc h)))

-- Neighbours in order are enough for the test. [table::in_order]
pub neighbours_test : (t : List ℕ) → Neighbourly t → nondecreasing t ≡ true
neighbours_test [] f = refl
neighbours_test (x ∷ l) f = to_test x l f

-- Where of any two entries the later is not below the earlier, the test holds. [table::in_order]
pub fact_test : (t : List ℕ) → Nondecreasing t → nondecreasing t ≡ true
fact_test t R = neighbours_test t (λ i h. R i (suc i) (le-suc i) h)

-- A walk over the table that never stops before its end: whether one of the first i entries is below the one before it,
-- and what is left to test after them, make the whole test.
pub record Walked (t : List ℕ) (fallen : Bool) (i : ℕ) : Type 0 where
  pub from : 1 ≤ i
  pub rest : both (not fallen) (nondecreasing_from (get_or t (i - 1) 0) (drop i t)) ≡ nondecreasing t

pub walk_start : (t : List ℕ) → Walked t false 1
walk_start t = record { from = le_refl 1; rest = first t }
  where
    first : (t : List ℕ) → nondecreasing_from (get_or t 0 0) (drop 1 t) ≡ nondecreasing t
    first [] = refl
    first (x ∷ l) = refl

-- the step from x to y, before a rest of the test
one_more : (fallen : Bool) (x y : ℕ) (rest : Bool)
    → both (not (fallen || ltb y x)) rest ≡ both (not fallen) (both (leb x y) rest)
one_more true x y rest = refl
one_more false x y rest =
    ⊎_elim
    (λ (l : y < x). simp (lt-ltb y x l, lt-leb x y l))
    (λ (l : x ≤ y). simp (le-ltb y x l, le-leb x y l))
    (below? y x)

pub walk_on : (t : List ℕ) (fallen : Bool) (i : ℕ) → i < length t → Walked t fallen i
    → Walked t (fallen || ltb (get_or t i 0) (get_or t (i - 1) 0)) (i + 1)
walk_on t fallen i h w =
    let x = get_or t (i - 1) 0 in
    let y = get_or t i 0 in
    let left = nondecreasing_from y (drop (suc i) t) in
    let next : nondecreasing_from x (drop i t) ≡ both (leb x y) left = rw (drop-cons t i 0 h) refl in
    let back : i + 1 - 1 ≡ i = omega arith in
    record {
      from = omega arith;
      rest = rw (back, add-one) (one_more fallen x y left ∙ ap (both (not fallen)) (sym next) ∙ w.rest);
    }

pub walk_end : (t : List ℕ) (fallen : Bool) (i : ℕ) → length t ≤ i → Walked t fallen i → not fallen ≡ nondecreasing t
walk_end t fallen i h w =
    let none : both (not fallen) (nondecreasing_from (get_or t (i - 1) 0) (drop i t)) ≡ not fallen
    = rw (drop_of_length-le t {i = i} h) (alone (not fallen)) in
    sym none ∙ w.rest
  where
    alone : (b : Bool) → both b true ≡ b
    alone true = refl
    alone false = refl

-- What each neighbour's test is, by whether there is one.
module _ (t : List ℕ) (i x : ℕ) where
  pub left_none : i ≡ 0 → not_below_left t i x ≡ true
  unfolding not_below_left
  left_none h = simp (le-ltb 0 i (omega arith))

  pub left_is : 0 < i → not_below_left t i x ≡ leb (get_or t (i - 1) 0) x
  unfolding not_below_left
  left_is h = simp (lt-ltb 0 i h)

  pub right_none : length t ≤ i + 1 → not_above_right t i x ≡ true
  unfolding not_above_right
  right_none h = simp (le-ltb (i + 1) (length t) h)

  pub right_is : i + 1 < length t → not_above_right t i x ≡ leb x (get_or t (i + 1) 0)
  unfolding not_above_right
  right_is h = simp (lt-ltb (i + 1) (length t) h)

-- Setting entry i to an x that suits keeps a nondecreasing table nondecreasing: of each two neighbours either is x, or
-- neither is.
module _ (t : List ℕ) (i x : ℕ) (R : Nondecreasing t) (h : i < length t) (s : suits t i x ≡ true) where
  left_le : 0 < i → get_or t (i - 1) 0 ≤ x
  left_le p = leb-true _ x (sym (left_is t i x p) ∙ both_left (not_below_left t i x) (not_above_right t i x) s)

  le_right : i + 1 < length t → x ≤ get_or t (i + 1) 0
  le_right p = leb-true x _ (sym (right_is t i x p) ∙ both_right (not_below_left t i x) (not_above_right t i x) s)

  step : (j : ℕ) → suc j < length t → get_or (set t i x) j 0 ≤ get_or (set t i x) (suc j) 0
  step j p = ⊎_elim here (λ n. ⊎_elim (next n) (off n) (same? (suc j) i)) (same? j i)
    where
      here : j ≡ i → get_or (set t i x) j 0 ≤ get_or (set t i x) (suc j) 0
      here e =
          let a : get_or (set t i x) j 0 ≡ x = rw e (get_or-set_same t i x 0 h) in
          let b : get_or (set t i x) (suc j) 0 ≡ get_or t (suc j) 0 =
          get_or-set_other t i (suc j) x 0 (λ q. omega arith) in
          let c : i + 1 ≡ suc j = omega arith in
          omega (arith, le_right (omega arith), ap (λ (n : ℕ). get_or t n 0) c)

      next : (j ≡ i → ⊥) → suc j ≡ i → get_or (set t i x) j 0 ≤ get_or (set t i x) (suc j) 0
      next n e =
          let a : get_or (set t i x) (suc j) 0 ≡ x = rw e (get_or-set_same t i x 0 h) in
          let b : get_or (set t i x) j 0 ≡ get_or t j 0 = get_or-set_other t i j x 0 n in
          let c : i - 1 ≡ j = omega arith in
          omega (arith, left_le (omega arith), ap (λ (n : ℕ). get_or t n 0) c)

      off : (j ≡ i → ⊥) → (suc j ≡ i → ⊥) → get_or (set t i x) j 0 ≤ get_or (set t i x) (suc j) 0
      off n m =
          omega (arith, get_or-set_other t i j x 0 n, get_or-set_other t i (suc j) x 0 m, R j (suc j) (omega arith) p)

  pub set_test : nondecreasing (set t i x) ≡ true
  set_test = neighbours_test (set t i x) (λ j p. step j (subst (λ (n : ℕ). suc j < n) (length-set t i x) p))

  -- Setting an entry that fits between its neighbours keeps a table nondecreasing. [table, nudge::nudge]
  pub set_keeps_order : Nondecreasing (set t i x)
  set_keeps_order = test_fact (set t i x) set_test

-- Setting an entry to a 16-bit number keeps every entry 16 bits wide. [table]
pub set_keeps_bits : (t : List ℕ) (i x : ℕ) → SixteenBits t → x < 65536 → SixteenBits (set t i x)
set_keeps_bits t i x b h j = ⊎_elim here (λ n. omega (arith, get_or-set_other t i j x 0 n, b j)) (same? j i)
  where
    inside : i < length t → get_or (set t i x) i 0 < 65536
    inside l = rw (get_or-set_same t i x 0 l) h

    outside : length t ≤ i → get_or (set t i x) i 0 < 65536
    outside l = rw (set_out t i x l) (b i)

    here : j ≡ i → get_or (set t i x) j 0 < 65536
    here e = rw e (⊎_elim inside outside (below? i (length t)))
