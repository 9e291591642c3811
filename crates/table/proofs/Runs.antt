-- A run of equal entries: what it is, the loop that counts it, and a table read from its end. Assumes nothing.
use mathlib.Core.Path.{◌≡◌, ◌∙◌, refl, ap}
use mathlib.Core.Bool.{Bool, true, false, cond}
use mathlib.Core.Logic.{⊎_elim}
use mathlib.Core.List.{List, [], ◌∷◌, reverse, reverse-cons}
use Prim.Native.Nat.{ℕ, zero, suc, ◌+◌, ◌-◌, ◌≤◌, ◌<◌, zero-le}
use native.Mathlib.Nat.{not-suc-le-zero, le_of_suc-le-suc, le_antisymm}
use native.Mathlib.Omega.{arith}
use borrow.Author.Count.{below_more}
use borrow.Author.Tests.{eq-eqb, ne_eqb}
use lib.ListN.{length, get_or, length-reverse, get_or-append}
use lib.Seq.{get_or_at}
use Rattle.std.specs.Prelude.{◌==◌}
use Rattle.std.specs.List.{take_while}
use Rattle.std.proofs.lemmas.List.Sums.{take_while-cons}
use Rattle.table.specs.Choice.{pick}
use Rattle.table.specs.Runs.{run}
use Rattle.table.proofs.Choice.{same?, below?}

module _ (y : ℕ) where
  -- an entry that is in the run, and one that ends it
  goes_on : (x : ℕ) (l : List ℕ) → x ≡ y → run y (x ∷ l) ≡ suc (run y l)
  unfolding run
  goes_on x l e = simp (eq-eqb x y e)

  stops : (x : ℕ) (l : List ℕ) → (x ≡ y → ⊥) → run y (x ∷ l) ≡ 0
  unfolding run
  stops x l n = simp (ne_eqb x y n)

  -- A run goes no further than the list. [table, degeneration::is_curve_degenerated]
  pub run_within : (l : List ℕ) → run y l ≤ length l
  unfolding run
  run_within [] = zero-le
  run_within (x ∷ l) =
      ⊎_elim
      (λ (e : x ≡ y). omega (arith, goes_on x l e, run_within l))
      (λ (n : x ≡ y → ⊥). omega (arith, stops x l n))
      (same? x y)

  -- The entries of a run all equal the number that it is of. [table, degeneration::is_curve_degenerated]
  pub run_equal : (l : List ℕ) (i : ℕ) → i < run y l → get_or l i 0 ≡ y
  unfolding run
  run_equal [] i h = absurd (not-suc-le-zero h)
  run_equal (x ∷ l) zero h =
      ⊎_elim (λ (e : x ≡ y). e) (λ (n : x ≡ y → ⊥). absurd (omega (arith, stops x l n))) (same? x y)
  run_equal (x ∷ l) (suc i) h =
      ⊎_elim
      (λ (e : x ≡ y). run_equal l i (omega (arith, goes_on x l e)))
      (λ (n : x ≡ y → ⊥). absurd (omega (arith, stops x l n)))
      (same? x y)

  -- Where a run stops before the end, another number stands. [table, degeneration::is_curve_degenerated]
  pub run_stops : (l : List ℕ) → run y l < length l → get_or l (run y l) 0 ≡ y → ⊥
  unfolding run
  run_stops [] h e = not-suc-le-zero h
  run_stops (x ∷ l) h e =
      ⊎_elim
      (λ (q : x ≡ y). run_stops l (omega (arith, goes_on x l q)) (rw (goes_on x l q) at e))
      (λ (n : x ≡ y → ⊥). n (rw (stops x l n) at e))
      (same? x y)

  -- Only the run is so: that many first entries are equal, and the next one is not. [table]
  pub run_is : (l : List ℕ) (i : ℕ) → i ≤ length l → ((k : ℕ) → k < i → get_or l k 0 ≡ y)
      → (i < length l → get_or l i 0 ≡ y → ⊥) → i ≡ run y l
  run_is l i h e s =
      ⊎_elim short (λ le. ⊎_elim long (λ ge. le_antisymm ge le) (below? (run y l) i)) (below? i (run y l))
    where
      short : i < run y l → i ≡ run y l
      short lt = absurd (s (omega (arith, run_within l)) (run_equal l i lt))

      long : run y l < i → i ≡ run y l
      long lt = absurd (run_stops l (omega arith) (e (run y l) lt))

  -- A run is as long as what is taken from the list's front while it equals the number. [table]
  pub run_taken : (l : List ℕ) → length (take_while (λ (x : ℕ). x == y) l) ≡ run y l
  unfolding run
  run_taken [] = refl
  run_taken (x ∷ l) = rw (take_while-cons (λ (z : ℕ). z == y) x l) (step (x == y) (run_taken l))
    where
      step : (b : Bool) {n : ℕ} → length (take_while (λ (z : ℕ). z == y) l) ≡ n
          → length (cond b (x ∷ take_while (λ (z : ℕ). z == y) l) []) ≡ pick b (suc n) 0
      step true e = ap suc e
      step false e = refl

-- The invariant of a loop that counts a run: the i entries so far are y. A loop's proof needs these laws of it and
-- nothing else.
pub record Counting (y : ℕ) (l : List ℕ) (i : ℕ) : Type 0 where
  pub inside : i ≤ length l
  pub sofar : (k : ℕ) → k < i → get_or l k 0 ≡ y

module _ {y : ℕ} {l : List ℕ} where
  pub counting_start : Counting y l 0
  counting_start = record { inside = zero-le; sofar = λ k h. absurd (not-suc-le-zero h) }

  module _ {i : ℕ} (s : Counting y l i) where
    pub counting_more : i < length l → get_or l i 0 ≡ y → Counting y l (i + 1)
    counting_more h e = record { inside = omega arith; sofar = below_more _ _ s.sofar e }

    pub counting_stop : (get_or l i 0 ≡ y → ⊥) → i ≡ run y l
    counting_stop other = run_is y l i s.inside s.sofar (λ _. other)

    pub counting_end : length l ≤ i → i ≡ run y l
    counting_end h = run_is y l i s.inside s.sofar (λ (m : i < length l). absurd (omega arith))

-- A table reversed is the table read from its end. [table]
pub get_or_reverse : (t : List ℕ) (i : ℕ) → i < length t → get_or (reverse t) i 0 ≡ get_or t (length t - 1 - i) 0
get_or_reverse [] i h = absurd (not-suc-le-zero h)
get_or_reverse (x ∷ l) i h =
    rw reverse-cons
    (⊎_elim
    (λ (lt : i < length l).
    let e : suc (length l) - 1 - i ≡ suc (length l - 1 - i) = omega arith in
    rw e (get_or-append (reverse l) (x ∷ []) 0 i (rw length-reverse lt) ∙ get_or_reverse l i lt))
    (λ (le : length l ≤ i).
    let e : suc (length l) - 1 - i ≡ 0 = omega arith in
    rw e (get_or_at (reverse l) x [] 0 i (length-reverse l ∙ le_antisymm le (le_of_suc-le-suc h))))
    (below? i (length l)))
