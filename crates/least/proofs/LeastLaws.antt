-- The least input for any lookup f that never falls: f is at least v exactly from the least input on. The laws on
-- `first`, the first number at which a test holds, are here too. Assumes nothing.
use mathlib.Core.Path.{◌≡◌, refl, sym, subst}
use mathlib.Core.Logic.{⊎_elim, ◌↔◌}
use mathlib.Core.Bool.{Bool, true, false}
use Prim.Native.Nat.{ℕ, zero, suc, ◌+◌, ◌≤◌, ◌<◌, zero-le}
use native.Mathlib.Nat.{le_refl, le_trans, le_of_suc-le, le_antisymm, lt_of_lt_of_le, lt_of_le_of_lt, lt_irrefl}
use native.Mathlib.Nat.{eq-or-lt_of_le}
use native.Mathlib.Omega.{arith}
use borrow.Author.Tests.{leb-true, leb-false, le-leb, lt-leb}
use lib.Dec.{leb}
use Rattle.table.specs.Choice.{pick}
use Rattle.table.proofs.Choice.{below?}
use Rattle.least.specs.Least.{first, least_of, NeverFalls}

module _ (test : ℕ → Bool) where
  -- where the test fails before p, and holds at p or p is the end, p is the first
  first_is : (m s p : ℕ) → s ≤ p → p ≤ s + m → ((q : ℕ) → s ≤ q → q < p → test q ≡ false) → (p < s + m → test p ≡ true)
      → first test m s ≡ p
  unfolding first
  first_is zero s p sp pm before here = omega arith
  first_is (suc m) s p sp pm before here =
      ⊎_elim
      (λ (e : s ≡ p). simp (subst (λ (n : ℕ). test n ≡ true) (sym e) (here (omega arith))) e)
      (λ (l : s < p).
      simp (before s (le_refl s) l)
      (first_is m (suc s) p l (omega arith) (λ q a b. before q (le_of_suc-le a) b) (λ h. here (omega arith))))
      (eq-or-lt_of_le sp)

  first_before : (m s q : ℕ) → s ≤ q → q < first test m s → test q ≡ false
  unfolding first
  first_before zero s q sq h = absurd (lt_irrefl q (lt_of_lt_of_le h sq))
  first_before (suc m) s q sq h = go (test s) refl h (first_before m (suc s) q)
    where
      go : (b : Bool) → test s ≡ b → q < pick b s (first test m (suc s))
          → (suc s ≤ q → q < first test m (suc s) → test q ≡ false) → test q ≡ false
      go true e l ih = absurd (lt_irrefl q (lt_of_lt_of_le l sq))
      go false e l ih = ⊎_elim (λ eq. subst (λ (n : ℕ). test n ≡ false) eq e) (λ lt. ih lt l) (eq-or-lt_of_le sq)

  first_here : (m s : ℕ) → first test m s < s + m → test (first test m s) ≡ true
  unfolding first
  first_here zero s h = absurd (lt_irrefl s (omega arith))
  first_here (suc m) s h = go (test s) refl h (first_here m (suc s))
    where
      go : (b : Bool) → test s ≡ b → pick b s (first test m (suc s)) < s + suc m
          → (first test m (suc s) < suc s + m → test (first test m (suc s)) ≡ true)
          → test (pick b s (first test m (suc s))) ≡ true
      go true e l ih = e
      go false e l ih = ih (omega arith)

module _ (f : ℕ → ℕ) (v : ℕ) where
  -- below v before p, and at least v at p unless p is past the last: p is the least input
  pub least_is : (p : ℕ) → p ≤ 65536 → ((q : ℕ) → q < p → f q < v) → (p ≤ 65535 → v ≤ f p) → least_of f v ≡ p
  unfolding least_of
  least_is p h before here =
      first_is (λ (q : ℕ). leb v (f q)) 65536 0 p zero-le h (λ q _ l. lt-leb v (f q) (before q l))
      (λ l. le-leb v (f p) (here (omega arith)))

  least_before : (q : ℕ) → q < least_of f v → f q < v
  unfolding least_of
  least_before q l = leb-false v (f q) (first_before (λ (q : ℕ). leb v (f q)) 65536 0 q zero-le l)

  least_here : least_of f v ≤ 65535 → v ≤ f (least_of f v)
  unfolding least_of
  least_here l = leb-true v (f (least_of f v)) (first_here (λ (q : ℕ). leb v (f q)) 65536 0 (omega arith))

-- What follows where f never falls.
module _ (f : ℕ → ℕ) (v : ℕ) (rises : NeverFalls f) where
  -- A lookup that never falls is at least v exactly from the least input on. [least::least_input]
  pub least_exact : (q : ℕ) → q ≤ 65535 → (v ≤ f q) ↔ (least_of f v ≤ q)
  least_exact q h = (
    (λ r. ⊎_elim (λ l. absurd (lt_irrefl (f q) (lt_of_lt_of_le (least_before f v q l) r)))
        (λ l. l) (below? q (least_of f v))),
    (λ l. le_trans (least_here f v (le_trans l h)) (rises (least_of f v) q l h)),
  )

  -- If the last position reaches v, the least input is at most 65535. [least::least_input]
  pub least_inside : v ≤ f 65535 → least_of f v ≤ 65535
  least_inside r = (least_exact 65535 (le_refl 65535)).0 r

  -- If the last position does not reach v, 65536 stands for the least input. [least::least_input]
  pub least_none : f 65535 < v → least_of f v ≡ 65536
  least_none l =
      least_is f v 65536 (le_refl 65536) (λ q a. lt_of_le_of_lt (rises q 65535 (omega arith) (le_refl 65535)) l)
      (λ h. absurd (omega arith))

  -- A position from which on, and only from which on, the lookup is at least v is the least input. [least::least_input]
  pub least_only : (p : ℕ) → p ≤ 65535 → ((q : ℕ) → q ≤ 65535 → (v ≤ f q) ↔ (p ≤ q)) → least_of f v ≡ p
  least_only p h exact =
      let r : v ≤ f p = (exact p h).1 (le_refl p) in
      let up : least_of f v ≤ p = (least_exact p h).0 r in
      le_antisymm up ((exact (least_of f v) (le_trans up h)).0 (least_here f v (le_trans up h)))

  -- v is reached at p, and not just before it
  pub least_at : (p : ℕ) → p ≤ 65535 → v ≤ f p → ((q : ℕ) → suc q ≡ p → f q < v) → least_of f v ≡ p
  least_at p h r before =
      least_is f v p (omega arith) (below p h before) (λ _. r)
    where
      below : (p : ℕ) → p ≤ 65535 → ((q : ℕ) → suc q ≡ p → f q < v) → (q : ℕ) → q < p → f q < v
      below zero h b q l = absurd (omega arith)
      below (suc p) h b q l = lt_of_le_of_lt (rises q p (omega arith) (omega arith)) (b p refl)
