-- Where the search begins: l and r by cases. Where leading zeros set l, r is at least two above it. Assumes nothing.
use mathlib.Core.Path.{◌≡◌, ◌∙◌, refl, ap}
use mathlib.Core.Logic.{⊎_elim}
use Prim.Native.Nat.{ℕ, zero, suc, ◌+◌, ◌-◌, ◌*◌, ◌/◌, ◌≤◌, ◌<◌}
use native.Mathlib.Nat.{mul-le-mul_right, sub_self, zero-div, div-le_of_le-mul, le-div_iff_mul-le}
use native.Mathlib.Omega.{arith}
use borrow.Author.Tests.{lt-ltb, le-ltb}
use lib.IntN.{pos, negsuc, neg_ℤ, ◌+ℤ◌, ◌-ℤ◌}
use Rattle.table.proofs.Choice.{below?, same?}
use Rattle.table.proofs.Quotient.{div_mono}
use Rattle.inverse_start.specs.Start.{first_left, not_below0, first_right}

-- ---- on the left
pub left_one : (n z : ℕ) → z ≤ 1 → first_left n z ≡ 1
unfolding first_left
left_one n z h = simp (le-ltb 1 z h)

pub left_some : (n z : ℕ) → 1 < z → first_left n z ≡ (z - 1) * 65535 / (n - 1) - 1
unfolding first_left
left_some n z h = simp (lt-ltb 1 z h)

module _ (n z : ℕ) (some : 1 < z) (inside : z ≤ n) (few : n ≤ 65536) where
  steps>0 : 0 < n - 1
  steps>0 = omega arith

  -- the quotient is at least 1 and at most 65535, so that nothing is cut at 0
  pub left_quotient_low : 1 ≤ (z - 1) * 65535 / (n - 1)
  left_quotient_low =
      let h : 1 ≤ z - 1 = omega arith in
      (le-div_iff_mul-le steps>0).1 (omega (arith, mul-le-mul_right 65535 h))

  pub left_quotient_high : (z - 1) * 65535 / (n - 1) ≤ 65535
  left_quotient_high =
      let h : z - 1 ≤ n - 1 = omega arith in
      div-le_of_le-mul (n - 1) (mul-le-mul_right 65535 h)

-- ---- on the right
less : (a b : ℕ) → b ≤ a → pos a -ℤ pos b ≡ pos (a - b)
less a zero h = ap pos (omega arith)
less a (suc b) h = simp (le-ltb a (suc b) h)

one_less : (a : ℕ) → pos a -ℤ pos (suc a) ≡ negsuc 0
one_less a = simp (lt-ltb a (suc a) (omega arith), sub_self)

-- what is below 0 and then one more is still not above 0
gone : (q : ℕ) → 0 < q → not_below0 (neg_ℤ (pos q) +ℤ pos 1) ≡ 0
gone zero h = absurd (omega arith)
gone (suc zero) h = refl
gone (suc (suc q)) h = simp (lt-ltb 1 (suc (suc q)) (omega arith))

pub right_none : (n w : ℕ) → w ≤ 1 → first_right n w ≡ 65536
unfolding first_right
right_none n w h = simp (le-ltb 1 w h)

module _ (n w : ℕ) (some : 1 < w) where
  pub right_some : w < n → first_right n w ≡ (n - 1 - w) * 65535 / (n - 1) + 1
  unfolding first_right
  right_some h =
      let a : pos n -ℤ pos 1 ≡ pos (n - 1) = less n 1 (omega arith) in
      let b : pos (n - 1) -ℤ pos w ≡ pos (n - 1 - w) = less (n - 1) w (omega arith) in
      simp (lt-ltb 1 w some, a, b)

  pub right_all : w ≡ n → n ≤ 65536 → first_right n w ≡ 0
  unfolding first_right
  right_all e few =
      let a : pos n -ℤ pos 1 ≡ pos (n - 1) = less n 1 (omega arith) in
      let s : w ≡ suc (n - 1) = omega arith in
      let b : pos (n - 1) -ℤ pos w ≡ negsuc 0 = ap (λ (k : ℕ). pos (n - 1) -ℤ pos k) s ∙ one_less (n - 1) in
      let m : 0 < n - 1 = omega arith in
      let q : 0 < 65535 / (n - 1) = (le-div_iff_mul-le m).1 (omega arith) in
      simp (lt-ltb 1 w some, a, b) (gone (65535 / (n - 1)) q)

  pub right_quotient : w < n → (n - 1 - w) * 65535 / (n - 1) ≤ 65535
  right_quotient h =
      let k : n - 1 - w ≤ n - 1 = omega arith in
      div-le_of_le-mul (n - 1) (mul-le-mul_right 65535 k)

-- ---- together, of runs that do not meet
module _ (n z w : ℕ) (part : z + w ≤ n) (few : n ≤ 65536) where
  -- r starts at 65536 at most. [inverse_start]
  pub right_high : first_right n w ≤ 65536
  right_high = ⊎_elim more (λ h. omega (arith, right_none n w h)) (below? 1 w)
    where
      more : 1 < w → first_right n w ≤ 65536
      more h =
          ⊎_elim
          (λ (e : w ≡ n). omega (arith, right_all n w h e few))
          (λ d. omega (arith, right_some n w h (omega arith), right_quotient n w h (omega arith)))
          (same? w n)

  -- With two leading zeros or more, r starts at least two above l. [inverse_start]
  pub right_above : 1 < z → first_left n z + 2 ≤ first_right n w
  right_above h = ⊎_elim more none (below? 1 w)
    where
      low : 1 ≤ (z - 1) * 65535 / (n - 1)
      low = left_quotient_low n z h (omega arith) few

      none : w ≤ 1 → first_left n z + 2 ≤ first_right n w
      none k = omega (arith, low, left_some n z h, right_none n w k, left_quotient_high n z h (omega arith) few)

      more : 1 < w → first_left n z + 2 ≤ first_right n w
      more k =
          let m : z - 1 ≤ n - 1 - w = omega arith in
          let p : 0 < n - 1 = omega arith in
          let q : (z - 1) * 65535 / (n - 1) ≤ (n - 1 - w) * 65535 / (n - 1) = div_mono p (mul-le-mul_right 65535 m) in
          omega (arith, low, left_some n z h, right_some n w k (omega arith))

  -- l starts at 0 only with two leading zeros or more. [inverse_start]
  pub left_zero : first_left n z ≡ 0 → 1 < z
  left_zero e = ⊎_elim (λ h. h) (λ h. absurd (omega (arith, left_one n z h))) (below? 1 z)

  -- r ≤ l where two or more 65535s trail, at most one entry is none of them, and at most one zero leads.
  -- [inverse_start]
  pub no_room : 1 < w → n ≤ w + 1 → z ≤ 1 → first_right n w ≤ first_left n z
  no_room k m h = ⊎_elim all but_one (same? w n)
    where
      all : w ≡ n → first_right n w ≤ first_left n z
      all e = omega (arith, left_one n z h, right_all n w k e few)

      but_one : (w ≡ n → ⊥) → first_right n w ≤ first_left n z
      but_one d =
          let i : (n - 1 - w) * 65535 ≡ 0 = omega arith in
          let e : (n - 1 - w) * 65535 / (n - 1) ≡ 0 = ap (λ (a : ℕ). a / (n - 1)) i ∙ zero-div (n - 1) in
          omega (arith, left_one n z h, right_some n w k (omega arith))

  -- r ≤ l only where two or more 65535s trail, at most one entry is none of them, and at most one zero leads.
  -- [inverse_start]
  pub room_else : first_right n w ≤ first_left n z → (1 < w) × (n ≤ w + 1) × (z ≤ 1)
  room_else h = ⊎_elim (λ k. absurd (omega (arith, right_above k))) (λ k. tops k (some k)) (below? 1 z)
    where
      some : z ≤ 1 → 1 < w
      some k = ⊎_elim (λ m. m) (λ m. absurd (omega (arith, left_one n z k, right_none n w m))) (below? 1 w)

      tops : z ≤ 1 → 1 < w → (1 < w) × (n ≤ w + 1) × (z ≤ 1)
      tops k m = ⊎_elim far (λ e. (m, e, k)) (below? (w + 1) n)
        where
          far : w + 1 < n → (1 < w) × (n ≤ w + 1) × (z ≤ 1)
          far e =
              let p : 0 < n - 1 = omega arith in
              let a : 1 ≤ n - 1 - w = omega arith in
              let q : 1 ≤ (n - 1 - w) * 65535 / (n - 1) =
              (le-div_iff_mul-le p).1 (omega (arith, mul-le-mul_right 65535 a)) in
              absurd (omega (arith, left_one n z k, right_some n w m (omega arith)))
