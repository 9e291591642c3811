-- How near the power is to U·(β/U)^(p/N), step by step, for any U whose square fits 64 bits, any β up to U and any p.
-- Each step rounds down, so A is never above it. What was cut off is made good by a factor (β + 1)/β for all the roots
-- together, and by adding 1 to A for the roots and 1 for each whole step. Assumes nothing.
use mathlib.Core.Path.{◌≡◌, refl, ap, ◌∙◌, subst}
use mathlib.Core.Bool.{Bool, true, false}
use Prim.Native.Nat.{ℕ, zero, suc, ◌+◌, ◌*◌, ◌/◌, ◌%◌, ◌^◌, ◌≤◌, ◌<◌}
use native.Mathlib.Nat.{mul-le-mul, mul-le-mul_left, mul-le-mul_right, le_trans, le_refl, lt_of_le_of_lt, pow-zero}
use native.Mathlib.Nat.{pow-suc, pow-le-pow_left, div-mul-le_self, lt-div-mul-add}
use native.Mathlib.Omega.{arith}
use borrow.Author.Tests.{eqb-true, eqb-false}
use lib.Dec.{eqb}
use lib.Pow.{pow-add}
use Rattle.table.specs.Choice.{pick}
use Rattle.power.specs.Root.{IsRoot, root}
use Rattle.power.specs.Power.{factor, whole_steps, root_steps, power}
use Rattle.power.proofs.Arithmetic.{mul_pow}
use Rattle.power.proofs.Roots.{root_is, root_le, le_root}
use Rattle.power.proofs.Steps.{whole_le}

-- After the roots by which an exponent of q/m is worked in, with r still to come.
pub record Rooted (U β p m r A : ℕ) : Type 0 where
  pub q : ℕ
  pub above : β ≤ A
  pub below : A ≤ U
  pub low : A ^ m * U ^ q ≤ β ^ q * U ^ m
  pub high : β ^ q * U ^ m * β ^ m ≤ ((β + 1) * (A + 1)) ^ m * U ^ q
  pub count : q + m * r ≡ p
  pub less : q < m

-- After j whole steps besides, with r still to come.
pub record Stepped (U β p N j r A : ℕ) : Type 0 where
  pub q : ℕ
  pub below : A ≤ U
  pub low : A ^ N * U ^ q ≤ β ^ q * U ^ N
  pub high : β ^ q * U ^ N * β ^ N ≤ ((β + 1) * (A + (1 + j))) ^ N * U ^ q
  pub count : q + N * r ≡ p
  pub capped : 0 < j → A ≤ β

-- At the end, after w whole steps.
pub record Ended (U β p N w A : ℕ) : Type 0 where
  pub below : A ≤ U
  pub low : A ^ N * U ^ p ≤ β ^ p * U ^ N
  pub high : β ^ p * U ^ N * β ^ N ≤ ((β + 1) * (A + (1 + w))) ^ N * U ^ p
  pub capped : 0 < w → A ≤ β

-- One root. C is what A is multiplied by, s the root, and e how much of the exponent it works in, in parts of 2m.
module _ (U β q m A C s e : ℕ) (key : C ^ m * U ^ e ≡ β ^ e * U ^ m) where
  root_low : A ^ m * U ^ q ≤ β ^ q * U ^ m → s * s ≤ A * C → s ^ (m + m) * U ^ (q + e) ≤ β ^ (q + e) * U ^ (m + m)
  root_low l h =
      let t : s ^ m * s ^ m ≤ A ^ m * C ^ m = rw (← mul_pow s s m, ← mul_pow A C m) (pow-le-pow_left h m) in
      rw (pow-add s m m, pow-add U q e, pow-add β q e, pow-add U m m)
      (products (A ^ m) (U ^ q) (β ^ q) (U ^ m) (C ^ m) (U ^ e) (β ^ e) (s ^ m * s ^ m) l t key)
    where
      products : (a u b v c ue be t : ℕ) → a * u ≤ b * v → t ≤ a * c → c * ue ≡ be * v → t * (u * ue) ≤ b * be * (v * v)
      products a u b v c ue be t l h k =
          omega (arith, mul-le-mul_right (u * ue) h, mul-le-mul_right (c * ue) l, ap (λ (z : ℕ). b * v * z) k)

  root_high : β ^ q * U ^ m * β ^ m ≤ ((β + 1) * (A + 1)) ^ m * U ^ q →
      (β + 1) * (A + 1) * C * β ≤ (β + 1) * (s + 1) * ((β + 1) * (s + 1)) →
      β ^ (q + e) * U ^ (m + m) * β ^ (m + m) ≤ ((β + 1) * (s + 1)) ^ (m + m) * U ^ (q + e)
  root_high h k =
      let before = (β + 1) * (A + 1) in
      let after = (β + 1) * (s + 1) in
      let t : before ^ m * C ^ m * β ^ m ≤ after ^ m * after ^ m
      = rw (← mul_pow before C m, ← mul_pow (before * C) β m, ← mul_pow after after m) (pow-le-pow_left k m) in
      rw (pow-add after m m, pow-add U q e, pow-add β q e, pow-add U m m, pow-add β m m)
      (products (β ^ q) (U ^ m) (β ^ m) (before ^ m) (U ^ q) (C ^ m) (U ^ e) (β ^ e) (after ^ m * after ^ m) h t key)
    where
      products : (b v y z u c ue be t : ℕ) → b * v * y ≤ z * u → z * c * y ≤ t → c * ue ≡ be * v →
          b * be * (v * v) * (y * y) ≤ t * (u * ue)
      products b v y z u c ue be t h k e =
          let f = ap (λ (x : ℕ). b * v * y * y * x) e in
          omega (arith, mul-le-mul_right (c * ue * y) h, mul-le-mul_right (u * ue) k, f)

-- what the cut of one root does to both factors
cut : (β A C s : ℕ) → β ≤ A → A * C < (s + 1) * (s + 1) →
    (β + 1) * (A + 1) * C * β ≤ (β + 1) * (s + 1) * ((β + 1) * (s + 1))
cut β A C s h r =
    let e : (A + 1) * β ≤ A * (β + 1) = omega arith in
    let d : A * C ≤ (s + 1) * (s + 1) = omega arith in
    omega (arith, mul-le-mul_right ((β + 1) * C) e, mul-le-mul_right ((β + 1) * (β + 1)) d)

module _ (U β p : ℕ) where
  root_kept : (m r A C e s : ℕ) (k : Rooted U β p m r A) → C ^ m * U ^ e ≡ β ^ e * U ^ m → IsRoot (A * C) s →
      β ≤ s → s ≤ U → k.q + e + (m + m) * (r / 2) ≡ p → k.q + e < m + m → Rooted U β p (m + m) (r / 2) s
  root_kept m r A C e s k key i b u n l = record {
    q = k.q + e;
    above = b;
    below = u;
    low = root_low U β k.q m A C s e key k.low i.low;
    high = root_high U β k.q m A C s e key k.high (cut β A C s k.above i.high);
    count = n;
    less = l;
  }

  module _ (b : β ≤ U) (fits : U * U < 18446744073709551616) (some : 0 < U) where
    turn_kept : (m r A : ℕ) → Rooted U β p m r A → Rooted U β p (m + m) (r / 2) (root (A * factor U β r))
    unfolding factor
    turn_kept m r A k = go (eqb (r % 2) 1) refl
      where
        go : (t : Bool) → eqb (r % 2) 1 ≡ t → Rooted U β p (m + m) (r / 2) (root (A * pick t β U))
        go true e =
            let i : IsRoot (A * β) (root (A * β)) = root_is (A * β) (lt_of_le_of_lt (mul-le-mul k.below b) fits) in
            let odd : r ≡ 2 * (r / 2) + 1 = omega (arith, eqb-true (r % 2) 1 e) in
            root_kept m r A β m (root (A * β)) k refl i
            (le_root β i (mul-le-mul_right β k.above)) (root_le U i (mul-le-mul k.below b))
            (omega (arith, k.count, ap (λ (z : ℕ). m * z) odd)) (omega (arith, k.less))
        go false e =
            let i : IsRoot (A * U) (root (A * U))
            = root_is (A * U) (lt_of_le_of_lt (mul-le-mul k.below (le_refl U)) fits) in
            let even : r ≡ 2 * (r / 2) = omega (arith, eqb-false (r % 2) 1 e) in
            let key : U ^ m * U ^ 0 ≡ β ^ 0 * U ^ m = rw (pow-zero U, pow-zero β) (omega arith) in
            root_kept m r A U 0 (root (A * U)) k key i
            (le_root β i (mul-le-mul k.above b)) (root_le U i (mul-le-mul_right U k.below))
            (omega (arith, k.count, ap (λ (z : ℕ). m * z) even)) (omega (arith, k.less))

    -- One whole step.
    whole_kept : (N j r A : ℕ) → Stepped U β p N j (suc r) A → Stepped U β p N (suc j) r (A * β / U)
    whole_kept N j r A k =
        let D = A * β / U in
        let d : D * U ≤ A * β = div-mul-le_self (A * β) U in
        let f : A * β < D * U + U = lt-div-mul-add {a = A * β} some in
        let g : (A + (1 + j)) * β ≤ (D + (1 + suc j)) * U = omega (arith, mul-le-mul_left (1 + j) b) in
        let l : D ^ N * U ^ N ≤ A ^ N * β ^ N = rw (← mul_pow D U N, ← mul_pow A β N) (pow-le-pow_left d N) in
        let h : (A + (1 + j)) ^ N * β ^ N ≤ (D + (1 + suc j)) ^ N * U ^ N
        = rw (← mul_pow (A + (1 + j)) β N, ← mul_pow (D + (1 + suc j)) U N) (pow-le-pow_left g N) in
        let high = rw (mul_pow (β + 1) (A + (1 + j)) N) at k.high in
        record {
          q = k.q + N;
          below = le_trans (whole_le U β A k.below) b;
          low =
              rw (pow-add U k.q N, pow-add β k.q N)
              (lower (A ^ N) (U ^ k.q) (β ^ k.q) (U ^ N) (β ^ N) (D ^ N) k.low l);
          high =
              rw (pow-add U k.q N, pow-add β k.q N, mul_pow (β + 1) (D + (1 + suc j)) N)
              (higher (β ^ k.q) (U ^ N) (β ^ N) ((β + 1) ^ N) ((A + (1 + j)) ^ N) (U ^ k.q) ((D + (1 + suc j)) ^ N)
              high h);
          count = omega (arith, k.count);
          capped = λ x. whole_le U β A k.below;
        }
      where
        lower : (a u b v y t : ℕ) → a * u ≤ b * v → t * v ≤ a * y → t * (u * v) ≤ b * y * v
        lower a u b v y t l h = omega (arith, mul-le-mul_right u h, mul-le-mul_right y l)

        higher : (b v y f z u t : ℕ) → b * v * y ≤ f * z * u → z * y ≤ t * v → b * y * v * y ≤ f * t * (u * v)
        higher b v y f z u t l h = omega (arith, mul-le-mul_right y l, mul-le-mul_right (f * u) h)

    wholes_kept : (r N j A : ℕ) → Stepped U β p N j r A → Ended U β p N (j + r) (whole_steps U β r A)
    unfolding whole_steps
    wholes_kept zero N j A k =
        let e : k.q ≡ p = omega (arith, k.count) in
        let z : j ≡ j + 0 = omega arith in
        subst (λ (w : ℕ). Ended U β p N w A) z
        (record {
          below = k.below;
          low = subst (λ (x : ℕ). A ^ N * U ^ x ≤ β ^ x * U ^ N) e k.low;
          high = subst (λ (x : ℕ). β ^ x * U ^ N * β ^ N ≤ ((β + 1) * (A + (1 + j))) ^ N * U ^ x) e k.high;
          capped = k.capped;
        })
    wholes_kept (suc r) N j A k =
        let z : suc j + r ≡ j + suc r = omega arith in
        subst (λ (w : ℕ). Ended U β p N w (whole_steps U β r (A * β / U))) z
        (wholes_kept r N (suc j) (A * β / U) (whole_kept N j r A k))

-- What is known of a power A: of p, `part` is worked in by roots, and the rest by w whole steps.
pub record Powered (U β p N A : ℕ) : Type 0 where
  pub w : ℕ
  pub part : ℕ
  pub ended : Ended U β p N w A
  pub count : part + N * w ≡ p
  pub less : part < N

-- m, doubled k times
unfoldable doubled : ℕ → ℕ → ℕ
doubled zero m = m
doubled (suc k) m = doubled k (m + m)

module _ (U β p : ℕ) (b : β ≤ U) (fits : U * U < 18446744073709551616) (some : 0 < U) where
  roots_kept : (k m r A : ℕ) → Rooted U β p m r A → Powered U β p (doubled k m) (root_steps U β k r A)
  unfolding root_steps doubled
  roots_kept zero m r A s =
      let none : Stepped U β p m 0 r A
      = record {
        q = s.q;
        below = s.below;
        low = s.low;
        high = s.high;
        count = s.count;
        capped = λ h. absurd (omega arith);
      } in
      let z : 0 + r ≡ r = omega arith in
      record {
        w = r;
        part = s.q;
        ended = subst (λ (w : ℕ). Ended U β p m w (whole_steps U β r A)) z (wholes_kept U β p b fits some r m 0 A none);
        count = s.count;
        less = s.less;
      }
  roots_kept (suc k) m r A s = roots_kept k (m + m) (r / 2) _ (turn_kept U β p b fits some m r A s)

  -- The power is not above U·(β/U)^(p/65536), and how far below is bounded by its whole steps (`Ended`). [power]
  pub power_kept : Powered U β p 65536 (power U β p)
  unfolding power doubled
  power_kept = roots_kept 16 1 p U start
    where
      one : (x : ℕ) → x ^ 1 ≡ x
      one x = pow-suc x 0 ∙ rw (pow-zero x) (omega arith)

      start : Rooted U β p 1 p U
      start = record {
        q = 0;
        above = b;
        below = le_refl U;
        low = rw (pow-zero U, pow-zero β) (omega arith);
        high = rw (one U, one β, one ((β + 1) * (U + 1)), pow-zero U, pow-zero β) (omega arith);
        count = omega arith;
        less = omega arith;
      }
