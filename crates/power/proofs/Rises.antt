-- The power never falls as β rises; it is 0 at 0 and U at U; and with an exponent of 1 it is β. Assumes nothing.
use mathlib.Core.Path.{◌≡◌, refl, ap, ◌∙◌}
use mathlib.Core.Bool.{Bool, true, false}
use Prim.Native.Nat.{ℕ, zero, suc, ◌*◌, ◌/◌, ◌%◌, ◌^◌, ◌≤◌, ◌<◌}
use native.Mathlib.Nat.{mul-le-mul, le_refl, lt_of_le_of_lt, mul-div_cancel, mul-div_cancel_left, one-le-pow, mul-pos}
use native.Mathlib.Nat.{zero-mul, pow-zero, pow-suc}
use native.Mathlib.Omega.{arith}
use lib.Dec.{eqb}
use Rattle.table.specs.Choice.{pick}
use Rattle.table.proofs.Quotient.{div_mono}
use Rattle.power.specs.Root.{root}
use Rattle.power.specs.Power.{factor, whole_steps, root_steps, power}
use Rattle.power.proofs.Arithmetic.{zero_pow}
use Rattle.power.proofs.Roots.{roots_rise, one_root, square_root, root_le, root_is}
use Rattle.power.proofs.Steps.{under_le, factor_zero}
use Rattle.power.proofs.Kept.{Ended}

module _ (U β γ : ℕ) (some : 0 < U) (b : β ≤ γ) where
  wholes_rise : (r a c : ℕ) → a ≤ c → whole_steps U β r a ≤ whole_steps U γ r c
  unfolding whole_steps
  wholes_rise zero a c h = h
  wholes_rise (suc r) a c h = wholes_rise r (a * β / U) (c * γ / U) (div_mono some (mul-le-mul h b))

  factor_rises : (r : ℕ) → factor U β r ≤ factor U γ r
  unfolding factor
  factor_rises r = go (eqb (r % 2) 1)
    where
      go : (t : Bool) → pick t β U ≤ pick t γ U
      go true = b
      go false = le_refl U

  module _ (g : γ ≤ U) (fits : U * U < 18446744073709551616) where
    roots_rise_on : (k r a c : ℕ) → a ≤ c → c ≤ U → root_steps U β k r a ≤ root_steps U γ k r c
    unfolding root_steps
    roots_rise_on zero r a c h u = wholes_rise r a c h
    roots_rise_on (suc k) r a c h u =
        let under : a * factor U β r ≤ c * factor U γ r = mul-le-mul h (factor_rises r) in
        let few : c * factor U γ r < 18446744073709551616 = lt_of_le_of_lt (under_le U γ r c g u) fits in
        let i = root_is (a * factor U β r) (lt_of_le_of_lt under few) in
        let j = root_is (c * factor U γ r) few in
        roots_rise_on k (r / 2) _ _ (roots_rise i j under) (root_le U j (under_le U γ r c g u))

    -- A larger base has no smaller power. [power]
    pub power_rises : (p : ℕ) → power U β p ≤ power U γ p
    unfolding power
    power_rises p = roots_rise_on 16 p U U (le_refl U) (le_refl U)

module _ (U : ℕ) (some : 0 < U) (fits : U * U < 18446744073709551616) where
  full_root : root (U * U) ≡ U
  full_root = one_root (root_is (U * U) fits) (square_root U)

  wholes_full : (r : ℕ) → whole_steps U U r U ≡ U
  unfolding whole_steps
  wholes_full zero = refl
  wholes_full (suc r) = ap (whole_steps U U r) (mul-div_cancel U some) ∙ wholes_full r

  factor_full : (r : ℕ) → factor U U r ≡ U
  unfolding factor
  factor_full r = go (eqb (r % 2) 1)
    where
      go : (t : Bool) → pick t U U ≡ U
      go true = refl
      go false = refl

  roots_full : (k r : ℕ) → root_steps U U k r U ≡ U
  unfolding root_steps
  roots_full zero r = wholes_full r
  roots_full (suc k) r =
      ap (λ (z : ℕ). root_steps U U k (r / 2) (root (U * z))) (factor_full r)
      ∙ ap (root_steps U U k (r / 2)) full_root
      ∙ roots_full k (r / 2)

  -- The power of U is U. [power]
  pub power_full : (p : ℕ) → power U U p ≡ U
  unfolding power
  power_full p = roots_full 16 p

  -- an exponent whose last k digits are 0 has whole steps alone
  digits_none : (β k w : ℕ) → root_steps U β k (2 ^ k * w) U ≡ whole_steps U β w U
  unfolding root_steps
  digits_none β zero w = let e : 2 ^ 0 * w ≡ w = rw (pow-zero 2) (omega arith) in ap (λ (r : ℕ). whole_steps U β r U) e
  digits_none β (suc k) w =
      let e : 2 ^ suc k * w ≡ 2 * (2 ^ k * w) = rw (pow-suc 2 k) (omega arith) in
      let even : (2 ^ suc k * w % 2 ≡ 1 → ⊥) = λ (o : 2 ^ suc k * w % 2 ≡ 1). omega (arith, e) in
      let rest : 2 ^ suc k * w / 2 ≡ 2 ^ k * w = omega (arith, e) in
      ap (λ (z : ℕ). root_steps U β k (2 ^ suc k * w / 2) (root (U * z))) (factor_zero U β (2 ^ suc k * w) even)
      ∙ ap (root_steps U β k (2 ^ suc k * w / 2)) full_root
      ∙ ap (λ (r : ℕ). root_steps U β k r U) rest
      ∙ digits_none β k w

  -- With the exponent 65536 the power is its base. [power]
  pub power_by_one : (β : ℕ) → power U β 65536 ≡ β
  unfolding power whole_steps
  power_by_one β = digits_none β 16 1 ∙ mul-div_cancel_left β some

-- The power of 0 is 0, with an exponent above 0. [power]
pub power_of_zero : (U p N w A : ℕ) → 0 < U → 0 < p → Ended U 0 p N w A → A ≡ 0
power_of_zero U p N w zero some pos e = refl
power_of_zero U p N w (suc A) some pos e =
    let l : suc A ^ N * U ^ p ≤ 0 = rw (zero_pow p pos, zero-mul (U ^ N)) at e.low in
    let g : 0 < suc A ^ N * U ^ p = mul-pos (one-le-pow N (suc A) (omega arith)) (one-le-pow p U some) in
    absurd (omega arith)
