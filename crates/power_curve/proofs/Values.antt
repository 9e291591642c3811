-- The curve's value: it meets document 02's bound, never falls, and is at most 65535; what it is at both ends; and with
-- an exponent of 1 it is x. The laws that these rest on are over variables; here the numbers are put in. Assumes
-- nothing.
use mathlib.Core.Path.{◌≡◌, refl, ap, ◌∙◌}
use Prim.Native.Nat.{ℕ, ◌+◌, ◌*◌, ◌/◌, ◌≤◌, ◌<◌}
use native.Mathlib.Nat.{mul-le-mul_right, le_refl, add-le-add, div-mul-le_self, lt-div-mul-add}
use native.Mathlib.Omega.{arith}
use lib.Dec.{lit<, lit≤}
use Rattle.table.proofs.Quotient.{div_mono}
use Rattle.power.specs.Power.{power}
use Rattle.power.proofs.Kept.{Powered, power_kept}
use Rattle.power.proofs.Rises.{power_rises, power_full, power_by_one, power_of_zero}
use Rattle.power_curve.specs.Curve.{added, value_at}
use Rattle.power_curve.specs.Demand.{Near}
use Rattle.power_curve.proofs.Sizes.{added_up, added_size}
use Rattle.power_curve.proofs.Bound.{near}

known : (x p : ℕ) → x ≤ 65535 → Powered 4294901760 (x * 65536) p 65536 (power 4294901760 (x * 65536) p)
known x p h = power_kept 4294901760 (x * 65536) p (mul-le-mul_right 65536 h) (lit< tt) (lit< tt)

-- how many whole steps p has
few_wholes : (part w p : ℕ) → part + 65536 * w ≡ p → p ≤ 262144 → w ≤ 4
few_wholes part w p e h = omega arith

no_whole : (part w p : ℕ) → part + 65536 * w ≡ p → part < 65536 → w ≡ 0 → p < 65536
no_whole part w p e h z = omega arith

-- The value is within one of 65535·(x/65535)^(p/65536), which is document 02's bound. [power_curve::power,
-- power_curve::tag_power]
pub value_near : (p x : ℕ) → x ≤ 65535 → 0 < p → p ≤ 262144 → Near 65536 65535 p x (value_at p x)
unfolding value_at
value_near p x h pos few =
    let k = known x p h in
    let a = power 4294901760 (x * 65536) p in
    near 65536 65535 65536 p x ((a + added p) / 65536) (added p) a
    refl h pos (div-mul-le_self _ 65536) (lt-div-mul-add {a = a + added p} (lit< tt)) (added_size p).0
    k.w k.ended (few_wholes k.part k.w p k.count few)
    (λ z. rounds_up p (no_whole k.part k.w p k.count k.less z)) (added_size p).1
  where
    rounds_up : (p : ℕ) → p < 65536 → added p + 1 ≡ 65536
    rounds_up p h = omega (arith, added_up p h)

-- The value is at most 65535. [power_curve::power, power_curve::tag_power]
pub value_le : (p x : ℕ) → x ≤ 65535 → value_at p x ≤ 65535
unfolding value_at
value_le p x h = whole _ (added p) (known x p h).ended.below (added_size p).0
  where
    whole : (a u : ℕ) → a ≤ 4294901760 → u < 65536 → (a + u) / 65536 ≤ 65535
    whole a u l s = omega arith

-- The value never falls as x rises. [power_curve::power, power_curve::tag_power]
pub value_rises : (p x y : ℕ) → x ≤ y → y ≤ 65535 → value_at p x ≤ value_at p y
unfolding value_at
value_rises p x y l h =
    let xy : x * 65536 ≤ y * 65536 = mul-le-mul_right 65536 l in
    let most : y * 65536 ≤ 4294901760 = mul-le-mul_right 65536 h in
    div_mono (lit< tt)
    (add-le-add
    (power_rises 4294901760 (x * 65536) (y * 65536) (lit< tt) xy most (lit< tt) p)
    (le_refl (added p)))

-- At x = 0 the value is 0. [power_curve::power, power_curve::tag_power]
pub value_first : (p : ℕ) → 0 < p → value_at p 0 ≡ 0
unfolding value_at
value_first p pos =
    let k = known 0 p (lit≤ tt) in
    ap (λ (a : ℕ). (a + added p) / 65536) (power_of_zero 4294901760 p 65536 k.w _ (lit< tt) pos k.ended)
    ∙ none (added p) (added_size p).0
  where
    none : (u : ℕ) → u < 65536 → (0 + u) / 65536 ≡ 0
    none u s = omega arith

-- At x = 65535 the value is 65535. [power_curve::power, power_curve::tag_power]
pub value_last : (p : ℕ) → value_at p 65535 ≡ 65535
unfolding value_at
value_last p =
    ap (λ (a : ℕ). (a + added p) / 65536) (power_full 4294901760 (lit< tt) (lit< tt) p)
    ∙ full (added p) (added_size p).0
  where
    full : (u : ℕ) → u < 65536 → (4294901760 + u) / 65536 ≡ 65535
    full u s = omega arith

-- With the exponent 65536 the value is x. [power_curve::power, power_curve::tag_power]
pub value_by_one : (x : ℕ) → value_at 65536 x ≡ x
unfolding value_at
value_by_one x =
    ap (λ (a : ℕ). (a + added 65536) / 65536) (power_by_one 4294901760 (lit< tt) (lit< tt) (x * 65536))
    ∙ units (added 65536) (added_size 65536).0
  where
    units : (u : ℕ) → u < 65536 → (x * 65536 + u) / 65536 ≡ x
    units u s = omega arith
