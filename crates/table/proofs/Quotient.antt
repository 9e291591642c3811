-- The quotient rounded up: what it is with a remainder and without, its bounds, and the one fact that makes it the
-- least number of times that is enough. Also: a quotient never falls, and a product is split in two. Assumes nothing.
use mathlib.Core.Path.{◌≡◌, ◌∙◌, sym, ap}
use mathlib.Core.Logic.{⊎_elim, ◌↔◌}
use Prim.Native.Nat.{ℕ, ◌+◌, ◌-◌, ◌*◌, ◌/◌, ◌%◌, ◌≤◌, ◌<◌}
use native.Mathlib.Nat.{mul-add, add-sub_of_le, add-mul, mod-lt, mul_comm, div-le_of_le-mul, div-add-mod'}
use native.Mathlib.Nat.{eq-zero-or-pos, lt_of_mul-lt-mul_right, le-mul_of_pos_right, mul-le-mul_right, le_trans}
use native.Mathlib.Nat.{div-mul-le_self, le-div_iff_mul-le}
use native.Mathlib.Omega.{arith}
use borrow.Author.Tests.{lt-ltb, le-ltb}
use Rattle.table.specs.Quotient.{div_ceil}

module _ (v cap : ℕ) where
  pub ceil_on : v % cap ≡ 0 → div_ceil v cap ≡ v / cap
  ceil_on e = simp (le-ltb 0 (v % cap) (omega arith))

  pub ceil_off : 0 < v % cap → div_ceil v cap ≡ v / cap + 1
  ceil_off h = simp (lt-ltb 0 (v % cap) h)

  -- one more than the quotient is still no more than v, where something is left over
  pub off_fits : 0 < cap → 0 < v % cap → v / cap + 1 ≤ v
  off_fits pos h = omega (arith, div-add-mod' v cap, le-mul_of_pos_right (v / cap) pos)

  -- it is not below the quotient, and no more than what is above that
  pub div_le_ceil : v / cap ≤ div_ceil v cap
  div_le_ceil = ⊎_elim (λ e. omega (arith, ceil_on e)) (λ p. omega (arith, ceil_off p)) (eq-zero-or-pos (v % cap))

  pub ceil_le : {m : ℕ} → v / cap < m → div_ceil v cap ≤ m
  ceil_le h = ⊎_elim (λ e. omega (arith, ceil_on e)) (λ p. omega (arith, ceil_off p)) (eq-zero-or-pos (v % cap))

  -- The quotient of v by cap, rounded up, is at most x exactly if v is at most x times cap. [table]
  pub ceil_le_iff : (x : ℕ) → 0 < cap → (div_ceil v cap ≤ x) ↔ (v ≤ x * cap)
  ceil_le_iff x pos = (enough, least)
    where
      enough : div_ceil v cap ≤ x → v ≤ x * cap
      enough h =
          let m = mul-le-mul_right cap h in
          ⊎_elim
          (λ e. omega (arith, div-add-mod' v cap, ap (λ (n : ℕ). n * cap) (ceil_on e)))
          (λ p. omega (
            arith,
            div-add-mod' v cap,
            mod-lt v pos,
            ap (λ (n : ℕ). n * cap) (ceil_off p),
            add-mul (v / cap) 1 cap,
          ))
          (eq-zero-or-pos (v % cap))

      least : v ≤ x * cap → div_ceil v cap ≤ x
      least h =
          let whole : v / cap ≤ x = div-le_of_le-mul cap (omega (arith, mul_comm cap x)) in
          ⊎_elim
          (λ e. omega (arith, ceil_on e))
          (λ p. ceil_le (lt_of_mul-lt-mul_right cap (omega (arith, div-add-mod' v cap))))
          (eq-zero-or-pos (v % cap))

-- a quotient never falls as what is divided rises
pub div_mono : {a b cap : ℕ} → 0 < cap → a ≤ b → a / cap ≤ b / cap
div_mono {a} {b} {cap} pos h = (le-div_iff_mul-le pos).1 (le_trans (div-mul-le_self a cap) h)

-- x times cap, parted at k
pub parted : (x : ℕ) {k cap : ℕ} → k ≤ cap → x * cap ≡ x * k + x * (cap - k)
parted x {k} {cap} h = ap (λ (n : ℕ). x * n) (sym (add-sub_of_le h)) ∙ mul-add x k (cap - k)
