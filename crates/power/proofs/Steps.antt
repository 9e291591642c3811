-- The definition of a power turn by turn, and what each turn is at most, over any U whose square fits 64 bits.
-- Assumes nothing.
use mathlib.Core.Path.{◌≡◌, refl}
use mathlib.Core.Bool.{Bool, true, false}
use Prim.Native.Nat.{ℕ, zero, suc, ◌-◌, ◌*◌, ◌/◌, ◌%◌, ◌≤◌, ◌<◌}
use native.Mathlib.Nat.{mul-le-mul, le_refl, lt_of_le_of_lt, div-le_of_le-mul}
use native.Mathlib.Omega.{arith}
use borrow.Author.Tests.{eq-eqb, ne_eqb}
use lib.Dec.{eqb}
use Rattle.table.specs.Choice.{pick}
use Rattle.power.specs.Root.{IsRoot, root}
use Rattle.power.specs.Power.{factor, whole_steps, root_steps}
use Rattle.power.proofs.Roots.{one_root, square_root, root_le, root_is}

module _ (U β : ℕ) where
  -- a turn of each loop, and its end
  pub root_turn : (k r a : ℕ) → 0 < k → root_steps U β k r a ≡ root_steps U β (k - 1) (r / 2) (root (a * factor U β r))
  unfolding root_steps
  root_turn zero r a h = absurd (omega arith)
  root_turn (suc k) r a h = let e : suc k - 1 ≡ k = omega arith in rw e

  pub root_end : (r a : ℕ) → root_steps U β 0 r a ≡ whole_steps U β r a
  unfolding root_steps
  root_end r a = refl

  pub whole_turn : (r a : ℕ) → 0 < r → whole_steps U β r a ≡ whole_steps U β (r - 1) (a * β / U)
  unfolding whole_steps
  whole_turn zero a h = absurd (omega arith)
  whole_turn (suc r) a h = let e : suc r - 1 ≡ r = omega arith in rw e

  pub whole_end : (a : ℕ) → whole_steps U β 0 a ≡ a
  unfolding whole_steps
  whole_end a = refl

  -- what stands under the root
  pub factor_le : (r : ℕ) → β ≤ U → factor U β r ≤ U
  unfolding factor
  factor_le r b = go (eqb (r % 2) 1)
    where
      go : (t : Bool) → pick t β U ≤ U
      go true = b
      go false = le_refl U

  pub under_le : (r a : ℕ) → β ≤ U → a ≤ U → a * factor U β r ≤ U * U
  under_le r a b h = mul-le-mul h (factor_le r b)

  pub whole_le : (a : ℕ) → a ≤ U → a * β / U ≤ β
  whole_le a h = div-le_of_le-mul U (mul-le-mul h (le_refl β))

  factor_one : (r : ℕ) → r % 2 ≡ 1 → factor U β r ≡ β
  unfolding factor
  factor_one r e = simp (eq-eqb (r % 2) 1 e)

  pub factor_zero : (r : ℕ) → (r % 2 ≡ 1 → ⊥) → factor U β r ≡ U
  unfolding factor
  factor_zero r n = simp (ne_eqb (r % 2) 1 n)

  -- s is what the definition has after a, with r to come, and at most U
  abbrev pub Next : ℕ → ℕ → ℕ → Type 0
  Next r a s = (s ≡ root (a * factor U β r)) × (s ≤ U)

  module _ (fits : U * U < 18446744073709551616) (b : β ≤ U) (r a s : ℕ) (h : a ≤ U) where
    next : IsRoot (a * factor U β r) s → Next r a s
    next i = (one_root i (root_is _ (lt_of_le_of_lt (under_le r a b h) fits)), root_le U i (under_le r a b h))

    pub next_one : r % 2 ≡ 1 → IsRoot (a * β) s → Next r a s
    next_one e i = next (rw (factor_one r e) i)

    pub next_zero : (r % 2 ≡ 1 → ⊥) → IsRoot (a * U) s → Next r a s
    next_zero n i = next (rw (factor_zero r n) i)

  pub next_full : U * U < 18446744073709551616 → β ≤ U → (r a : ℕ) → (r % 2 ≡ 1 → ⊥) → a ≡ U → Next r a U
  next_full fits b r a n e = rw e (next_zero fits b r U U (le_refl U) n (square_root U))
