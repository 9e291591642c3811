-- What follows from the house curve's rule, for any table that meets it: there is one number for each place, and so one
-- table; it is nondecreasing, from 0 to 65535. Assumes nothing.
use mathlib.Core.Path.{◌≡◌, ◌∙◌, sym}
use mathlib.Core.Logic.{⊎_elim}
use mathlib.Core.Bool.{true}
use mathlib.Core.List.{List}
use Prim.Native.Nat.{ℕ, ◌+◌, ◌-◌, ◌*◌, ◌≤◌, ◌<◌}
use native.Mathlib.Nat.{le_refl, le_trans, le_antisymm, lt_of_lt_of_le, lt_irrefl, mul-le-mul_left, mul-le-mul_right}
use native.Mathlib.Nat.{pow-le-pow_left}
use native.Mathlib.Omega.{arith}
use lib.Dec.{lit≤, lit<}
use lib.ListN.{length, get_or, get_or-eq_default}
use lib.Seq.{ext_get_or}
use Rattle.table.specs.Sizes.{sized}
use Rattle.table.specs.Order.{nondecreasing, Nondecreasing, SixteenBits}
use Rattle.table.proofs.Choice.{below?}
use Rattle.table.proofs.Sizes.{is_within}
use Rattle.table.proofs.Order.{fact_test}
use Rattle.house.specs.House.{fifth, square, IsEntry, IsHouse}

-- the entry at a later place is not smaller: the smaller number's upper bound would lie below the larger one's lower
-- bound
module _ (i j n m : ℕ) (ij : i ≤ j) (p : IsEntry i n) (q : IsEntry j m) where
  not_smaller : m < n → ⊥
  not_smaller h =
      let bounds : square (2 * m + 1) ≤ square (2 * n - 1)
      = mul-le-mul_right _ (pow-le-pow_left {n = 2 * m + 1} {m = 2 * n - 1} (omega arith) _) in
      let powers : fifth i ≤ fifth j = mul-le-mul_left _ (pow-le-pow_left {n = i} {m = j} ij _) in
      lt_irrefl _ (lt_of_lt_of_le q.above (le_trans bounds (le_trans (p.below (omega arith)) powers)))

  -- A number that meets the rule at a later index is not smaller. [house::entry]
  pub entry_rises : n ≤ m
  entry_rises = ⊎_elim (λ (h : m < n). absurd (not_smaller h)) (λ (h : n ≤ m). h) (below? m n)

-- Two numbers that meet the rule at one index are equal. [house::entry]
pub one_entry : (i n m : ℕ) → IsEntry i n → IsEntry i m → n ≡ m
one_entry i n m p q = le_antisymm (entry_rises i i n m (le_refl i) p q) (entry_rises i i m n (le_refl i) q p)

-- At index 0 it is 0 that meets the rule. [house::entry]
pub first_entry : IsEntry 0 0
first_entry = record { above = lit< tt; below = λ h. absurd (lt_irrefl 0 h) }

-- At index 1,023 it is 65535 that meets the rule. [house::entry]
pub last_entry : IsEntry 1023 65535
last_entry = record { above = lit< tt; below = λ h. lit≤ tt }

-- Two tables that meet the rule are equal. [house::fill]
pub one_house : (t u : List ℕ) → IsHouse t → IsHouse u → t ≡ u
one_house t u p q =
    ext_get_or 0 t u (p.size ∙ sym q.size)
    (λ i h. one_entry i (get_or t i 0) (get_or u i 0) (p.rule i (omega arith)) (q.rule i (omega arith)))

-- a table that meets the rule may be accepted, and reaches from 0 to 65535
module _ (t : List ℕ) (p : IsHouse t) where
  -- The house curve has 1 to 65,536 entries, as accept asks. [house]
  pub house_sized : sized (length t) ≡ true
  house_sized = is_within 1 65536 (length t) (omega (arith, p.size)) (omega (arith, p.size))

  -- Of any two entries of the house curve the later is not below the earlier. [house::fill]
  pub house_rises : Nondecreasing t
  house_rises i j ij h =
      entry_rises i j (get_or t i 0) (get_or t j 0) ij (p.rule i (omega (arith, p.size)))
      (p.rule j (omega (arith, p.size)))

  -- The house curve passes the test of its order, so that it may be accepted. [house]
  pub house_nondecreasing : nondecreasing t ≡ true
  house_nondecreasing = fact_test t house_rises

  -- The house curve begins at 0. [house]
  pub house_first : get_or t 0 0 ≡ 0
  house_first = one_entry 0 (get_or t 0 0) 0 (p.rule 0 (lit< tt)) first_entry

  -- The house curve ends at 65535. [house]
  pub house_last : get_or t 1023 0 ≡ 65535
  house_last = one_entry 1023 (get_or t 1023 0) 65535 (p.rule 1023 (lit< tt)) last_entry

  -- The house curve is 16 bits wide. [house]
  pub house_bits : SixteenBits t
  house_bits i =
      ⊎_elim
      (λ (h : i < length t).
      omega (arith, house_last, house_rises i 1023 (omega (arith, p.size)) (omega (arith, p.size))))
      (λ (h : length t ≤ i). omega (arith, get_or-eq_default t 0 h))
      (below? i (length t))
