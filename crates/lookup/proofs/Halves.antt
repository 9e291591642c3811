-- The 16-bit lookup without a division. 65535 · 65537 is 2^32 - 1, so v steps, 65535 from each entry to the next, are
-- 65537 · v steps with 2^32 - 1 from each to the next. That is nearly 2^32: the upper half of the 64-bit number is a
-- cell, the index of an entry that v steps pass, and both halves added are the steps past it, up to the next entry
-- itself. Assumes nothing.
use mathlib.Core.Path.{◌≡◌, ◌∙◌, ap, sym}
use mathlib.Core.Logic.{⊎_elim}
use Prim.Native.Nat.{ℕ, ◌+◌, ◌-◌, ◌*◌, ◌/◌, ◌%◌, ◌≤◌, ◌<◌}
use native.Mathlib.Nat.{mul_assoc, mul-zero, eq-zero-or-pos}
use native.Mathlib.Omega.{arith}
use lib.Dec.{ltb, lit<}
use borrow.Author.Tests.{lt-ltb, le-ltb}
use Rattle.table.specs.Choice.{pick}
use Rattle.lookup.specs.Lookup.{weighted}
use Rattle.lookup.proofs.Sum.{sum_steps}

-- up to 65535 · 65535 the quotient of 65537·w + 65537 by 2^32 is that of w by 65535
pub quotient_by_halves : (w : ℕ) → w ≤ 65535 * 65535 → (w * 65537 + 65537) / 4294967296 ≡ w / 65535
quotient_by_halves w h = omega arith

-- the cell, the steps past it, and the same in steps of which 65535 lead to the next entry
abbrev pub cell : ℕ → ℕ
cell v = v * 65537 / 4294967296

abbrev pub past : ℕ → ℕ
past v = v * 65537 % 4294967296 + cell v

abbrev over : ℕ → ℕ
over v = v - cell v * 65535

module _ (v : ℕ) (h : v ≤ 65535 * 65535) where
  parted : v ≡ cell v * 65535 + over v
  parted = omega arith

  over_le : over v ≤ 65535
  over_le = omega arith

  past_is : past v ≡ over v * 65537
  past_is = omega arith

  left_is : 4294967295 - past v ≡ (65535 - over v) * 65537
  left_is = omega (arith, over_le, past_is)

-- the entry after the cell, but in a table of one entry that entry
abbrev pub after : ℕ → ℕ → ℕ
after top v = pick (ltb 0 top) (cell v + 1) (cell v)

module _ (top v : ℕ) (few : top ≤ 65535) (h : v ≤ top * 65535) where
  pub after_le : after top v ≤ top
  after_le = ⊎_elim one more (eq-zero-or-pos top)
    where
      one : top ≡ 0 → after top v ≤ top
      one e = simp (le-ltb 0 top (omega arith)) (omega arith)

      more : 0 < top → after top v ≤ top
      more p = simp (lt-ltb 0 top p) (omega arith)

  -- in a table of one entry nothing is over, so the entry after it has no weight
  after_weighs : (T : ℕ → ℕ) → T (after top v) * over v ≡ T (cell v + 1) * over v
  after_weighs T = ⊎_elim one more (eq-zero-or-pos top)
    where
      one : top ≡ 0 → T (after top v) * over v ≡ T (cell v + 1) * over v
      one e =
          let none : over v ≡ 0 = omega arith in
          rw none (mul-zero _ ∙ sym (mul-zero _))

      more : 0 < top → T (after top v) * over v ≡ T (cell v + 1) * over v
      more p = simp (lt-ltb 0 top p)

  -- the two entries, weighed by the steps past the one and those left to the other, are 65537 times the sum S
  pub sum_by_halves : (T : ℕ → ℕ)
      → T (after top v) * past v + T (cell v) * (4294967295 - past v) ≡ weighted 65535 T v * 65537
  sum_by_halves T =
      let small : v ≤ 65535 * 65535 = omega arith in
      let whole : weighted 65535 T v ≡ T (cell v + 1) * over v + T (cell v) * (65535 - over v) =
      ap (weighted 65535 T) (parted v small) ∙ sum_steps 65535 T (lit< tt) (cell v) (over v) (over_le v small) in
      ap (λ (x : ℕ). T (after top v) * x + T (cell v) * (4294967295 - past v)) (past_is v small)
      ∙ ap (λ (x : ℕ). T (after top v) * (over v * 65537) + T (cell v) * x) (left_is v small)
      ∙ omega (
        arith,
        mul_assoc (T (after top v)) (over v) 65537,
        mul_assoc (T (cell v)) (65535 - over v) 65537,
        after_weighs T,
        whole,
      )

  -- the quotient, from two entries that were read
  pub quotient_read : (T : ℕ → ℕ) {u hi lo s : ℕ} → u ≡ after top v → hi ≡ T u → lo ≡ T (cell v)
      → s ≡ hi * past v + lo * (4294967295 - past v) → s ≤ 65535 * 4294967295
      → (s + 65537) / 4294967296 ≡ weighted 65535 T v / 65535
  quotient_read T {s = s} e f g r b =
      let read : s ≡ weighted 65535 T v * 65537 = rw (r, f, g, e) (sum_by_halves T) in
      ap (λ (x : ℕ). (x + 65537) / 4294967296) read
      ∙ quotient_by_halves (weighted 65535 T v) (omega (arith, read))
