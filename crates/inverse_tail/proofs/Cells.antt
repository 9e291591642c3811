-- The f64 steps between two cells: each cell lies in the table, and what the program's tests tell of the answer.
-- Assumes nothing.
use mathlib.Core.Path.{◌≡◌, ◌∙◌, sym, ap, ap₂, subst}
use mathlib.Core.Bool.{Bool, true, false}
use mathlib.Core.List.{List}
use Prim.Native.Nat.{ℕ, ◌-◌, ◌≤◌, ◌<◌}
use native.Mathlib.Omega.{arith}
use borrow.Author.Tests.{eq-eqb, ne_eqb}
use lib.ListN.{length, get_or}
use lib.Dec.{T, eqb, lit<, lit≤}
use lib.Ieee.{Float, binary64, neg, add, sub, mul, div, lt, of_bits}
use Rattle.table.specs.Choice.{pick}
use Rattle.ieee.specs.Range.{float, upto}
use Rattle.ieee.proofs.Operations.{mul_swap}
use Rattle.ieee.proofs.Range.{scaled_upto, ratio_upto, upto_more}
use Rattle.rounding.specs.Cut.{floor, ceil, FloorPromise, CeilPromise}
use Rattle.rounding.specs.Size.{abs, AbsPromise}
use Rattle.rounding.proofs.Cut.{floor_upto, ceil_upto}
use Rattle.inverse_tail.specs.Tail.{cell_of, node_of, rounded, between, tail}
use Rattle.inverse_tail.proofs.Clamp.{top_bits, hundredth_bits, rounded_fits}

-- ---- the two cells
module _ (t : List ℕ) (x : ℕ) (some : 1 ≤ length t) (few : length t ≤ 65536) (X : x ≤ 65536) where
  -- t as the program works it out
  abbrev place : Float
  place = mul binary64 (float (length t - 1)) (div binary64 (float (x - 1)) (of_bits binary64 0x40ef_ffe0_0000_0000))

  place_is : place ≡ cell_of (length t) x
  unfolding cell_of
  place_is = ap (λ (z : Float). mul binary64 (float (length t - 1)) (div binary64 (float (x - 1)) z)) top_bits

  place_upto : T (upto (length t - 1) place)
  unfolding cell_of
  place_upto =
      let k : length t - 1 ≤ 65536 = omega arith in
      let p : x - 1 ≤ 65535 = omega arith in
      subst (λ (z : Float). T (upto (length t - 1) z))
      (mul_swap binary64 (div binary64 (float (x - 1)) (float 65535)) (float (length t - 1)) ∙ sym place_is)
      (scaled_upto binary64 (div binary64 (float (x - 1)) (float 65535))
      (length t - 1) (ratio_upto binary64 (x - 1) 65535 p (lit< tt) (lit≤ tt)) k)

  pub place_asks : T (upto 65536 place)
  place_asks =
      let k : length t - 1 ≤ 65536 = omega arith in
      upto_more (length t - 1) 65536 place k place_upto

  module _ {c0 c1 : ℕ} (p0 : FloorPromise place c0) (p1 : CeilPromise place c1) where
    pub cell0_inside : c0 < length t
    cell0_inside =
        let k : floor place ≤ length t - 1 = floor_upto (length t - 1) place place_upto in
        omega (arith, p0.value)

    pub cell1_inside : c1 < length t
    cell1_inside =
        let k : ceil place ≤ length t - 1 = ceil_upto (length t - 1) place place_upto in
        omega (arith, p1.value)

    pub tail_is : {r : ℕ} (v : ℕ) → r ≡ between t x v c0 c1 → r ≡ tail t x v
    unfolding tail
    tail_is v e = e ∙ ap₂ (between t x v) (p0.value ∙ ap floor place_is) (p1.value ∙ ap ceil place_is)

-- ---- the answer from them
pick_le : (b : Bool) {a c m : ℕ} → a ≤ m → c ≤ m → pick b a c ≤ m
pick_le true h g = h
pick_le false h g = g

module _ (t : List ℕ) (x v c0 c1 : ℕ) where
  -- the steps with 65535 and 0.01 left open, for the definition's and the program's
  abbrev node : Float → ℕ → Float
  node top c = div binary64 (mul binary64 top (float c)) (float (length t - 1))

  abbrev slope : Float → Float
  slope top =
      div binary64 (sub binary64 (float (get_or t c1 0)) (float (get_or t c0 0))) (sub binary64 (node top c1) (node
      top c0))

  abbrev crossing : Float → Float
  crossing top =
      div binary64 (sub binary64 (float v)
      (add binary64 (float (get_or t c0 0)) (mul binary64 (neg (slope top)) (node top c0)))) (slope top)

  abbrev answer : Float → Float → ℕ
  answer top least = pick (eqb c0 c1) x (pick (lt (abs (slope top)) least) x (rounded (crossing top)))

  answer_is : answer (of_bits binary64 0x40ef_ffe0_0000_0000) (of_bits binary64 0x3f84_7ae1_47ae_147b)
      ≡ between t x v c0 c1
  unfolding between node_of
  answer_is = ap₂ answer top_bits hundredth_bits

  pub one_cell : c0 ≡ c1 → x ≡ between t x v c0 c1
  one_cell e = sym (simp (eq-eqb c0 c1 e)) ∙ answer_is

  module _ (n : c0 ≡ c1 → ⊥) {size : Float} (s : AbsPromise (slope (of_bits binary64 0x40ef_ffe0_0000_0000)) size) where
    chosen : (b : Bool) → lt size (of_bits binary64 0x3f84_7ae1_47ae_147b) ≡ b
        → pick b x (rounded (crossing (of_bits binary64 0x40ef_ffe0_0000_0000))) ≡ between t x v c0 c1
    chosen b h =
        ap (λ (z : Bool). pick z x (rounded (crossing (of_bits binary64 0x40ef_ffe0_0000_0000))))
        (sym h ∙ ap (λ (z : Float). lt z (of_bits binary64 0x3f84_7ae1_47ae_147b)) s.value)
        ∙ sym (simp (ne_eqb c0 c1 n))
        ∙ answer_is

    pub nearly_flat : lt size (of_bits binary64 0x3f84_7ae1_47ae_147b) ≡ true → x ≡ between t x v c0 c1
    nearly_flat h = chosen true h

    pub sloped : {r : ℕ} → lt size (of_bits binary64 0x3f84_7ae1_47ae_147b) ≡ false
        → r ≡ rounded (crossing (of_bits binary64 0x40ef_ffe0_0000_0000)) → r ≡ between t x v c0 c1
    sloped h e = e ∙ chosen false h

  -- 16 bits hold the answer between two cells where they hold x. [inverse_tail]
  pub between_fits : x ≤ 65535 → between t x v c0 c1 ≤ 65535
  between_fits h =
      let top = of_bits binary64 0x40ef_ffe0_0000_0000 in
      let least = of_bits binary64 0x3f84_7ae1_47ae_147b in
      subst (λ (n : ℕ). n ≤ 65535) answer_is
      (pick_le (eqb c0 c1) h (pick_le (lt (abs (slope top)) least) h (rounded_fits (crossing top))))

-- 16 bits hold what the f64 steps answer where they hold x. [inverse_tail]
pub tail_fits : (t : List ℕ) (x v : ℕ) → x ≤ 65535 → tail t x v ≤ 65535
unfolding tail
tail_fits t x v h = between_fits t x v (floor (cell_of (length t) x)) (ceil (cell_of (length t) x)) h
