-- The inverse as a whole: what each way to its answer gives, that every probe of its search is a position, and what a
-- hit is worth. Assumes nothing.
use mathlib.Core.Path.{◌≡◌, ◌∙◌, refl, sym, ap, subst}
use mathlib.Core.Bool.{Bool, true, false}
use mathlib.Core.List.{List}
use Prim.Native.Nat.{ℕ, ◌+◌, ◌-◌, ◌*◌, ◌/◌, ◌≤◌, ◌<◌, zero-le}
use native.Mathlib.Nat.{le_trans, le_of_eq, mul-le-mul_right, div-mul-le_self}
use native.Mathlib.Omega.{arith}
use borrow.Author.Tests.{le-leb, lt-leb, leb-false}
use lib.ListN.{length}
use lib.Dec.{lit<, lit≤, leb}
use Rattle.table.specs.Sizes.{sized}
use Rattle.table.specs.Choice.{pick}
use Rattle.table.proofs.Sizes.{within_high}
use Rattle.lookup.specs.Lookup.{lower, upper, steps, entries_of, looked_up}
use Rattle.lookup.proofs.Steps.{lower_lt, upper_lt}
use Rattle.lookup.proofs.LookupLaws.{lookup_at_most}
use Rattle.std.specs.Prelude.{Result, Ok, Err}
use Rattle.inverse.specs.Inside.{Ready}
use Rattle.inverse_tail.specs.Tail.{tail}
use Rattle.inverse_start.specs.Start.{leading_zeros, trailing_tops, zero_at_once, first_left, first_right}
use Rattle.inverse_start.specs.Start.{left_of, right_of}
use Rattle.inverse.specs.Inverse.{searched, settled, inverted}
use Rattle.inverse_start.proofs.Runs.{zeros_le, zero_entry, runs_part}
use Rattle.inverse_start.proofs.Start.{left_some, left_quotient_low, right_high, right_above, left_zero}
use Rattle.inverse.proofs.Bisection.{Sound, searched_sound, hit_apart}
use Rattle.inverse_tail.proofs.Cells.{tail_fits}

-- z, w, l and r as the steps before the search make them
pub record Begun (t : List ℕ) (z w l r : ℕ) : Type 0 where
  pub zeros : z ≡ leading_zeros t
  pub tops : w ≡ trailing_tops t
  pub left : l ≡ first_left (length t) z
  pub right : r ≡ first_right (length t) w

-- where l comes from leading zeros, positions up to l + 1 lie among them, and look up as 0
pub zero_below : (t : List ℕ) → length t ≤ 65536 → 1 < leading_zeros t → (p : ℕ)
    → p ≤ first_left (length t) (leading_zeros t) + 1 → looked_up t p ≤ 0
zero_below t few some p h =
    lookup_at_most (entries_of t) (length t) p 0
    (le_of_eq (zero_entry t (lower 65535 (steps (length t) p))
    (lower_lt 65535 z (steps (length t) p) (lit< tt) z>0 within)))
    (le_of_eq (zero_entry t (upper 65535 (steps (length t) p))
    (upper_lt 65535 z (steps (length t) p) (lit< tt) z>0 within)))
  where
    z : ℕ
    z = leading_zeros t

    z>0 : 0 < leading_zeros t
    z>0 = omega arith

    within : steps (length t) p ≤ (leading_zeros t - 1) * 65535
    within =
        let q = (leading_zeros t - 1) * 65535 / (length t - 1) in
        let k : p ≤ q = omega (
          arith,
          left_some (length t) (leading_zeros t) some,
          left_quotient_low (length t) (leading_zeros t) some (zeros_le t) few,
        ) in
        le_trans (mul-le-mul_right (length t - 1) k) (div-mul-le_self ((leading_zeros t - 1) * 65535) (length t - 1))

module _ {t : List ℕ} {z w l r : ℕ} (b : Begun t z w l r) (h : sized (length t) ≡ true) (v : ℕ) where
  few : length t ≤ 65536
  few = within_high 1 65536 (length t) h

  part : z + w ≤ length t
  part = omega (arith, runs_part t, b.zeros, b.tops)

  -- every x that the search probes is from 1 to 65535
  pub begun_ready : Ready t v l r
  begun_ready = record {
    high = omega (arith, b.right, right_high (length t) z w part few);
    apart = λ (e : l ≡ 0). omega (arith, b.left, b.right, right_above (length t) z w part few (from_zeros e));
    under = λ (e : l ≡ 0) (p : ℕ) (k : p < 2). le_trans (zero_below t few (some e) p (near e p k)) zero-le;
  }
    where
      from_zeros : l ≡ 0 → 1 < z
      from_zeros e = left_zero (length t) z w part few (sym b.left ∙ e)

      some : l ≡ 0 → 1 < leading_zeros t
      some e = omega (arith, b.zeros, from_zeros e)

      near : l ≡ 0 → (p : ℕ) → p < 2 → p ≤ first_left (length t) (leading_zeros t) + 1
      near e p k = omega arith

  -- ---- the ways to an answer: before any search, with r ≤ l, and by the search
  pub at_once : {a : Bool} → a ≡ zero_at_once v z w → a ≡ true → 0 ≡ inverted t v
  unfolding inverted
  at_once e f = let g : zero_at_once v (leading_zeros t) (trailing_tops t) ≡ true = cc (b.zeros, b.tops) in simp g

  module _ {a : Bool} (e : a ≡ zero_at_once v z w) (f : a ≡ false) where
    not_at_once : zero_at_once v (leading_zeros t) (trailing_tops t) ≡ false
    not_at_once = cc (b.zeros, b.tops)

    same_left : first_left (length t) (leading_zeros t) ≡ l
    same_left = cc (b.zeros, b.left)

    same_right : first_right (length t) (trailing_tops t) ≡ r
    same_right = cc (b.tops, b.right)

    pub crossed : r ≤ l → 0 ≡ inverted t v
    unfolding inverted
    crossed c = simp (not_at_once, same_left, same_right, le-leb r l c)

    pub settles : l < r → settled t v (searched t v l r) ≡ inverted t v
    unfolding inverted
    settles c = simp (not_at_once, same_left, same_right, lt-leb r l c)

    -- at a hit, its position; with none, what the f64 steps make of the x that was probed last, which is from 1 on
    pub hit_answer : (p : ℕ) → l < r → searched t v l r ≡ Ok p → p ≡ inverted t v
    hit_answer p c s = ap (settled t v) (sym s) ∙ settles c

    pub missed_answer : (x : ℕ) → l < r → searched t v l r ≡ Err x → tail t x v ≡ inverted t v
    missed_answer x c s = ap (settled t v) (sym s) ∙ settles c

    pub missed_low : (x : ℕ) → l < r → searched t v l r ≡ Err x → 0 < x
    missed_low x c s = (subst (Sound t v) s (searched_sound t v l r begun_ready c)).0

-- ---- what holds of every table of 1 to 65,536 entries
begins : (t : List ℕ) → Begun t (leading_zeros t) (trailing_tops t) (left_of t) (right_of t)
begins t = record { zeros = refl; tops = refl; left = refl; right = refl }

module _ (t : List ℕ) (h : sized (length t) ≡ true) (v : ℕ) where
  sound : left_of t < right_of t → Sound t v (searched t v (left_of t) (right_of t))
  sound c = searched_sound t v (left_of t) (right_of t) (begun_ready (begins t) h v) c

  -- Where the search leaves at a hit, the lookup at the defined answer is the value. [inverse::lut_inverse_interp16]
  pub hit_looks_up : (p : ℕ) → zero_at_once v (leading_zeros t) (trailing_tops t) ≡ false
      → searched t v (left_of t) (right_of t) ≡ Ok p → looked_up t (inverted t v) ≡ v
  hit_looks_up p e s =
      let c : left_of t < right_of t = hit_apart t v (left_of t) (right_of t) p s in
      let found : Sound t v (Ok p) = subst (Sound t v) s (sound c) in
      ap (looked_up t) (sym (hit_answer (begins t) h v refl e p c s)) ∙ found.0

  -- 16 bits hold the answer. [inverse::lut_inverse_interp16]
  pub inverted_fits : inverted t v ≤ 65535
  unfolding inverted
  inverted_fits = go (zero_at_once v (leading_zeros t) (trailing_tops t)) (leb (right_of t) (left_of t)) refl
    where
      settled_fits : (f : Result ℕ ℕ) → Sound t v f → settled t v f ≤ 65535
      settled_fits (Ok p) s = le_trans s.1 (lit≤ tt)
      settled_fits (Err x) s = tail_fits t x v s.1

      go : (a b : Bool) → leb (right_of t) (left_of t) ≡ b
          → pick a 0 (pick b 0 (settled t v (searched t v (left_of t) (right_of t)))) ≤ 65535
      go true b e = zero-le
      go false true e = zero-le
      go false false e = settled_fits (searched t v (left_of t) (right_of t)) (sound (leb-false (right_of t)
          (left_of t) e))
