-- A buffer that was filled holds no NaN: its entries are whole numbers times a quotient from 0 to 1. Assumes nothing.
use mathlib.Core.Path.{◌≡◌, ◌∙◌, refl, ap, subst}
use mathlib.Core.Bool.{true, false}
use mathlib.Core.List.{List}
use Prim.Native.Nat.{ℕ, ◌-◌, ◌*◌, ◌≤◌, ◌<◌}
use native.Mathlib.Nat.{le_trans}
use native.Mathlib.Omega.{arith}
use lib.ListN.{length, get_or}
use lib.Dec.{lit≤}
use lib.Pow.{pow_pos}
use lib.Ieee.{Float, nan, binary64, mul, div, is_nan}
use Rattle.std.specs.Prelude.{Ok}
use Rattle.table.specs.Sizes.{spanned}
use Rattle.table.specs.Refusals.{granted}
use Rattle.table.proofs.Sizes.{within_low, within_high}
use Rattle.table.proofs.Refusals.{rung_granted}
use Rattle.table.proofs.Answers.{done_granted}
use Rattle.table.proofs.Fill.{length_tabulated, get_or_tabulated}
use Rattle.ieee.specs.Range.{one, float}
use Rattle.ieee.proofs.Range.{whole_held, whole_of, div_upto}
use Rattle.ieee.proofs.NoNan.{no_nan, Bounded, upto_bounded, whole_bounded, mul_bounded, bounded_no_nan}
use Rattle.rounding.proofs.NoNan.{narrow_keeps}
use Rattle.passthrough.specs.Passed.{passed, passed_through}
use Rattle.passthrough.specs.Promises.{passthrough_verdict, PassthroughPromise}

module _ (n : ℕ) (S : spanned n ≡ true) where
  some : 0 < n - 1
  some = omega (arith, within_low 2 65536 n S)

  few : n - 1 ≤ 65536
  few = omega (arith, within_high 2 65536 n S)

  -- 1/max is from 0 to 1
  quotient : Bounded 1 (div binary64 one (float (n - 1)))
  quotient =
      let m = float (n - 1) in
      let p : 0 < 1 = pow_pos 0 in
      let v = whole_of binary64 (n - 1) few in
      let h = whole_held binary64 1 (lit≤ tt) in
      upto_bounded 1 (div binary64 one m)
      (div_upto binary64 one m 1 1 (n - 1) 1 1 1 p p some p (refl, refl) v h (omega (arith, some)))

  passed_no_nan : (i : ℕ) → i < n → is_nan (passed n i) ≡ false
  unfolding passed
  passed_no_nan i h =
      let k : i ≤ 65536 = omega (arith, within_high 2 65536 n S) in
      let q = div binary64 one (float (n - 1)) in
      let m : i * 1 ≤ 65536 = omega arith in
      let b = mul_bounded binary64 (float i) q i 1 (le_trans m (lit≤ tt)) (whole_bounded binary64 i k) quotient in
      narrow_keeps (mul binary64 (float i) q) ∙ bounded_no_nan (i * 1) (mul binary64 (float i) q) b

-- What is filled holds no NaN. [passthrough::passthrough_table_impl]
pub passthrough_no_nan : {o o' : List Float} → PassthroughPromise o (Ok tt) o' → (i : ℕ) → i < length o'
    → get_or o' i nan ≡ nan → ⊥
passthrough_no_nan {o} {o'} p i h =
    let g : passthrough_verdict o ≡ granted = done_granted (passthrough_verdict o) p.number in
    let S : spanned (length o) ≡ true = (rung_granted (spanned (length o)) _ granted g).0 in
    let e : o' ≡ passed_through (length o) = simp S at p.after in
    let n = length o in
    let k : i < n = subst (λ (z : ℕ). i < z) (ap length e ∙ length_tabulated (passed n) n) h in
    let is : get_or o' i nan ≡ passed n i =
    ap (λ (l : List Float). get_or l i nan) e ∙ get_or_tabulated (passed n) n i nan k in
    no_nan (get_or o' i nan) (ap is_nan is ∙ passed_no_nan n S i k)
