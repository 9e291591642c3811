-- `lut_interp_linear_float` answers a NaN only if, of the two entries about x, the upper is a NaN or an infinity, or
-- the lower a NaN. Assumes nothing.
use mathlib.Core.Path.{◌≡◌, refl, sym, ap, ap₂, ◌∙◌, subst}
use mathlib.Core.Bool.{Bool, true, false, ◌&&◌}
use mathlib.Core.List.{List}
use mathlib.Core.Logic.{⊎_elim}
use Prim.Native.Nat.{ℕ, zero, suc, ◌+◌, ◌-◌, ◌*◌, ◌%◌, ◌^◌, ◌≤◌, ◌<◌}
use native.Mathlib.Nat.{le_trans, le_of_eq, eq-zero-or-pos, zero-mul, one-mul, mul-one, mul_assoc, mul_right_comm}
use native.Mathlib.Nat.{mul-pos, mul-le-mul_left, mul-le-mul_right, sub-le, sub-zero}
use native.Mathlib.Omega.{arith}
use lib.ListN.{length, get_or}
use lib.IntN.{ℤ}
use lib.Dec.{T, leb, ltb, eqb, eqb→eq, leb→le, lit<, lit≤}
use lib.Pow.{pow_pos}
use lib.Ieee.{Float, nan, inf, fin, binary32, up, down, unlike, round, neg, sub, mul, fits, is_nan}
use lib.Ieee.Fits.{up_pos, down_pos, and_l, and_r, mul-fits}
use lib.Ieee.Exact.{HasValue, round_exact}
use lib.Ieee.Order.{round_mono}
use lib.Ieee.Positive.{num, den, den_pos, positive, positive_of_value, above, above_of_le}
use lib.Ieee.Scale.{finite, round_same}
use Rattle.std.specs.Prelude.{Result}
use Rattle.table.specs.Sizes.{sized}
use Rattle.table.specs.Refusals.{if_granted}
use Rattle.table.specs.declared.Refusal.{Refusal}
use Rattle.ieee.specs.Range.{nought, float_in, upto}
use Rattle.ieee.proofs.Operations.{mul_of, add_of, sub_of, sign_kept}
use Rattle.ieee.proofs.Range.{counts, Held, upto_fact, whole_of, whole_held, has_finite}
use Rattle.ieee.proofs.Value.{round_id}
use Rattle.ieee.proofs.NoNan.{no_nan, is_nan_lem, round_no_nan, plus_no_nan, times_no_nan, round_value, round_within}
use Rattle.rounding.specs.Cut.{floor, ceil}
use Rattle.rounding.proofs.Cut.{ceil_over, ceil_under, ceil_upto, floor_is_ceil}
use Rattle.interp.specs.Interp.{place, diff, unit, mixed, mixed_at, float_looked_up}
use Rattle.interp.specs.Promises.{value_of_interpolated, float_verdict, FloatPromise}
use Rattle.interp.proofs.Place.{place_asks}
use Rattle.interp.proofs.Input.{read_upto}

-- ---- diff = ceil v - v: from 0 to 1, and above 0 but for a whole v
minus_is : (v : Float) (k : ℕ) → T (counts v) → k ≤ 65536 → num v ≤ k * den v
    → sub binary32 (float_in binary32 k) v ≡ round binary32 false (k * den v - num v) (den v)
unfolding sub neg
minus_is nan k c K h = absurd c
minus_is (inf s) k c K h = absurd c
minus_is (fin true (suc m) e) k c K h = absurd c
minus_is (fin true zero e) k c K h =
    let none : 0 * up e ≡ 0 = zero-mul (up e) in
    let nothing : 0 * up e * 1 ≡ 0 * down e = mul-one (0 * up e) ∙ none ∙ sym (zero-mul (down e)) in
    let left : k * 1 + 0 * 1 ≡ k = omega arith in
    let right : (k * down e - 0 * up e) * 1 ≡ k * down e =
    mul-one (k * down e - 0 * up e) ∙ ap (λ (z : ℕ). k * down e - z) none ∙ sub-zero (k * down e) in
    let w = whole_of binary32 k K in
    add_of binary32 (float_in binary32 k) (fin false 0 e) false k 1 0 1 (pow_pos 0) (pow_pos 0) w (refl, nothing)
    ∙ round_same binary32 false (k * 1 + 0 * 1) 1 (k * down e - 0 * up e) (down e) (pow_pos 0) (down_pos e)
    (ap (λ (z : ℕ). z * down e) left ∙ sym right)
minus_is (fin false m e) k c K h =
    let n = m * up e in
    let less : n * 1 ≤ k * down e = le_trans (le_of_eq (mul-one n)) h in
    let w = whole_of binary32 k K in
    let x = float_in binary32 k in
    let r = sub_of binary32 x (fin false m e) false k 1 n (down e) (pow_pos 0) (down_pos e) w (refl, refl) less in
    r.2
    ∙ ap (λ (t : Bool). round binary32 t (k * down e - n * 1) (1 * down e)) (r.1 refl)
    ∙ ap₂ (round binary32 false) (ap (λ (z : ℕ). k * down e - z) (mul-one n)) (one-mul (down e))

-- a format's values are whole multiples of its smallest
den_low : (v : Float) → T (fits binary32 v) → den v ≤ 2 ^ 149
unfolding fits
den_low nan F = lit≤ tt
den_low (inf s) F = lit≤ tt
den_low (fin s zero e) F =
    let one : up e * down e ≡ 1 = eqb→eq (up e * down e) 1 F in
    let some : 1 * down e ≤ up e * down e = mul-le-mul_right (down e) (up_pos e) in
    le_trans (le_of_eq (sym (one-mul (down e)))) (le_trans some (le_trans (le_of_eq one) (lit≤ tt)))
den_low (fin s (suc m) e) F =
    let A : Bool = eqb (suc m % 2) 1 in
    let B : Bool = ltb (suc m) (2 ^ 24) in
    let D : Bool = leb (down e) (2 ^ 149) in
    let E : Bool = ltb (suc m * up e) (2 ^ 128 * down e) in
    leb→le (down e) (2 ^ 149) (and_r (A && B) D (and_l (A && B && D) E F))

smallest : T (positive (round binary32 false 1 (2 ^ 149)))
smallest =
    let v = round_exact binary32 false 1 (2 ^ 149) 1 0 (pow_pos 149) (lit< tt) (lit< tt) refl in
    positive_of_value (round binary32 false 1 (2 ^ 149)) 1 (2 ^ 149) v (lit< tt)

module _ (v : Float) (few : T (upto 65536 v)) where
  -- what is left to the next whole number, in parts of v's own
  abbrev rest : ℕ
  rest = ceil v * den v - num v

  diff_is : diff binary32 v ≡ round binary32 false rest (den v)
  unfolding diff
  diff_is = minus_is v (ceil v) (upto_fact 65536 v few).0 (ceil_upto 65536 v few) (ceil_over v)

  diff_value : (g : ℕ) × HasValue (diff binary32 v) false g (2 ^ 149) × (g * 1 ≤ 1 * 2 ^ 149)
  diff_value =
      let less : rest * 1 ≤ 1 * den v = omega (arith, ceil_under v) in
      let w = whole_held binary32 1 (lit≤ tt) in
      let r = round_value binary32 false rest (den v) 1 1 (den_pos v) (pow_pos 0) w less in
      (r.0, subst (λ (z : Float). HasValue z false r.0 (2 ^ 149)) (sym diff_is) r.1, r.2)

  diff_above : T (fits binary32 v) → 0 < rest → T (above (diff binary32 v))
  diff_above F some =
      let lo = round binary32 false 1 (2 ^ 149) in
      let more : 1 * 2 ^ 149 ≤ rest * 2 ^ 149 = mul-le-mul_right (2 ^ 149) some in
      let less : 1 * den v ≤ rest * 2 ^ 149 =
      le_trans (le_of_eq (one-mul (den v)))
      (le_trans (den_low v F) (le_trans (le_of_eq (sym (one-mul (2 ^ 149)))) more)) in
      let up_from = round_mono binary32 1 (2 ^ 149) rest (den v) (pow_pos 149) (den_pos v) less in
      subst (λ (z : Float). T (above z)) (sym diff_is)
      (above_of_le lo (round binary32 false rest (den v)) smallest up_from)

  whole_v : rest ≡ 0 → floor v ≡ ceil v
  whole_v e = floor_is_ceil v (omega (arith, ceil_over v))

-- ---- tu - tu·d is no larger than tu, which is a value of the format
sign_free : (s : Bool) (m : ℕ) (e : ℤ) → T (fits binary32 (fin s m e)) → T (fits binary32 (fin false m e))
unfolding fits
sign_free s zero e F = F
sign_free s (suc m) e F = F

held : (s : Bool) (m : ℕ) (e : ℤ) → T (fits binary32 (fin s m e)) → Held binary32 (m * up e) (down e)
held s m e F =
    let y = fin false m e in
    let is : round binary32 false (m * up e) (down e) ≡ y =
    round_id binary32 y false (m * up e) (down e) (sign_free s m e F) (down_pos e) (refl, refl) in
    subst (λ (z : Float). HasValue z false (m * up e) (down e)) (sym is) (refl, refl)

module _ (s : Bool) (m : ℕ) (e : ℤ) (F : T (fits binary32 (fin s m e))) where
  abbrev u : Float
  u = fin s m e

  abbrev x : ℕ
  x = m * up e

  abbrev y : ℕ
  y = down e

  abbrev l : ℕ
  l = 2 ^ 149

  -- u less a number of its sign that is no larger
  less_finite : (p : Float) (h : ℕ) → HasValue p s h l → h * y ≤ x * l → T (finite (sub binary32 u p))
  less_finite p h v small =
      let b = sub_of binary32 u p s x y h l (down_pos e) (pow_pos 149) (refl, refl) v small in
      let less : (x * l - h * y) * y ≤ x * (y * l) =
      le_trans (mul-le-mul_right y (sub-le (x * l) (h * y))) (le_of_eq (mul_right_comm x l y ∙ mul_assoc x y l)) in
      let some : 0 < y * l = mul-pos (down_pos e) (pow_pos 149) in
      subst (λ (z : Float). T (finite z)) (sym b.2)
      (round_within binary32 b.0 (x * l - h * y) (y * l) x y some (down_pos e) (held s m e F) less).0

  -- u times a number from 0 to 1
  product : (d : Float) (g : ℕ) → HasValue d false g l → g ≤ l
      → (h : ℕ) × HasValue (mul binary32 u d) s h l × (h * y ≤ x * l)
  product d g w small =
      let is = mul_of binary32 u d s false x y g l (down_pos e) (pow_pos 149) (refl, refl) w in
      let most : x * g * y ≤ x * (y * l) =
      le_trans (le_of_eq (mul_right_comm x g y))
      (le_trans (mul-le-mul_left (x * y) small) (le_of_eq (mul_assoc x y l))) in
      let some : 0 < y * l = mul-pos (down_pos e) (pow_pos 149) in
      let r = round_value binary32 (unlike s false) (x * g) (y * l) x y some (down_pos e) (held s m e F) most in
      let v = subst (λ (z : Float). HasValue z (unlike s false) r.0 l) (sym is) r.1 in
      (r.0, subst (λ (t : Bool). HasValue (mul binary32 u d) t r.0 l) (sign_kept s) v, r.2)

part_finite : (u d : Float) (g : ℕ) → T (fits binary32 u) → T (finite u) → HasValue d false g (2 ^ 149)
    → g * 1 ≤ 1 * 2 ^ 149 → T (finite (sub binary32 u (mul binary32 u d)))
part_finite nan d g F N w h = absurd N
part_finite (inf s) d g F N w h = absurd N
part_finite (fin s m e) d g F N w h =
    let small : g ≤ 2 ^ 149 = le_trans (le_of_eq (sym (mul-one g))) (le_trans h (le_of_eq (one-mul (2 ^ 149)))) in
    let q = product s m e F d g w small in
    less_finite s m e F (mul binary32 (fin s m e) d) q.0 q.1 q.2

-- ---- tl·d
finite_times : (u d : Float) → T (finite u) → T (finite d) → is_nan (mul binary32 u d) ≡ false
unfolding mul
finite_times nan d N M = absurd N
finite_times (inf s) d N M = absurd N
finite_times (fin s m e) nan N M = absurd M
finite_times (fin s m e) (inf t) N M = absurd M
finite_times (fin s m e) (fin t n g) N M = round_no_nan binary32 (unlike s t) (m * up e * (n * up g)) (down e * down g)

above_times : (u d : Float) → is_nan u ≡ false → T (above d) → T (finite d) → is_nan (mul binary32 u d) ≡ false
above_times u nan N A M = absurd M
above_times u (inf t) N A M = absurd M
above_times u (fin true n g) N A M = absurd A
above_times u (fin false zero g) N A M = absurd A
above_times u (fin false (suc n) g) N A M = times_no_nan binary32 u false n g N

-- ---- the lookup at v
mixed_no_nan : (u l v : Float) → T (upto 65536 v) → T (fits binary32 v) → T (fits binary32 u) → T (finite u)
    → is_nan l ≡ false → (floor v ≡ ceil v → l ≡ u) → is_nan (mixed u l (diff binary32 v)) ≡ false
unfolding mixed
mixed_no_nan u l v few W F N L same =
    let d = diff binary32 v in
    let w = diff_value v few in
    let M : T (finite d) = has_finite d false w.0 (2 ^ 149) w.1 in
    plus_no_nan binary32 (sub binary32 u (mul binary32 u d)) (mul binary32 l d)
    (part_finite u d w.0 F N w.1 w.2)
    (⊎_elim
    (λ e. ap (λ (z : Float). is_nan (mul binary32 z d)) (same (whole_v v few e)) ∙ finite_times u d N M)
    (λ p. above_times l d L (diff_above v few W p) M)
    (eq-zero-or-pos (ceil v * den v - num v)))

-- ---- the two entries about x
abbrev spot : List Float → Float → Float
spot t x = place binary32 (length t) (unit x)

abbrev pub upper : List Float → Float → Float
upper t x = get_or t (ceil (spot t x)) nan

abbrev pub lower : List Float → Float → Float
lower t x = get_or t (floor (spot t x)) nan

looked_up_no_nan : (t : List Float) (x : Float) → sized (length t) ≡ true → T (fits binary32 (upper t x))
    → T (finite (upper t x)) → is_nan (lower t x) ≡ false → is_nan (float_looked_up t x) ≡ false
unfolding float_looked_up mixed_at place
looked_up_no_nan t x some F N L =
    let few = place_asks (length t) some binary32 (unit x) (read_upto x (unit x) refl) in
    let W = mul-fits binary32 (unit x) (float_in binary32 (length t - 1)) in
    mixed_no_nan (upper t x) (lower t x) (spot t x) few W F N L (λ e. ap (λ (i : ℕ). get_or t i nan) e)

nought_no_nan : is_nan nought ≡ false
unfolding is_nan
nought_no_nan = refl

-- The answer, granted or refused, is no NaN where the upper entry is finite and the lower one no NaN. Any f32 fits.
-- [interp::lut_interp_linear_float]
pub float_no_nan : {t : List Float} {x : Float} {r : Result Float Refusal} → T (fits binary32 (upper t x))
    → FloatPromise t x r
    → T (finite (upper t x)) → (lower t x ≡ nan → ⊥) → value_of_interpolated r ≡ nan → ⊥
float_no_nan {t} {x} {r} F p N L =
    no_nan (value_of_interpolated r) (ap is_nan p.value ∙ go (sized (length t)) (is_nan (lower t x)) refl refl)
  where
    go : (a b : Bool) → sized (length t) ≡ a → is_nan (lower t x) ≡ b
        → is_nan (if_granted (float_verdict t) (float_looked_up t x) nought) ≡ false
    go false b h k = simp h nought_no_nan
    go true true h k = absurd (L (is_nan_lem (lower t x) k))
    go true false h k = simp h (looked_up_no_nan t x h F N k)
