-- When a field of a curve that is read from a tag is a NaN: only d of types 1 and 2, where a and b are 0.
-- Assumes nothing.
use mathlib.Core.Path.{◌≡◌, ◌∙◌, refl, sym, ap, subst}
use mathlib.Core.Bool.{true}
use mathlib.Core.List.{List}
use mathlib.Core.Logic.{◌⊎◌, inl, inr, ⊎_elim}
use Prim.Native.Nat.{ℕ, ◌+◌, ◌*◌, ◌≤◌, ◌<◌}
use native.Mathlib.Omega.{arith}
use lib.ListN.{length}
use lib.Dec.{T}
use lib.Ieee.{Float, nan, binary32, eq}
use lib.Ieee.Scale.{finite}
use Rattle.std.specs.Prelude.{Result}
use Rattle.table.specs.Fill.{tabulated}
use Rattle.table.specs.Refusals.{Verdict, granted, refused, if_granted}
use Rattle.table.specs.declared.Refusal.{Refusal}
use Rattle.table.proofs.Fill.{length_tabulated, get_or_tabulated}
use Rattle.icc.specs.Bytes.{EightBits, be32}
use Rattle.icc.proofs.Numbers.{be32_halves, below16}
use Rattle.ieee.specs.Range.{nought}
use Rattle.ieee.proofs.NoNan.{no_nan, finite_no_nan, Unquotable, nan_over, over_nan, both_infinite, both_zero}
use Rattle.ieee.proofs.NoNan.{neg_div_nan}
use Rattle.rounding.proofs.NoNan.{ratio_finite}
use Rattle.parametric.specs.declared.ParametricCurve.{ParametricCurve}
use Rattle.parametric.specs.Unify.{parameter, counted}
use Rattle.parametric.specs.Promises.{value_of_unified, no_curve}
use Rattle.parametric.proofs.NoNan.{Kept, none_kept, unified_kept}
use Rattle.para.specs.Tag.{type_of, count_of, raw_at}
use Rattle.para.specs.Promises.{tag_verdict}
use Rattle.para.proofs.Checks.{readable}
use Rattle.para.proofs.Complement.{signed_wide}
use Rattle.para.proofs.Counts.{five}
use Rattle.para_curve.specs.Promises.{nearest, curve_of, CurvePromise}
use Rattle.para_curve.proofs.Promises.{count_counted}

abbrev Finite : Float → Type 0
Finite x = T (finite x)

abbrev Zeros : ParametricCurve → Type 0
Zeros y = T (eq y.a nought) × T (eq y.b nought)

-- which types have three numbers or four
types : (t : ℕ) → t ≤ 4 → (count_of t ≡ 3) ⊎ (count_of t ≡ 4) → (t ≡ 1) ⊎ (t ≡ 2)
unfolding count_of
types =
    five (λ t. (count_of t ≡ 3) ⊎ (count_of t ≡ 4) → (t ≡ 1) ⊎ (t ≡ 2))
    (λ c. absurd (⊎_elim (λ e. omega arith) (λ e. omega arith) c))
    (λ c. inl refl)
    (λ c. inr refl)
    (λ c. absurd (⊎_elim (λ e. omega arith) (λ e. omega arith) c))
    (λ c. absurd (⊎_elim (λ e. omega arith) (λ e. omega arith) c))

module _ (b : List ℕ) (w : EightBits b) where
  number_finite : (k : ℕ) → Finite (nearest (raw_at b k))
  unfolding raw_at
  number_finite k =
      let i = 12 + 4 * k in
      let wide : be32 b i < 0x1_0000_0000 = omega (arith, be32_halves b i, below16 b w i, below16 b w (i + 2)) in
      ratio_finite (raw_at b k) (signed_wide (be32 b i) wide)

  params : List Float
  params = tabulated (λ k. nearest (raw_at b k)) (count_of (type_of b))

  -- every field but d is finite
  read_kept : type_of b ≤ 4 → Kept Finite (count_of (type_of b)) (curve_of b)
  unfolding params
  read_kept known =
      let n = count_of (type_of b) in
      let at : ℕ → Float = λ k. nearest (raw_at b k) in
      let many : length params ≡ n = length_tabulated at n in
      let each : (i : ℕ) → i < length params → Finite (parameter params i) =
      λ i h. subst Finite (sym (get_or_tabulated at n i nan (subst (λ (z : ℕ). i < z) many h))) (number_finite i) in
      let may : counted (length params) ≡ true = ap counted many ∙ count_counted (type_of b) known in
      subst (λ (z : ℕ). Kept Finite z (curve_of b)) many (unified_kept Finite tt tt params may each)

  -- so d has a value but for 0/0
  quotient_zero : {n : ℕ} {y : ParametricCurve} → Kept Finite n y → y.d ≡ nan → Zeros y
  quotient_zero {n} {y} k e =
      ⊎_elim
      (λ f. absurd (no_nan y.d (finite_no_nan y.d f) e))
      (λ q. only (neg_div_nan binary32 y.b y.a (sym q.1 ∙ e)))
      k.d_kept
    where
      only : Unquotable y.b y.a → Zeros y
      only (nan_over h) = absurd (no_nan y.b (finite_no_nan y.b k.b_kept) h)
      only (over_nan h) = absurd (no_nan y.a (finite_no_nan y.a k.a_kept) h)
      only (both_infinite s t h j) = absurd (subst Finite h k.b_kept)
      only (both_zero h j) = (j, h)

  quotient_types : {y : ParametricCurve} → type_of b ≤ 4 → Kept Finite (count_of (type_of b)) y → y.d ≡ nan
      → (type_of b ≡ 1) ⊎ (type_of b ≡ 2)
  quotient_types {y} known k e =
      ⊎_elim
      (λ f. absurd (no_nan y.d (finite_no_nan y.d f) e))
      (λ q. types (type_of b) known q.0)
      k.d_kept

-- Of any bytes, granted or refused, no field but d is a NaN, or an infinity. [para_curve::read_parametric_curve]
pub curve_no_nan : {b : List ℕ} {r : Result ParametricCurve Refusal} → EightBits b → CurvePromise b r
    → Kept Finite (count_of (type_of b)) (value_of_unified r)
curve_no_nan {b} {r} w p = subst (Kept Finite (count_of (type_of b))) (sym p.value) (go (tag_verdict b) refl)
  where
    go : (v : Verdict) → tag_verdict b ≡ v → Kept Finite (count_of (type_of b)) (if_granted v (curve_of b) no_curve)
    go granted e = read_kept b w (readable b e).known
    go (refused why) e = none_kept Finite tt tt (count_of (type_of b))

-- d is a NaN only of types 1 and 2 where a and b are 0. [para_curve::read_parametric_curve]
pub curve_d_nan : {b : List ℕ} {r : Result ParametricCurve Refusal} → EightBits b → CurvePromise b r
    → (value_of_unified r).d ≡ nan
    → ((type_of b ≡ 1) ⊎ (type_of b ≡ 2)) × T (eq (value_of_unified r).a nought) × T (eq (value_of_unified r).b nought)
curve_d_nan {b} {r} w p e = go (tag_verdict b) refl
  where
    k : Kept Finite (count_of (type_of b)) (value_of_unified r)
    k = curve_no_nan w p

    go : (v : Verdict) → tag_verdict b ≡ v
        → ((type_of b ≡ 1) ⊎ (type_of b ≡ 2)) × T (eq (value_of_unified r).a nought)
        × T (eq (value_of_unified r).b nought)
    go granted g = let z = quotient_zero b w k e in (quotient_types b w (readable b g).known k e, z.0, z.1)
    go (refused why) g =
        let bare : value_of_unified r ≡ no_curve = simp g at p.value in
        absurd (no_nan nought (finite_no_nan nought tt) (ap (λ (y : ParametricCurve). y.d) (sym bare) ∙ e))
