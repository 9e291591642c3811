-- A property that 0, 1 and every parameter have, each field of the curve has too, but for d = -b/a. So a field is a NaN
-- only where a parameter is one, or where b and a have no quotient. Assumes nothing.
use mathlib.Core.Path.{◌≡◌, ◌∙◌, refl, sym, subst}
use mathlib.Core.Logic.{◌⊎◌, inl, inr, ⊎_elim}
use mathlib.Core.Bool.{Bool, true, false}
use mathlib.Core.List.{List, [], ◌∷◌}
use Prim.Native.Nat.{ℕ, ◌<◌}
use native.Mathlib.Omega.{arith}
use lib.ListN.{length}
use lib.Dec.{lit<}
use lib.Ieee.{Float, nan, binary32, neg, div, is_nan}
use Rattle.std.specs.Prelude.{Result}
use Rattle.table.specs.Refusals.{granted, rung, if_granted}
use Rattle.table.specs.declared.Refusal.TheVariants.{ParameterCount}
use Rattle.table.specs.declared.Refusal.{Refusal}
use Rattle.table.proofs.Choice.{never}
use Rattle.ieee.specs.Range.{nought, one}
use Rattle.ieee.proofs.NoNan.{no_nan, Unquotable, neg_div_nan}
use Rattle.parametric.specs.declared.ParametricCurve.{ParametricCurve}
use Rattle.parametric.specs.Unify.{parameter, counted, unified}
use Rattle.parametric.specs.Promises.{value_of_unified, no_curve, NewPromise}
use Rattle.parametric.proofs.Unify.{then_seven}

-- d of n parameters: as the others are, or of three and of four the quotient
abbrev pub Quotient : ℕ → ParametricCurve → Type 0
Quotient n y = ((n ≡ 3) ⊎ (n ≡ 4)) × (y.d ≡ div binary32 (neg y.b) y.a)

pub record Kept (P : Float → Type 0) (n : ℕ) (y : ParametricCurve) : Type 0 where
  pub g_kept : P y.g
  pub a_kept : P y.a
  pub b_kept : P y.b
  pub c_kept : P y.c
  pub d_kept : P y.d ⊎ Quotient n y
  pub e_kept : P y.e
  pub f_kept : P y.f

module _ (P : Float → Type 0) (zero : P nought) (unit : P one) where
  abbrev Each : List Float → Type 0
  Each l = (i : ℕ) → i < length l → P (parameter l i)

  pub none_kept : (n : ℕ) → Kept P n no_curve
  none_kept n = record {
    g_kept = zero;
    a_kept = zero;
    b_kept = zero;
    c_kept = zero;
    d_kept = inl zero;
    e_kept = zero;
    f_kept = zero;
  }

  pub unified_kept : (l : List Float) → counted (length l) ≡ true → Each l → Kept P (length l) (unified l)
  unfolding unified counted
  unified_kept [] h p = absurd (never h)
  unified_kept (g ∷ []) h p = record {
    g_kept = p 0 (lit< tt);
    a_kept = unit;
    b_kept = zero;
    c_kept = zero;
    d_kept = inl zero;
    e_kept = zero;
    f_kept = zero;
  }
  unified_kept (g ∷ a ∷ []) h p = absurd (never h)
  unified_kept (g ∷ a ∷ b ∷ []) h p = record {
    g_kept = p 0 (lit< tt);
    a_kept = p 1 (lit< tt);
    b_kept = p 2 (lit< tt);
    c_kept = zero;
    d_kept = inr (inl refl, refl);
    e_kept = zero;
    f_kept = zero;
  }
  unified_kept (g ∷ a ∷ b ∷ c ∷ []) h p = record {
    g_kept = p 0 (lit< tt);
    a_kept = p 1 (lit< tt);
    b_kept = p 2 (lit< tt);
    c_kept = zero;
    d_kept = inr (inr refl, refl);
    e_kept = p 3 (lit< tt);
    f_kept = p 3 (lit< tt);
  }
  unified_kept (g ∷ a ∷ b ∷ c ∷ d ∷ []) h p = record {
    g_kept = p 0 (lit< tt);
    a_kept = p 1 (lit< tt);
    b_kept = p 2 (lit< tt);
    c_kept = p 3 (lit< tt);
    d_kept = inl (p 4 (lit< tt));
    e_kept = zero;
    f_kept = zero;
  }
  unified_kept (g ∷ a ∷ b ∷ c ∷ d ∷ e ∷ []) h p = absurd (never h)
  unified_kept (g ∷ a ∷ b ∷ c ∷ d ∷ e ∷ f ∷ []) h p = record {
    g_kept = p 0 (lit< tt);
    a_kept = p 1 (lit< tt);
    b_kept = p 2 (lit< tt);
    c_kept = p 3 (lit< tt);
    d_kept = inl (p 4 (lit< tt));
    e_kept = p 5 (lit< tt);
    f_kept = p 6 (lit< tt);
  }
  unified_kept (g ∷ a ∷ b ∷ c ∷ d ∷ e ∷ f ∷ x ∷ l) h p =
      let k = length (g ∷ a ∷ b ∷ c ∷ d ∷ e ∷ f ∷ x ∷ l) in
      let z : k ≡ 7 = then_seven k h (λ q. omega arith) (λ q. omega arith) (λ q. omega arith) (λ q. omega arith) in
      absurd (omega arith)

  -- of any list, granted or refused
  pub new_kept : {params : List Float} {r : Result ParametricCurve Refusal} → Each params → NewPromise params r
      → Kept P (length params) (value_of_unified r)
  new_kept {params} {r} p a = subst (Kept P (length params)) (sym a.value) (go (counted (length params)) refl)
    where
      go : (b : Bool) → counted (length params) ≡ b
          → Kept P (length params) (if_granted (rung b ParameterCount granted) (unified params) no_curve)
      go true h = unified_kept params h p
      go false h = none_kept (length params)

-- ---- a NaN
abbrev pub NotNan : Float → Type 0
NotNan x = x ≡ nan → ⊥

zero_not : NotNan nought
unfolding is_nan
zero_not = no_nan nought refl

one_not : NotNan one
unfolding is_nan
one_not = no_nan one refl

-- Where no parameter is a NaN, no field but d is one. [parametric::ParametricCurve::new]
pub new_no_nan : {params : List Float} {r : Result ParametricCurve Refusal}
    → ((i : ℕ) → i < length params → NotNan (parameter params i))
    → NewPromise params r → Kept NotNan (length params) (value_of_unified r)
new_no_nan = new_kept NotNan zero_not one_not

-- Where no parameter is a NaN, d is a NaN only for three or four parameters, and only if a and b are both 0 or both
-- infinite. [parametric::ParametricCurve::new]
pub new_d_nan : {n : ℕ} {y : ParametricCurve} → Kept NotNan n y → y.d ≡ nan
    → ((n ≡ 3) ⊎ (n ≡ 4)) × Unquotable y.b y.a
new_d_nan {n} {y} k e =
    ⊎_elim (λ p. absurd (p e)) (λ q. (q.0, neg_div_nan binary32 y.b y.a (sym q.1 ∙ e))) k.d_kept
