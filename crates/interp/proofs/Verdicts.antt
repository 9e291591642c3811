-- From a call's tests to its promise: which rung refused it, or that none did. Assumes nothing.
use mathlib.Core.Path.{◌≡◌, ◌∙◌, sym, subst}
use mathlib.Core.Bool.{true, false}
use mathlib.Core.List.{List}
use Prim.Native.Nat.{ℕ, ◌-◌}
use native.Mathlib.Omega.{arith}
use borrow.Author.Tests.{leb-true}
use lib.ListN.{length, get_or}
use lib.Dec.{T}
use lib.Ieee.{Float, nan, binary32, fits}
use Rattle.std.specs.Prelude.{Ok, Err}
use Rattle.table.specs.Sizes.{sized, not_above}
use Rattle.table.specs.Refusals.{granted}
use Rattle.table.specs.declared.Refusal.TheVariants.{TableLength, OutsideUnit}
use Rattle.table.proofs.Choice.{never}
use Rattle.table.proofs.Sizes.{is_within}
use Rattle.table.proofs.Refusals.{rung_granted}
use Rattle.interp.specs.Interp.{float_looked_up, outside_unit, linear_looked_up}
use Rattle.interp.specs.Promises.{EndsExact, FloatPromise, LinearPromise}
use Rattle.interp.proofs.Ends.{ends_exact}

module _ (t : List Float) (x : Float) where
  -- On a table of no entry or more than 65,536, refusing with 1 keeps the promise. [interp::lut_interp_linear_float]
  pub float_refused : sized (length t) ≡ false → FloatPromise t x (Err TableLength)
  float_refused f = record {
    number = simp f;
    value = simp f;
    ends = λ g. absurd (never (sym f ∙ (rung_granted (sized (length t)) TableLength granted g).0));
  }

  -- On a table of 1 to 65,536 entries the defined float keeps the promise. [interp::lut_interp_linear_float]
  pub float_granted : (r : Float) → sized (length t) ≡ true → ((i : ℕ) → T (fits binary32 (get_or t i nan)))
      → T (fits binary32 x) → r ≡ float_looked_up t x → FloatPromise t x (Ok r)
  float_granted r h entries X e = record {
    number = simp h;
    value = simp h e;
    ends = λ g. subst (EndsExact t x) (sym e) (ends_exact t h x X (entries (length t - 1)) (entries 0));
  }

module _ (t : List ℕ) (x : Float) where
  -- On more than 65,536 entries refusing with 1 keeps the promise. [interp::lut_interp_linear]
  pub too_long : not_above (length t) ≡ false → LinearPromise t x (Err TableLength)
  too_long f = record { number = simp f; value = simp f }

  module _ (h : not_above (length t) ≡ true) where
    -- On at most 65,536 entries, for an x that is a NaN, below 0 or above 1, refusing with 13 keeps the promise.
    -- [interp::lut_interp_linear]
    pub not_unit : outside_unit x ≡ true → LinearPromise t x (Err OutsideUnit)
    not_unit f = record { number = simp (h, f); value = simp (h, f) }

    -- On at most 65,536 entries, for x from 0 to 1, the defined float keeps the promise. [interp::lut_interp_linear]
    pub linear_granted : (r : Float) → outside_unit x ≡ false → r ≡ linear_looked_up t x
        → LinearPromise t x (Ok r)
    linear_granted r f e = record { number = simp (h, f); value = simp (h, f) e }

    -- a table that is not too long, and not empty
    pub not_empty : (length t ≡ 0 → ⊥) → sized (length t) ≡ true
    not_empty n = is_within 1 65536 (length t) (omega arith) (leb-true (length t) 65536 h)
