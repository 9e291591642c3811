-- A search for a drive at which the curve falls: that none of the steps so far fell, and what it comes to. Assumes
-- nothing.
use mathlib.Core.Path.{◌≡◌, sym, subst}
use mathlib.Core.Logic.{⊎_elim}
use mathlib.Core.Bool.{true, false}
use mathlib.Core.List.{List}
use Prim.Native.Nat.{ℕ, ◌+◌, ◌≤◌, ◌<◌}
use native.Mathlib.Omega.{arith}
use Rattle.table.proofs.Choice.{below?, never}
use Rattle.placing.specs.Falls.{FallsAt, Falls, Tells}

module _ (t : List ℕ) where
  -- none of the steps from `first` to p falls
  pub record NoneYet (first p : ℕ) : Type 0 where
    pub none : (q : ℕ) → first ≤ q → q < p → FallsAt t q → ⊥

  pub none_more : {first p : ℕ} → NoneYet first p → (FallsAt t p → ⊥) → NoneYet first (p + 1)
  none_more {first} {p} h new =
      record {
        none =
            λ q l m.
            ⊎_elim
            (λ (s : q < p). h.none q l s)
            (λ (s : p ≤ q). let e : p ≡ q = omega arith in subst (λ (y : ℕ). FallsAt t y → ⊥) e new)
            (below? q p);
      }

  -- the search finds one, or has passed all
  pub found : {first p last : ℕ} → first ≤ p → p < last → FallsAt t p → Tells true (Falls t first last)
  found {first} {p} l m f =
      record { yes = λ e. record { drive = p; from = l; to = m; falls = f }; no = λ e. absurd (never (sym e)) }

  pub not_found : {first p last : ℕ} → last ≤ p → NoneYet first p → Tells false (Falls t first last)
  not_found l h =
      record { yes = λ e. absurd (never e); no = λ e f. h.none f.drive f.from (omega arith) f.falls }
