-- The extreme of one drive, and of a span with one drive more: the same point, or the new one in its place. Assumes
-- nothing.
use mathlib.Core.Path.{◌≡◌, ◌∙◌, refl, sym, ap, subst}
use mathlib.Core.Logic.{⊎_elim}
use mathlib.Core.Bool.{Bool, true, false}
use mathlib.Core.List.{List}
use Prim.Native.Nat.{ℕ, ◌+◌, ◌≤◌, ◌<◌}
use native.Mathlib.Omega.{arith}
use Rattle.table.proofs.Choice.{below?}
use Rattle.placing.specs.declared.inside.Point.{Point}
use Rattle.placing.specs.Place.{density_at}
use Rattle.placing.specs.Reach.{Within, PointAt, Replaced, taken, kept, Extreme}

module _ (upto : ℕ → ℕ → Type 0) (same : (d : ℕ) → upto d d) (t : List ℕ) (first : ℕ) where
  pub one : (x : Point) → PointAt t first x → Extreme upto t first first x
  one x a =
      record {
        place = record { from = omega arith; to = omega arith };
        density = a.density ∙ ap (density_at t) (sym a.drive);
        none_beyond =
            λ p w.
            let e : first ≡ p = omega arith in
            rw a.density (subst (λ (y : ℕ). upto (density_at t first) (density_at t y)) e (same (density_at t first)));
      }

  -- what is `upto` each density of a span, and the next, is `upto` each of the wider one
  each : (q d : ℕ) → ((p : ℕ) → Within first q p → upto d (density_at t p)) → upto d (density_at t (q + 1))
      → (p : ℕ) → Within first (q + 1) p → upto d (density_at t p)
  each q d old new p w =
      ⊎_elim
      (λ (l : p < q + 1). old p (record { from = w.from; to = omega arith }))
      (λ (l : q + 1 ≤ p). let e : q + 1 ≡ p = omega arith in subst (λ (y : ℕ). upto d (density_at t y)) e new)
      (below? p (q + 1))

  -- the new point y takes the place of x where the test says so
  pub widen : {q : ℕ} {x y z : Point} {b : Bool} → Replaced x y b z → first ≤ q → Extreme upto t first q x
      → PointAt t (q + 1) y → (b ≡ true → (d : ℕ) → upto x.density.0 d → upto y.density.0 d)
      → (b ≡ false → upto x.density.0 y.density.0) → Extreme upto t first (q + 1) z
  widen {q} {x} {y} taken some h a beyond upto_new =
      record {
        place = record { from = omega arith; to = omega arith };
        density = a.density ∙ ap (density_at t) (sym a.drive);
        none_beyond =
            each q y.density.0 (λ p w. beyond refl (density_at t p) (h.none_beyond p w))
            (rw a.density (same (density_at t (q + 1))));
      }
  widen {q} {x} kept some h a beyond upto_new =
      record {
        place = record { from = h.place.from; to = omega arith };
        density = h.density;
        none_beyond = each q x.density.0 h.none_beyond (rw a.density at (upto_new refl));
      }
