-- What is known from a test that is made of others, and from a test that a call answered. Assumes nothing.
use mathlib.Core.Path.{◌≡◌, ◌∙◌, refl, sym}
use mathlib.Core.Logic.{◌⊎◌, inl, inr}
use mathlib.Core.Bool.{Bool, true, false, not}
use Prim.Native.Nat.{ℕ, ◌≤◌, ◌<◌}
use native.Mathlib.Omega.{arith}
use native.Mathlib.Nat.{lt_of_not-le, not-le_of_lt}
use borrow.Author.Tests.{not-true, not-false, ltb-true, ltb-false, leb-true, leb-false, le-leb, lt-leb, eqb-true}
use borrow.Author.Tests.{eqb-false}
use lib.Dec.{ltb, leb, eqb}
use Rattle.table.specs.Choice.{both}

pub never : false ≡ true → ⊥
never e = let z : ◌≡◌ {A = ℕ} 0 1 = cc in omega arith

pub both_left : (a b : Bool) → both a b ≡ true → a ≡ true
both_left true b e = refl
both_left false b e = e

pub both_right : (a b : Bool) → both a b ≡ true → b ≡ true
both_right true b e = e
both_right false b e = absurd (never e)

-- after `if !f(..)`, where f ensures that its result r is the test b: the branch that is taken, and the way past it
pub fails : {r b : Bool} → r ≡ b → not r ≡ true → b ≡ false
fails {r} e h = sym e ∙ not-true r h

pub holds : {r b : Bool} → r ≡ b → not r ≡ false → b ≡ true
holds {r} e h = sym e ∙ not-false r h

-- two numbers are equal or not, and in order one way or the other
pub same? : (a b : ℕ) → (a ≡ b) ⊎ (a ≡ b → ⊥)
same? a b = go (eqb a b) refl
  where
    go : (t : Bool) → eqb a b ≡ t → (a ≡ b) ⊎ (a ≡ b → ⊥)
    go true e = inl (eqb-true a b e)
    go false e = inr (eqb-false a b e)

pub below? : (a b : ℕ) → (a < b) ⊎ (b ≤ a)
below? a b = go (ltb a b) refl
  where
    go : (t : Bool) → ltb a b ≡ t → (a < b) ⊎ (b ≤ a)
    go true e = inl (ltb-true a b e)
    go false e = inr (ltb-false a b e)

-- two tests are one where each tells the other
pub same_test : (a b c d : ℕ) → (c ≤ d → a ≤ b) → (a ≤ b → c ≤ d) → leb a b ≡ leb c d
same_test a b c d f g = go (leb c d) refl
  where
    go : (t : Bool) → leb c d ≡ t → leb a b ≡ t
    go true e = le-leb a b (f (leb-true c d e))
    go false e = lt-leb a b (lt_of_not-le (λ h. not-le_of_lt (leb-false c d e) (g h)))
