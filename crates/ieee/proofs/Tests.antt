-- What a program's tests and constants say: `x != x`, the comparisons with 0.0, and the patterns of 0.0 and 1.0.
-- Assumes nothing.
use mathlib.Core.Path.{◌≡◌, refl, sym, ap, ◌∙◌, subst}
use Prim.Native.Nat.{ℕ, suc, ◌+◌, ◌*◌, ◌≤◌, ◌<◌}
use native.Mathlib.Nat.{le_of_lt, le_of_eq, lt_irrefl, not-le_of_lt, zero-lt-suc, zero-mul, mul-pos}
use native.Mathlib.Omega.{arith}
use mathlib.Core.Bool.{Bool, true, false, not, ◌&&◌, ◌||◌}
use lib.IntN.{ℤ}
use lib.Dec.{T, ltb, eqb, ltb→lt, lt→ltb, eqb→eq}
use lib.Pow.{pow_pos}
use lib.Ieee.{Float, nan, inf, fin, Format, binary32, binary64, emax, hid, up, down, is_nan, ne, lt, le, of_bits}
use lib.Ieee.Compare.{differs_from_itself, nan_differs}
use lib.Ieee.Fits.{up_pos, and_l}
use Rattle.ieee.specs.Range.{nought, one}

-- ---- `x != x` tells a NaN
pub differs_is_nan : (x : Float) (b : Bool) → ne x x ≡ b → is_nan x ≡ b
unfolding is_nan
differs_is_nan nan b h = sym nan_differs ∙ h
differs_is_nan (inf s) false h = refl
differs_is_nan (fin s m e) false h = refl
differs_is_nan (inf s) true h = ap is_nan (differs_from_itself (inf s) (subst T (sym h) tt))
differs_is_nan (fin s m e) true h = ap is_nan (differs_from_itself (fin s m e) (subst T (sym h) tt))

pub not_nan : (x : Float) → ne x x ≡ false → T (not (is_nan x))
not_nan x h = subst (λ (b : Bool). T (not b)) (sym (differs_is_nan x false h)) tt

-- ---- the constants 0.0 and 1.0
pub bits_nought : (f : Format) → of_bits f 0 ≡ nought
unfolding of_bits
bits_nought binary32 = refl
bits_nought binary64 = refl

pub bits_one : (f : Format) → of_bits f (emax f * hid f) ≡ one
unfolding of_bits
bits_one binary32 = refl
bits_one binary64 = refl

-- ---- comparisons of numbers, and with 0
pub or_left : (a b : Bool) → T a → T (a || b)
or_left true b t = tt
or_left false b t = absurd t

pub or_right : (a b : Bool) → T b → T (a || b)
or_right true b t = tt
or_right false b t = t

-- `a < b || a == b`, the sizes of two numbers
pub or_le : (a b : ℕ) (c : Bool) → T (ltb a b || (eqb a b && c)) → a ≤ b
or_le a b c t = go (ltb a b) (ltb→lt a b) t
  where
    go : (u : Bool) → (T u → a < b) → T (u || (eqb a b && c)) → a ≤ b
    go true h t = le_of_lt (h tt)
    go false h t = le_of_eq (eqb→eq a b (and_l (eqb a b) c t))

pub negative_under : (m : ℕ) (e : ℤ) → T (lt (fin true (suc m) e) nought)
unfolding lt
negative_under m e =
    lt→ltb 0 (suc m * up e * 1 + 0 * down e)
    (more (suc m * up e * 1) (0 * down e) (mul-pos (mul-pos (zero-lt-suc m) (up_pos e)) (pow_pos 0)))
  where
    more : (a b : ℕ) → 0 < a → 0 < a + b
    more a b h = omega arith

pub negative_not_over : (m : ℕ) (e : ℤ) → T (le nought (fin true (suc m) e)) → ⊥
unfolding le
negative_not_over m e t =
    let z : 0 * down e ≡ suc m * up e * 1 = eqb→eq (0 * down e)
    (suc m * up e * 1) (and_l (eqb (0 * down e) (suc m * up e * 1)) (false || eqb (0 * down e) 0) t) in
    lt_irrefl 0
    (subst (λ (y : ℕ). 0 < y) (sym z ∙ zero-mul (down e)) (mul-pos (mul-pos (zero-lt-suc m) (up_pos e)) (pow_pos 0)))

pub positive_not_under : (m : ℕ) (e : ℤ) → T (le (fin false (suc m) e) nought) → ⊥
unfolding le
positive_not_under m e t =
    not-le_of_lt (mul-pos (mul-pos (zero-lt-suc m) (up_pos e)) (pow_pos 0))
    (subst (λ (z : ℕ). suc m * up e * 1 ≤ z) (zero-mul (down e)) (or_le (suc m * up e * 1) (0 * down e) true t))
