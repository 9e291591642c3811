-- The whole number closest to a quotient, a tie to the even one (`closest`): by a program's tests, and between bounds.
-- Nothing here is about floats. Assumes nothing.
use mathlib.Core.Path.{◌≡◌, refl, sym, ap, ◌∙◌, subst}
use Prim.Native.Nat.{ℕ, suc, ◌+◌, ◌*◌, ◌/◌, ◌%◌, ◌≤◌, ◌<◌, compare, Ordering}
use native.Mathlib.Nat.{le_trans, le_of_eq, div-lt_iff_lt-mul, le-div_iff_mul-le, div-eq_of_lt, mod-eq_of_lt}
use native.Mathlib.Nat.{div-add-mod', add-mul, one-mul, mul-le-mul_right}
use native.Mathlib.Omega.{arith}
use mathlib.Core.Bool.{not}
use lib.Dec.{T, eqb, is_le, compare_is_eq, leb→le, nleb→lt, eqb→eq, eqb_refl}
use lib.Arith.{lt_of_le-ne}
use lib.Ieee.{nearest}
use lib.Ieee.Fits.{nearest-le}
use lib.Ieee.Nearest.{closest, nearest-ge}

-- what `compare` says
abbrev Cmp : Ordering → ℕ → ℕ → Type 0
Cmp Ordering.lt a b = a < b
Cmp Ordering.eq a b = a ≡ b
Cmp Ordering.gt a b = b < a

cmp : (a b : ℕ) → Cmp (compare a b) a b
cmp a b =
    go (compare a b) (leb→le a b) (nleb→lt a b) (eqb→eq a b)
    (λ (e : a ≡ b). subst (λ (x : ℕ). T (eqb a x)) e (eqb_refl a))
  where
    go : (o : Ordering) → (T (is_le o) → a ≤ b) → (T (not (is_le o)) → b < a) → (T (compare_is_eq o) → a ≡ b)
        → (a ≡ b → T (compare_is_eq o)) → Cmp o a b
    go Ordering.lt h k e n = lt_of_le-ne (h tt) n
    go Ordering.eq h k e n = e tt
    go Ordering.gt h k e n = k tt

-- ---- by twice the remainder
pub closest_less : (n d : ℕ) → n % d * 2 < d → closest n d ≡ n / d
closest_less n d h = go (compare (n % d * 2) d) (cmp (n % d * 2) d)
  where
    go : (o : Ordering) → Cmp o (n % d * 2) d → nearest (n / d) o ≡ n / d
    go Ordering.lt k = refl
    go Ordering.eq k = omega arith
    go Ordering.gt k = omega arith

-- an odd quotient turns a tie into more than the divisor
pub closest_up : (n d : ℕ) → d < n % d * 2 + n / d % 2 → closest n d ≡ n / d + 1
closest_up n d h = go (compare (n % d * 2) d) (cmp (n % d * 2) d)
  where
    go : (o : Ordering) → Cmp o (n % d * 2) d → nearest (n / d) o ≡ n / d + 1
    go Ordering.lt k = omega arith
    go Ordering.eq k = omega arith
    go Ordering.gt k = omega arith

pub closest_down : (n d : ℕ) → n % d * 2 + n / d % 2 ≤ d → closest n d ≡ n / d
closest_down n d h = go (compare (n % d * 2) d) (cmp (n % d * 2) d)
  where
    go : (o : Ordering) → Cmp o (n % d * 2) d → nearest (n / d) o ≡ n / d
    go Ordering.lt k = refl
    go Ordering.eq k = omega arith
    go Ordering.gt k = omega arith

-- ---- between bounds
pub closest_none : (n d : ℕ) → n * 2 < d → closest n d ≡ 0
closest_none n d h =
    let l : n < d = omega arith in
    let r : n % d * 2 < d = subst (λ (z : ℕ). z * 2 < d) (sym (mod-eq_of_lt l)) h in
    closest_less n d r ∙ div-eq_of_lt l

pub closest_le : (n d p : ℕ) → 0 < d → n < p * d → closest n d ≤ p
closest_le n d p D h = le_trans (nearest-le (n / d) (compare (n % d * 2) d)) ((div-lt_iff_lt-mul D).1 h)

pub closest_ge : (n d p : ℕ) → 0 < d → p * d ≤ n → p ≤ closest n d
closest_ge n d p D h = le_trans ((le-div_iff_mul-le D).1 h) (nearest-ge (n / d) (compare (n % d * 2) d))

-- never more than half the divisor too much
pub closest_over : (n d : ℕ) → 0 < d → closest n d * d * 2 ≤ n * 2 + d
closest_over n d D = go (compare (n % d * 2) d) (cmp (n % d * 2) d)
  where
    parts : n / d * d + n % d ≡ n
    parts = div-add-mod' n d

    more : (n / d + 1) * d ≡ n / d * d + d
    more = add-mul (n / d) 1 d ∙ ap (λ (z : ℕ). n / d * d + z) (one-mul d)

    up_to : (z : ℕ) → z ≤ n / d + 1 → d ≤ n % d * 2 → z * d * 2 ≤ n * 2 + d
    up_to z h k = omega (arith, parts, more, mul-le-mul_right d h)

    go : (o : Ordering) → Cmp o (n % d * 2) d → nearest (n / d) o * d * 2 ≤ n * 2 + d
    go Ordering.lt k = omega (arith, parts)
    go Ordering.eq k = up_to (n / d + n / d % 2) (omega arith) (le_of_eq (sym k))
    go Ordering.gt k = up_to (suc (n / d)) (omega arith) (omega arith)
