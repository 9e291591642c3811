-- Arithmetic with a zero of either sign, and a number with itself. Assumes nothing.
use mathlib.Core.Path.{◌≡◌, refl, sym, ap, ap₂, ◌∙◌, subst}
use Prim.Native.Nat.{ℕ, suc, ◌+◌, ◌-◌, ◌*◌, ◌<◌}
use native.Mathlib.Nat.{mul-pos, mul-one, mul-zero, zero-mul, mul_right_comm, mul_assoc, zero-lt-suc, le_refl, sub_self}
use native.Mathlib.Nat.{add-zero, sub-zero}
use native.Mathlib.Omega.{arith}
use mathlib.Core.Bool.{Bool, true, false, not, ◌&&◌, ◌||◌, beq, cond}
use lib.IntN.{ℤ, pos}
use lib.Dec.{T, eqb, ltb, eqb_refl}
use lib.Pow.{pow_pos}
use borrow.Author.Tests.{lt-ltb, le-ltb}
use lib.Ieee.{Float, nan, inf, fin, Format, up, down, unlike, fits, round, add, sub, mul, sum, lt, eq, le}
use lib.Ieee.Fits.{up_pos, down_pos, and_i}
use lib.Ieee.Scale.{finite}
use Rattle.ieee.specs.Range.{nought}
use Rattle.ieee.proofs.Tests.{or_right}
use Rattle.ieee.proofs.Operations.{mul_of}
use Rattle.ieee.proofs.Value.{round_id}

-- a zero of either sign
abbrev pub null : Bool → Float
null s = fin s 0 (pos 0)

null_fits : (f : Format) (s : Bool) → T (fits f (null s))
unfolding fits
null_fits f s = tt

round_null : (f : Format) (s : Bool) (a c : ℕ) → 0 < c → a ≡ 0 → round f s a c ≡ null s
round_null f s a c C e = round_id f (null s) s a c (null_fits f s) C (refl, zero-mul c ∙ sym (mul-one a ∙ e))

-- 0 has one way to be written for each sign
pub zero_is_null : (f : Format) (s : Bool) (e : ℤ) → T (fits f (fin s 0 e)) → fin s 0 e ≡ null s
zero_is_null f s e F =
    sym (round_id f (fin s 0 e) s 0 1 F (pow_pos 0)
    (refl, mul-one (0 * up e) ∙ zero-mul (up e) ∙ sym (zero-mul (down e)))) ∙ round_null f s 0 1 (pow_pos 0) refl

zero_size : (e : ℤ) (c : ℕ) → 0 * up e * c ≡ 0
zero_size e c = ap (λ (z : ℕ). z * c) (zero-mul (up e)) ∙ zero-mul c

-- ---- x * 0
pub times_zero : (f : Format) (s t : Bool) (m : ℕ) (e d : ℤ) → mul f (fin s m e) (fin t 0 d) ≡ null (unlike s t)
times_zero f s t m e d =
    mul_of f (fin s m e) (fin t 0 d) s t (m * up e) (down e) (0 * up d) (down d) (down_pos e) (down_pos d)
    (refl, refl) (refl, refl)
    ∙ round_null f (unlike s t) (m * up e * (0 * up d)) (down e * down d) (mul-pos (down_pos e) (down_pos d))
    (ap (λ (z : ℕ). m * up e * z) (zero-mul (up d)) ∙ mul-zero (m * up e))

pub zero_times : (f : Format) (s t : Bool) (n : ℕ) (e d : ℤ) → mul f (fin s 0 e) (fin t n d) ≡ null (unlike s t)
zero_times f s t n e d =
    mul_of f (fin s 0 e) (fin t n d) s t (0 * up e) (down e) (n * up d) (down d) (down_pos e) (down_pos d)
    (refl, refl) (refl, refl)
    ∙ round_null f (unlike s t) (0 * up e * (n * up d)) (down e * down d) (mul-pos (down_pos e) (down_pos d))
    (zero_size e (n * up d))

-- ---- x + 0
same_sum : (f : Format) (s t : Bool) (a b c : ℕ) → 0 < a → b ≡ 0 → sum f s a t b c ≡ round f s a c
unfolding sum
same_sum f true true a b c p e = ap (λ (z : ℕ). round f true z c) (ap (λ (z : ℕ). a + z) e ∙ add-zero a)
same_sum f false false a b c p e = ap (λ (z : ℕ). round f false z c) (ap (λ (z : ℕ). a + z) e ∙ add-zero a)
same_sum f true false a b c p e =
    ap (λ (t : Bool). cond t (round f false (b - a) c) (round f (ltb b a) (a - b) c)) (le-ltb a b (omega arith))
    ∙ ap₂ (λ (t : Bool) (z : ℕ). round f t z c) (lt-ltb b a (omega arith)) (ap (λ (z : ℕ). a - z) e ∙ sub-zero a)
same_sum f false true a b c p e =
    ap (λ (t : Bool). cond t (round f true (b - a) c) (round f false (a - b) c)) (le-ltb a b (omega arith))
    ∙ ap (λ (z : ℕ). round f false z c) (ap (λ (z : ℕ). a - z) e ∙ sub-zero a)

pub plus_zero : (f : Format) (s t : Bool) (m : ℕ) (e d : ℤ) → T (fits f (fin s (suc m) e))
    → add f (fin s (suc m) e) (fin t 0 d) ≡ fin s (suc m) e
unfolding add
plus_zero f s t m e d F =
    same_sum f s t (suc m * up e * down d) (0 * up d * down e) (down e * down d)
    (mul-pos (mul-pos (zero-lt-suc m) (up_pos e)) (down_pos d)) (zero_size d (down e))
    ∙ round_id f (fin s (suc m) e) s (suc m * up e * down d) (down e * down d) F (mul-pos (down_pos e) (down_pos d))
    (refl, sym (mul_assoc (suc m * up e) (down e) (down d)) ∙ mul_right_comm (suc m * up e) (down e) (down d))

null_sum : (f : Format) (s t : Bool) (a b c : ℕ) → 0 < c → a ≡ 0 → b ≡ 0 → sum f s a t b c ≡ null (s && t)
unfolding sum
null_sum f s t a b c C p q = ap₂ (λ (x y : ℕ). sum f s x t y c) p q ∙ go s t
  where
    go : (s t : Bool) → sum f s 0 t 0 c ≡ null (s && t)
    go true true = round_null f true 0 c C refl
    go true false = round_null f false 0 c C refl
    go false true = round_null f false 0 c C refl
    go false false = round_null f false 0 c C refl

pub zero_plus_zero : (f : Format) (s t : Bool) (e d : ℤ) → add f (fin s 0 e) (fin t 0 d) ≡ null (s && t)
unfolding add
zero_plus_zero f s t e d =
    null_sum f s t (0 * up e * down d) (0 * up d * down e) (down e * down d) (mul-pos (down_pos e) (down_pos d))
    (zero_size e (down d)) (zero_size d (down e))

-- ---- x - x
self_sum : (f : Format) (s : Bool) (a c : ℕ) → 0 < c → sum f s a (not s) a c ≡ nought
unfolding sum
self_sum f true a c C =
    ap (λ (t : Bool). cond t (round f false (a - a) c) (round f t (a - a) c)) (le-ltb a a (le_refl a))
    ∙ round_null f false (a - a) c C (sub_self a)
self_sum f false a c C =
    ap (λ (t : Bool). cond t (round f true (a - a) c) (round f false (a - a) c)) (le-ltb a a (le_refl a))
    ∙ round_null f false (a - a) c C (sub_self a)

minus_self : (f : Format) (s : Bool) (m : ℕ) (e : ℤ) → sub f (fin s m e) (fin s m e) ≡ nought
unfolding sub
minus_self f s m e = self_sum f s (m * up e * down e) (down e * down e) (mul-pos (down_pos e) (down_pos e))

pub minus_itself : (f : Format) (x : Float) → T (finite x) → sub f x x ≡ nought
minus_itself f nan F = absurd F
minus_itself f (inf s) F = absurd F
minus_itself f (fin s m e) F = minus_self f s m e

-- ---- equal as numbers
pub equals_itself : (x : Float) → T (finite x) → T (eq x x)
unfolding eq
equals_itself nan F = F
equals_itself (inf s) F = absurd F
equals_itself (fin true m e) F =
    and_i (eqb (m * up e * down e) (m * up e * down e)) true (eqb_refl (m * up e * down e)) tt
equals_itself (fin false m e) F =
    and_i (eqb (m * up e * down e) (m * up e * down e)) true (eqb_refl (m * up e * down e)) tt

pub zeros_equal : (s t : Bool) (e d : ℤ) → T (eq (fin s 0 e) (fin t 0 d))
unfolding eq
zeros_equal s t e d =
    go (beq s t) (0 * up e * down d) (0 * up d * down e) (zero_size e (down d)) (zero_size d (down e))
  where
    at_zero : (b : Bool) → T (eqb 0 0 && (b || eqb 0 0))
    at_zero true = tt
    at_zero false = tt

    go : (b : Bool) (x y : ℕ) → x ≡ 0 → y ≡ 0 → T (eqb x y && (b || eqb x 0))
    go b x y p q =
        subst (λ (z : ℕ). T (eqb z y && (b || eqb z 0))) (sym p)
        (subst (λ (z : ℕ). T (eqb 0 z && (b || eqb 0 0))) (sym q) (at_zero b))

pub zeros_ordered : (s t : Bool) (e d : ℤ) → T (le (fin s 0 e) (fin t 0 d))
unfolding le
zeros_ordered s t e d = or_right (lt (fin s 0 e) (fin t 0 d)) (eq (fin s 0 e) (fin t 0 d)) (zeros_equal s t e d)
