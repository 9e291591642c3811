-- A format holds one value of each size and sign (`value_unique`), so `round` gives back what the format holds
-- (`round_id`). Assumes nothing.
use mathlib.Core.Path.{◌≡◌, refl, sym, ap, ◌∙◌, subst}
use Prim.Native.Nat.{ℕ, zero, suc, ◌+◌, ◌-◌, ◌*◌, ◌/◌, ◌%◌, ◌^◌, ◌≤◌, ◌<◌}
use native.Mathlib.Nat.{le_of_suc-le-suc, lt_of_not-le, lt_of_lt_of_le, lt_irrefl, zero-lt-suc, zero-mul, mul-one}
use native.Mathlib.Nat.{mul_comm, mul_assoc, mul_right_comm, mul-pos, eq_of_mul-eq-mul_right, lt_of_mul-lt-mul_right}
use native.Mathlib.Nat.{mul-lt-mul_of_pos_right}
use mathlib.Core.Bool.{Bool, ◌&&◌, cond}
use lib.IntN.{ℤ, pos, negsuc}
use lib.Dec.{T, leb, ltb, eqb, ltb→lt, leb→le}
use lib.Pow.{pow-add, pow_pos, pow-lt}
use lib.Ieee.{Float, nan, inf, fin, Format, prec, emax, low, up, down, size, round, fits, hid, top, to_bits, of_bits}
use lib.Ieee.Fits.{down_pos, and_l, and_r, round-fits}
use lib.Ieee.Bits.{of_bits-to_bits}
use lib.Ieee.Digits.{back}
use lib.Ieee.Exact.{HasValue, round_exact}
use lib.Ieee.Nearest.{div_same}

-- x / d is a / c, and y / e is a / c too
same_fraction : (x d y e a c : ℕ) → 0 < c → x * c ≡ a * d → y * c ≡ a * e → x * e ≡ y * d
same_fraction x d y e a c C p q =
    eq_of_mul-eq-mul_right c C (x * e) (y * d)
    (mul_right_comm x e c ∙ ap (λ (z : ℕ). z * e) p ∙ mul_right_comm a d e ∙ ap (λ (z : ℕ). z * d) (sym q)
    ∙ mul_right_comm y c d)

same_bits : (f : Format) (s : Bool) (m : ℕ) (e : ℤ) (n : ℕ) (d : ℤ) → m * up e * down d ≡ n * up d * down e
    → to_bits f (fin s m e) ≡ to_bits f (fin s n d)
unfolding to_bits
same_bits f s m e n d h =
    ap (λ (z : ℕ). cond s (top f) 0 + (size z - prec f) * hid f + z / 2 ^ (size z - prec f))
    (div_same (m * up e * 2 ^ low f) (down e) (n * up d * 2 ^ low f) (down d) (down_pos e) (down_pos d)
    (mul_right_comm (m * up e) (2 ^ low f) (down d) ∙ ap (λ (z : ℕ). z * 2 ^ low f) h
    ∙ mul_right_comm (n * up d) (down e) (2 ^ low f)))

pub value_unique : (f : Format) (x y : Float) (s : Bool) (a c : ℕ) → T (fits f x) → T (fits f y) → 0 < c
    → HasValue x s a c → HasValue y s a c → x ≡ y
value_unique f nan y s a c p q C h k = absurd h
value_unique f (inf t) y s a c p q C h k = absurd h
value_unique f (fin t m e) nan s a c p q C h k = absurd k
value_unique f (fin t m e) (inf u) s a c p q C h k = absurd k
value_unique f (fin t m e) (fin u n d) s a c p q C h k =
    sym (of_bits-to_bits f (fin t m e) p)
    ∙ ap (of_bits f)
    (same_bits f t m e n d (same_fraction (m * up e) (down e) (n * up d) (down d) a c C h.1 k.1)
    ∙ ap (λ (z : Bool). to_bits f (fin z n d)) (h.0 ∙ sym k.0))
    ∙ of_bits-to_bits f (fin u n d) q

-- ---- what a format holds is m * 2 ^ j of its smallest values
pow_le_back : (a l : ℕ) → 2 ^ a ≤ 2 ^ l → a ≤ l
pow_le_back a l h = le_of_suc-le-suc (lt_of_not-le (λ (g : suc l ≤ a). lt_irrefl (2 ^ l) (lt_of_lt_of_le (pow-lt g) h)))

place : (l : ℕ) (e : ℤ) (m : ℕ) → down e ≤ 2 ^ l → (j : ℕ) × (m * up e * 2 ^ l ≡ m * 2 ^ j * down e)
place l (pos a) m h =
    (a + l, mul_assoc m (2 ^ a) (2 ^ l) ∙ ap (λ (x : ℕ). m * x) (sym (pow-add 2 a l)) ∙ sym (mul-one (m * 2 ^ (a + l))))
place l (negsuc a) m h = (
  l - suc a,
  ap (λ (x : ℕ). x * 2 ^ l) (mul-one m)
      ∙ ap (λ (x : ℕ). m * 2 ^ x) (sym (back l (suc a) (pow_le_back (suc a) l h)))
      ∙ ap (λ (x : ℕ). m * x) (pow-add 2 (l - suc a) (suc a))
      ∙ sym (mul_assoc m (2 ^ (l - suc a)) (2 ^ suc a)),
)

zero_size : (e : ℤ) (c a : ℕ) → zero * up e * c ≡ a * down e → a ≡ 0
zero_size e c zero h = refl
zero_size e c (suc a) h =
    absurd (lt_irrefl 0 (subst (λ (x : ℕ). 0 < x) (sym h ∙ ap (λ (y : ℕ). y * c) (zero-mul (up e)) ∙ zero-mul c)
    (mul-pos (zero-lt-suc a) (down_pos e))))

round_has : (f : Format) (x : Float) (s : Bool) (a c : ℕ) → T (fits f x) → 0 < c → HasValue x s a c
    → HasValue (round f s a c) s a c
unfolding fits
round_has f nan s a c p C h = absurd h
round_has f (inf t) s a c p C h = absurd h
round_has f (fin t zero e) s a c p C h =
    round_exact f s a c 0 0 C (pow_pos (prec f)) (pow_pos (low f + suc (emax f)))
    (ap (λ (z : ℕ). z * 2 ^ low f) (zero_size e c a h.1) ∙ zero-mul (2 ^ low f) ∙ sym (zero-mul c))
round_has f (fin t (suc m) e) s a c p C h =
    let A : Bool = eqb (suc m % 2) 1 in
    let B : Bool = ltb (suc m) (2 ^ prec f) in
    let D : Bool = leb (down e) (2 ^ low f) in
    let E : Bool = ltb (suc m * up e) (2 ^ suc (emax f) * down e) in
    let b : suc m < 2 ^ prec f = ltb→lt (suc m) (2 ^ prec f) (and_r A B (and_l (A && B) D (and_l (A && B && D) E p))) in
    let d : down e ≤ 2 ^ low f = leb→le (down e) (2 ^ low f) (and_r (A && B) D (and_l (A && B && D) E p)) in
    let k : suc m * up e < 2 ^ suc (emax f) * down e =
    ltb→lt (suc m * up e) (2 ^ suc (emax f) * down e) (and_r (A && B && D) E p) in
    let l = low f in
    let pl = place l e (suc m) d in
    let top_up : 2 ^ suc (emax f) * down e * 2 ^ l ≡ 2 ^ (l + suc (emax f)) * down e =
    mul_right_comm (2 ^ suc (emax f)) (down e) (2 ^ l)
    ∙ ap (λ (z : ℕ). z * down e) (mul_comm (2 ^ suc (emax f)) (2 ^ l) ∙ sym (pow-add 2 l (suc (emax f)))) in
    let fine : suc m * 2 ^ pl.0 < 2 ^ (l + suc (emax f)) =
    lt_of_mul-lt-mul_right (down e)
    (subst (λ (z : ℕ). z < 2 ^ (l + suc (emax f)) * down e) pl.1
    (subst (λ (z : ℕ). suc m * up e * 2 ^ l < z) top_up (mul-lt-mul_of_pos_right k (pow_pos l)))) in
    round_exact f s a c (suc m) pl.0 C b fine (sym
    (same_fraction (suc m * 2 ^ pl.0) (2 ^ l) a c (suc m * up e) (down e) (down_pos e) (sym pl.1) (sym h.1)))

pub round_id : (f : Format) (x : Float) (s : Bool) (a c : ℕ) → T (fits f x) → 0 < c → HasValue x s a c
    → round f s a c ≡ x
round_id f x s a c p C h = value_unique f (round f s a c) x s a c (round-fits f s a c) p C (round_has f x s a c p C h) h
