-- Numbers that are not below zero, and at most a fraction p / q (`Upto p q`): what products, quotients and sums of such
-- numbers can be. Assumes nothing.
use mathlib.Core.Path.{◌≡◌, refl, sym, ap, ap₂, ◌∙◌, subst}
use Prim.Native.Nat.{ℕ, zero, suc, ◌+◌, ◌-◌, ◌*◌, ◌^◌, ◌≤◌, ◌<◌, zero-le}
use native.Mathlib.Nat.{le_refl, le_trans, add-le-add, le-add_left, add-mul, le_of_eq, lt_irrefl, not-le_of_lt}
use native.Mathlib.Nat.{zero-lt-suc, zero-mul, mul-one, mul_comm, mul_assoc, mul_left_comm, mul_right_comm}
use native.Mathlib.Nat.{mul-le-mul_right, mul-le-mul_left, one-mul, mul-pos, le_of_mul-le-mul_right}
use native.Mathlib.Omega.{arith}
use mathlib.Core.Bool.{Bool, true, false, not, ◌&&◌, ◌||◌, cond, true≢false}
use lib.IntN.{ℤ, pos}
use lib.Dec.{T, not_T, ltb, eqb, le→leb, lt→ltb, lit≤}
use lib.Pow.{pow_pos}
use borrow.Author.Tests.{lt-ltb, le-ltb, ltb-true, ltb-false}
use lib.Ieee.{Float, nan, inf, fin, Format, binary32, binary64, prec, emax, low, hid, up, down, lt, le, round, add, sum}
use lib.Ieee.{mul, div, of_int, in_float, is_nan}
use lib.Ieee.Fits.{up_pos, down_pos, and_i, and_l, and_r}
use lib.Ieee.Bits.{is_true, is_false}
use lib.Ieee.Back.{round_whole}
use lib.Ieee.Exact.{HasValue, round_exact}
use lib.Ieee.Order.{round_mono, le_of_values}
use lib.Ieee.Positive.{num, den}
use lib.Ieee.Scale.{grid, overflow, finite, round_same}
use Rattle.ieee.specs.Range.{whole, nought, float_in, upto}
use Rattle.ieee.proofs.Tests.{or_left, or_le, negative_under, negative_not_over}
use Rattle.ieee.proofs.Operations.{mul_of, div_of, add_of}
use Rattle.ieee.proofs.Units.{round_val_of, round_finite, grid_over}

-- finite, and not below zero: -0.0 is in
abbrev pub counts : Float → Bool
counts nan = false
counts (inf s) = false
counts (fin false m e) = true
counts (fin true zero e) = true
counts (fin true (suc m) e) = false

abbrev pub Upto : ℕ → ℕ → Float → Type 0
Upto p q x = T (counts x) × (num x * q ≤ p * den x)

-- ---- the test `upto k` and the fact `Upto k 1`, each from the other
whole_value : (k : ℕ) → HasValue (whole k) false k 1
whole_value k = (refl, mul-one (k * 1))

zero_upto : (p q : ℕ) (e : ℤ) → 0 * up e * q ≤ p * down e
zero_upto p q e =
    subst (λ (z : ℕ). z * q ≤ p * down e) (sym (zero-mul (up e)))
    (subst (λ (z : ℕ). z ≤ p * down e) (sym (zero-mul q)) zero-le)

pub upto_fact : (k : ℕ) (x : Float) → T (upto k x) → Upto k 1 x
unfolding upto le
upto_fact k nan t = absurd t
upto_fact k (inf true) t = absurd t
upto_fact k (inf false) t = absurd t
upto_fact k (fin true zero e) t = (tt, zero_upto k 1 e)
upto_fact k (fin true (suc m) e) t =
    absurd (negative_not_over m e (and_l (le nought (fin true (suc m) e)) (le (fin true (suc m) e) (whole k)) t))
upto_fact k (fin false m e) t = (
  tt,
  le_trans (or_le (m * up e * 1) (k * 1 * down e) true (and_r (le nought (fin false m e))
      (le (fin false m e) (whole k)) t)) (le_of_eq (ap (λ (z : ℕ). z * down e) (mul-one k))),
)

pub upto_test : (k : ℕ) (x : Float) → Upto k 1 x → T (upto k x)
unfolding upto le
upto_test k nan h = absurd h.0
upto_test k (inf s) h = absurd h.0
upto_test k (fin true (suc m) e) h = absurd h.0
upto_test k (fin true zero e) h =
    and_i (le nought (fin true zero e)) (le (fin true zero e) (whole k))
    (level (0 * down e) (0 * up e * 1) (zero-mul (down e)) (zero_size e))
    (under (0 * up e * 1) (k * 1 * down e) (zero_size e))
  where
    zero_size : (e : ℤ) → 0 * up e * 1 ≡ 0
    zero_size e = mul-one (0 * up e) ∙ zero-mul (up e)

    level : (a b : ℕ) → a ≡ 0 → b ≡ 0 → T (eqb a b && (false || eqb a 0))
    level a b p q =
        subst (λ (x : ℕ). T (eqb x b && (false || eqb x 0))) (sym p)
        (subst (λ (x : ℕ). T (eqb 0 x && (false || eqb 0 0))) (sym q) tt)

    under : (a b : ℕ) → a ≡ 0 → T (ltb 0 (a + b) || (eqb a b && (false || eqb a 0)))
    under a zero p = subst (λ (x : ℕ). T (ltb 0 (x + 0) || (eqb x 0 && (false || eqb x 0)))) (sym p) tt
    under a (suc b) p =
        or_left (ltb 0 (a + suc b)) (eqb a (suc b) && (false || eqb a 0)) (lt→ltb 0 (a + suc b) (omega arith))
upto_test k (fin false m e) h =
    and_i (le nought (fin false m e)) (le (fin false m e) (whole k))
    (le_of_values nought (fin false m e) 0 1 (m * up e) (down e) (pow_pos 0) (down_pos e) (refl, refl) (refl, refl)
    (subst (λ (z : ℕ). z ≤ m * up e * 1) (sym (zero-mul (down e))) zero-le))
    (le_of_values (fin false m e) (whole k) (m * up e) (down e) k 1 (down_pos e) (pow_pos 0) (refl, refl)
    (whole_value k) h.1)

pub upto_more : (j k : ℕ) (x : Float) → j ≤ k → T (upto j x) → T (upto k x)
upto_more j k x h t = let u = upto_fact j x t in upto_test k x (u.0, le_trans u.1 (mul-le-mul_right (den x) h))

-- ---- a NaN, below 0 or above k: exactly where `upto k` does not hold
refuted : (b : Bool) → (T b → ⊥) → b ≡ false
refuted b h = is_false b (not_T b h)

outside_fin : (k m : ℕ) (e : ℤ) (b : Bool) → lt (whole k) (fin false m e) ≡ b → b ≡ not (upto k (fin false m e))
unfolding lt
outside_fin k m e true h =
    sym (ap not (refuted (upto k (fin false m e))
    (λ (t : T (upto k (fin false m e))). not-le_of_lt (ltb-true (k * 1 * down e) (m * up e * 1) h)
    (le_trans (upto_fact k (fin false m e) t).1 (le_of_eq (ap (λ (z : ℕ). z * down e) (sym (mul-one k))))))))
outside_fin k m e false h =
    sym (ap not (is_true (upto k (fin false m e)) (upto_test k (fin false m e)
    (tt, le_trans (ltb-false (k * 1 * down e) (m * up e * 1) h) (le_of_eq (ap (λ (z : ℕ). z * down e) (mul-one k)))))))

pub outside_is : (k : ℕ) (x : Float) → (is_nan x || (lt x nought || lt (whole k) x)) ≡ not (upto k x)
unfolding is_nan lt upto le
outside_is k nan = refl
outside_is k (inf true) = refl
outside_is k (inf false) = refl
outside_is k (fin true zero e) =
    ap (λ (t : Bool). t || false) (le-ltb 0 (0 * up e * 1 + 0 * down e)
    (le_of_eq (ap₂ (λ (y z : ℕ). y * 1 + z) (zero-mul (up e)) (zero-mul (down e)))))
    ∙ sym (ap not (is_true (upto k (fin true zero e)) (upto_test k (fin true zero e) (tt, zero_upto k 1 e))))
outside_is k (fin true (suc m) e) =
    ap (λ (t : Bool). t || false) (is_true (lt (fin true (suc m) e) nought) (negative_under m e))
    ∙ sym (ap not (refuted (upto k (fin true (suc m) e))
    (λ (t : T (upto k (fin true (suc m) e))). (upto_fact k (fin true (suc m) e) t).0)))
outside_is k (fin false m e) =
    ap (λ (t : Bool). t || lt (whole k) (fin false m e))
    (le-ltb (m * up e * 1) (0 * down e) (subst (λ (z : ℕ). z ≤ m * up e * 1) (sym (zero-mul (down e))) zero-le))
    ∙ outside_fin k m e (lt (whole k) (fin false m e)) refl

-- ---- a rounded fraction: at most p / q, where the format holds p / q and the fraction is at most that
abbrev pub Held : Format → ℕ → ℕ → Type 0
Held f p q = HasValue (round f false p q) false p q

zero_counts : (v : Float) (s : Bool) (c p q : ℕ) → 0 < c → HasValue v s 0 c → Upto p q v
zero_counts nan s c p q C h = absurd h
zero_counts (inf t) s c p q C h = absurd h
zero_counts (fin true zero e) s c p q C h = (tt, zero_upto p q e)
zero_counts (fin false zero e) s c p q C h = (tt, zero_upto p q e)
zero_counts (fin t (suc m) e) s c p q C h =
    absurd (lt_irrefl 0
    (subst (λ (z : ℕ). 0 < z) (h.1 ∙ zero-mul (down e)) (mul-pos (mul-pos (zero-lt-suc m) (up_pos e)) C)))

below_value : (v w : Float) (g c p q : ℕ) → HasValue v false g c → HasValue w false p q → T (le v w) → Upto p q v
unfolding le
below_value nan w g c p q h k l = absurd h
below_value (inf s) w g c p q h k l = absurd h
below_value (fin true m e) w g c p q h k l = absurd (true≢false h.0)
below_value (fin false m e) nan g c p q h k l = absurd k
below_value (fin false m e) (inf t) g c p q h k l = absurd k
below_value (fin false m e) (fin true n d) g c p q h k l = absurd (true≢false k.0)
below_value (fin false m e) (fin false n d) g c p q h k l = (
  tt,
  le_of_mul-le-mul_right
      (le_trans (le_of_eq (mul_right_comm (m * up e) q (down d)))
      (le_trans (mul-le-mul_right q (or_le (m * up e * down d) (n * up d * down e) true l))
      (le_of_eq (mul_right_comm (n * up d) (down e) q ∙ ap (λ (z : ℕ). z * down e) k.1
      ∙ mul_right_comm p (down d) (down e))))) (down_pos d),
)

pub has_finite : (x : Float) (s : Bool) (a c : ℕ) → HasValue x s a c → T (finite x)
has_finite nan s a c h = absurd h
has_finite (inf t) s a c h = absurd h
has_finite (fin t m e) s a c h = tt

pub round_upto : (f : Format) (a c p q : ℕ) → 0 < c → 0 < q → Held f p q → a * q ≤ p * c → Upto p q (round f false a c)
round_upto f a c p q C Q w h =
    let l : T (le (round f false a c) (round f false p q)) = round_mono f a c p q C Q h in
    below_value (round f false a c) (round f false p q) (grid f a c) (2 ^ low f) p q (round_val_of f false a c
    (round_finite f a c (round f false p q) (has_finite (round f false p q) false p q w) l)) w l

-- ---- whole numbers up to 65,536, as far as an index goes
small : (f : Format) → 65536 ≤ 2 ^ prec f
small binary32 = lit≤ tt
small binary64 = lit≤ tt

pub whole_held : (f : Format) (k : ℕ) → k ≤ 65536 → Held f k 1
whole_held f k h = round_whole f false k (le_trans h (small f))

pub whole_of : (f : Format) (k : ℕ) → k ≤ 65536 → HasValue (float_in f k) false k 1
unfolding of_int
whole_of f k h = whole_held f k h

pub in_float_lem : (f : Format) (k : ℕ) → k ≤ 65536 → T (in_float f (pos k))
unfolding in_float
in_float_lem f k h = le→leb k (2 ^ prec f) (le_trans h (small f))

-- ---- products, quotients and sums
pub mul_upto : (f : Format) (x y : Float) (p q b d P Q : ℕ) → 0 < q → 0 < d → 0 < Q → Upto p q x → HasValue y false b d
    → Held f P Q → p * b * Q ≤ P * (q * d) → Upto P Q (mul f x y)
mul_upto f nan y p q b d P Q q' d' Q' u v w h = absurd u.0
mul_upto f (inf s) y p q b d P Q q' d' Q' u v w h = absurd u.0
mul_upto f (fin true (suc m) e) y p q b d P Q q' d' Q' u v w h = absurd u.0
mul_upto f (fin true zero e) y p q b d P Q q' d' Q' u v w h =
    let c = down e * d in
    let C : 0 < c = mul-pos (down_pos e) d' in
    subst (Upto P Q)
    (sym (mul_of f (fin true zero e) y true false (0 * up e) (down e) b d (down_pos e) d' (refl, refl) v
    ∙ ap (λ (z : ℕ). round f true z c) (ap (λ (z : ℕ). z * b) (zero-mul (up e)) ∙ zero-mul b)))
    (zero_counts (round f true 0 c) true c P Q C (round_exact f true 0 c 0 0 C (pow_pos (prec f))
    (pow_pos (low f + suc (emax f))) (zero-mul (2 ^ low f) ∙ sym (zero-mul c))))
mul_upto f (fin false m e) y p q b d P Q q' d' Q' u v w h =
    subst (Upto P Q)
    (sym (mul_of f (fin false m e) y false false (m * up e) (down e) b d (down_pos e) d' (refl, refl) v))
    (round_upto f (m * up e * b) (down e * d) P Q (mul-pos (down_pos e) d') Q' w (go (m * up e) (down e) u.1))
  where
    go : (n c : ℕ) → n * q ≤ p * c → n * b * Q ≤ P * (c * d)
    go n c k =
        let l : n * b * Q * q ≡ n * q * (b * Q) = simp (mul_assoc, mul_comm, mul_left_comm) in
        let m : p * c * (b * Q) ≡ p * b * Q * c = simp (mul_assoc, mul_comm, mul_left_comm) in
        let r : P * (q * d) * c ≡ P * (c * d) * q = simp (mul_assoc, mul_comm, mul_left_comm) in
        le_of_mul-le-mul_right (le_trans (le_of_eq l) (le_trans (mul-le-mul_right (b * Q) k)
        (le_trans (le_of_eq m) (le_trans (mul-le-mul_right c h) (le_of_eq r))))) q'

pub div_upto : (f : Format) (x y : Float) (a c b d P Q : ℕ) → 0 < c → 0 < d → 0 < b → 0 < Q → HasValue x false a c
    → HasValue y false b d → Held f P Q → a * d * Q ≤ P * (b * c) → Upto P Q (div f x y)
div_upto f x y a c b d P Q C D B Q' u v w h =
    subst (Upto P Q) (sym (div_of f x y false false a c b d C D B u v))
    (round_upto f (a * d) (b * c) P Q (mul-pos B C) Q' w h)

zero_first : (f : Format) (a b c : ℕ) → a ≡ 0 → sum f true a false b c ≡ round f false b c
unfolding sum
zero_first f a zero c e = ap (λ (z : ℕ). cond (ltb z 0) (round f false (0 - z) c) (round f (ltb 0 z) (z - 0) c)) e
zero_first f a (suc b) c e =
    ap (λ (t : Bool). cond t (round f false (suc b - a) c) (round f (ltb (suc b) a) (a - suc b) c))
    (lt-ltb a (suc b) (omega arith))
    ∙ ap (λ (z : ℕ). round f false z c) (left a (suc b) e)
  where
    left : (a b : ℕ) → a ≡ 0 → b - a ≡ b
    left a b e = omega arith

-- x is at most p/q and y is b/d, so the exact sum is at most p/q + b/d, and so at most P/Q, which a float holds:
-- rounding does not pass it. Only a first summand of -0.0 goes apart, since it counts as 0 and has another sign; there
-- the sum is y.
pub add_upto : (f : Format) (x y : Float) (p q b d P Q : ℕ) → 0 < q → 0 < d → 0 < Q → Upto p q x → HasValue y false b d
    → Held f P Q → (p * d + b * q) * Q ≤ P * (q * d) → Upto P Q (add f x y)
unfolding add
add_upto f nan y p q b d P Q q' d' Q' u v w h = absurd u.0
add_upto f (inf s) y p q b d P Q q' d' Q' u v w h = absurd u.0
add_upto f (fin true (suc m) e) y p q b d P Q q' d' Q' u v w h = absurd u.0
add_upto f (fin true zero e) nan p q b d P Q q' d' Q' u v w h = absurd v
add_upto f (fin true zero e) (inf t) p q b d P Q q' d' Q' u v w h = absurd v
add_upto f (fin true zero e) (fin true n g) p q b d P Q q' d' Q' u v w h = absurd (true≢false v.0)
add_upto f (fin true zero e) (fin false n g) p q b d P Q q' d' Q' u v w h =
    subst (Upto P Q)
    (sym (zero_first f (0 * up e * down g) (n * up g * down e) (down e * down g)
    (ap (λ (z : ℕ). z * down g) (zero-mul (up e)) ∙ zero-mul (down g))
    ∙ round_same f false (n * up g * down e) (down e * down g) b d (mul-pos (down_pos e) (down_pos g)) d'
    (mul_right_comm (n * up g) (down e) d ∙ ap (λ (z : ℕ). z * down e) v.1 ∙ mul_assoc b (down g) (down e)
    ∙ ap (λ (z : ℕ). b * z) (mul_comm (down g) (down e)))))
    (round_upto f b d P Q d' Q' w less)
  where
    less : b * Q ≤ P * d
    less =
        let l : b * Q * q ≡ b * q * Q = mul_right_comm b Q q in
        let r : P * (q * d) ≡ P * d * q = simp (mul_assoc, mul_comm, mul_left_comm) in
        le_of_mul-le-mul_right (le_trans (le_of_eq l)
        (le_trans (mul-le-mul_right Q (le-add_left (b * q) (p * d))) (le_trans h (le_of_eq r)))) q'
add_upto f (fin false m e) y p q b d P Q q' d' Q' u v w h =
    subst (Upto P Q) (sym (add_of f (fin false m e) y false (m * up e) (down e) b d (down_pos e) d' (refl, refl) v))
    (round_upto f (m * up e * d + b * down e) (down e * d) P Q (mul-pos (down_pos e) d') Q' w
    (go (m * up e) (down e) u.1))
  where
    go : (n c : ℕ) → n * q ≤ p * c → (n * d + b * c) * Q ≤ P * (c * d)
    go n c k =
        let l : (n * d + b * c) * Q * q ≡ n * q * (d * Q) + b * c * Q * q =
        ap (λ (z : ℕ). z * q) (add-mul (n * d) (b * c) Q) ∙ add-mul (n * d * Q) (b * c * Q) q
        ∙ ap (λ (z : ℕ). z + b * c * Q * q) (simp (mul_assoc, mul_comm, mul_left_comm)) in
        let m : p * c * (d * Q) + b * c * Q * q ≡ (p * d + b * q) * Q * c =
        sym (ap (λ (z : ℕ). z * c) (add-mul (p * d) (b * q) Q) ∙ add-mul (p * d * Q) (b * q * Q) c ∙ ap₂
        (λ (y z : ℕ). y + z) (simp (mul_assoc, mul_comm, mul_left_comm)) (simp (mul_assoc, mul_comm, mul_left_comm))) in
        let r : P * (q * d) * c ≡ P * (c * d) * q = simp (mul_assoc, mul_comm, mul_left_comm) in
        le_of_mul-le-mul_right (le_trans (le_of_eq l) (le_trans (add-le-add (mul-le-mul_right (d * Q) k)
        (le_refl (b * c * Q * q))) (le_trans (le_of_eq m) (le_trans (mul-le-mul_right c h) (le_of_eq r))))) q'

-- ---- the two that every lookup needs
pub scaled_upto : (f : Format) (y : Float) (k : ℕ) → T (upto 1 y) → k ≤ 65536 → T (upto k (mul f y (float_in f k)))
scaled_upto f y k t K =
    upto_test k (mul f y (float_in f k)) (mul_upto f y (float_in f k) 1 1 k 1 k 1 (pow_pos 0) (pow_pos 0) (pow_pos 0)
    (upto_fact 1 y t) (whole_of f k K) (whole_held f k K) (omega arith))

pub ratio_upto : (f : Format) (p q : ℕ) → p ≤ q → 0 < q → q ≤ 65536 → T (upto 1 (div f (float_in f p) (float_in f q)))
ratio_upto f p q h Q K =
    upto_test 1 (div f (float_in f p) (float_in f q))
    (div_upto f (float_in f p) (float_in f q) p 1 q 1 1 1 (pow_pos 0) (pow_pos 0) Q (pow_pos 0)
    (whole_of f p (le_trans h K)) (whole_of f q K) (whole_held f 1 (lit≤ tt)) (omega arith))

-- ---- a quotient of whole numbers is at most one part in 2 ^ prec too large
value_upto : (x : Float) (g c p q : ℕ) → 0 < c → HasValue x false g c → g * q ≤ p * c → Upto p q x
value_upto nan g c p q C v h = absurd v
value_upto (inf s) g c p q C v h = absurd v
value_upto (fin true m e) g c p q C v h = absurd (true≢false v.0)
value_upto (fin false m e) g c p q C v h = (
  tt,
  le_of_mul-le-mul_right
      (le_trans (le_of_eq (mul_right_comm (m * up e) q c ∙ ap (λ (z : ℕ). z * q) v.1 ∙ mul_right_comm g (down e) q))
      (le_trans (mul-le-mul_right (down e) h) (le_of_eq (mul_right_comm p c (down e))))) C,
)

enough : (f : Format) → hid f * 65536 ≤ 2 ^ low f
enough binary32 = lit≤ tt
enough binary64 = lit≤ tt

pub div_close : (f : Format) (a b : ℕ) → 0 < a → 0 < b → a ≤ 65536 → b ≤ 65536
    → Upto (a * (2 ^ prec f + 1)) (b * 2 ^ prec f) (div f (float_in f a) (float_in f b))
div_close f a b A B a' b' =
    let is : div f (float_in f a) (float_in f b) ≡ round f false a b =
    div_of f (float_in f a) (float_in f b) false false a 1 b 1 (pow_pos 0) (pow_pos 0) B (whole_of f a a')
    (whole_of f b b') ∙ ap₂ (round f false) (mul-one a) (mul-one b) in
    let u : grid f a b < overflow f =
    round_finite f a b (round f false a 1) (has_finite (round f false a 1) false a 1 (whole_held f a a'))
    (round_mono f a b a 1 B (pow_pos 0) (le_trans (le_of_eq (mul-one a)) (le_mul a b B))) in
    let g : grid f a b * b * 2 ^ prec f ≤ a * 2 ^ low f * (2 ^ prec f + 1) =
    grid_over f a b B (le_trans (mul-le-mul_left (hid f) b')
    (le_trans (enough f) (le_trans (le_of_eq (sym (one-mul (2 ^ low f)))) (mul-le-mul_right (2 ^ low f) A)))) in
    subst (Upto (a * (2 ^ prec f + 1)) (b * 2 ^ prec f)) (sym is)
    (value_upto (round f false a b) (grid f a b) (2 ^ low f) (a * (2 ^ prec f + 1)) (b * 2 ^ prec f) (pow_pos (low f))
    (round_val_of f false a b u)
    (le_trans (le_of_eq (sym (mul_assoc (grid f a b) b (2 ^ prec f))))
    (le_trans g (le_of_eq (mul_right_comm a (2 ^ low f) (2 ^ prec f + 1))))))
  where
    le_mul : (a b : ℕ) → 0 < b → a ≤ a * b
    le_mul a b h = le_trans (le_of_eq (sym (mul-one a))) (mul-le-mul_left a h)
