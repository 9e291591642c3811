-- Where a NaN cannot arise: rounding a fraction, and numbers that are not too large. And when a quotient is one.
-- Assumes nothing.
use mathlib.Core.Path.{◌≡◌, refl, sym, ap, ap₂, ◌∙◌, subst}
use Prim.Native.Nat.{ℕ, zero, suc, ◌+◌, ◌-◌, ◌*◌, ◌%◌, ◌^◌, ◌≤◌, ◌<◌}
use native.Mathlib.Nat.{le_refl, le_trans, le_of_eq, lt_irrefl, zero-lt-suc, zero-mul, add-le-add, add-mul, mul-one}
use native.Mathlib.Nat.{mul_comm, mul_assoc, mul_right_comm, mul-mul-mul_comm, mul-le-mul, mul-le-mul_right, mul-pos}
use native.Mathlib.Nat.{le_of_mul-le-mul_right}
use native.Mathlib.Omega.{arith}
use mathlib.Core.Bool.{Bool, true, false, not, ◌&&◌, ◌||◌, beq, cond, true≢false}
use lib.IntN.{ℤ, pos}
use lib.Dec.{T, eqb, ltb, eqb→eq}
use lib.Pow.{pow_pos}
use borrow.Author.Tests.{ne_eqb, lt-ltb}
use lib.Ieee.{Float, nan, inf, fin, Format, binary32, binary64, prec, low, hid, ones, top, up, down, unlike, odd, units}
use lib.Ieee.{round, neg, add, sub, sum, mul, div, eq, is_nan, of_bits}
use lib.Ieee.Bits.{nan_bits_is, nan_bits_above}
use lib.Ieee.Fits.{up_pos, down_pos, and_l, round_is}
use lib.Ieee.Back.{round_whole}
use lib.Ieee.Exact.{HasValue}
use lib.Ieee.Order.{drop, kept, round_mono}
use lib.Ieee.Positive.{num, den, den_pos, value→cross}
use lib.Ieee.Scale.{grid, overflow, finite}
use Rattle.ieee.specs.Range.{nought, float_in}
use Rattle.ieee.proofs.Units.{round_val_of, round_finite}
use Rattle.ieee.proofs.Zero.{zeros_equal}
use Rattle.ieee.proofs.Range.{Upto, Held, has_finite, round_upto, whole_of}

pub no_nan : (x : Float) → is_nan x ≡ false → x ≡ nan → ⊥
unfolding is_nan
no_nan x h e = true≢false (sym (ap is_nan e) ∙ h)

pub is_nan_lem : (x : Float) → is_nan x ≡ true → x ≡ nan
unfolding is_nan
is_nan_lem nan h = refl
is_nan_lem (inf s) h = absurd (true≢false (sym h))
is_nan_lem (fin s m e) h = absurd (true≢false (sym h))

pub finite_no_nan : (x : Float) → T (finite x) → is_nan x ≡ false
unfolding is_nan
finite_no_nan nan F = absurd F
finite_no_nan (inf s) F = absurd F
finite_no_nan (fin s m e) F = refl

-- ---- a NaN as a program writes it, 0.0 / 0.0, and as a pattern: above the infinity's, whatever its sign
pub bits_nan : (f : Format) → div f (of_bits f 0) (of_bits f 0) ≡ nan
unfolding div of_bits
bits_nan binary32 = refl
bits_nan binary64 = refl

pub nan_pattern : (f : Format) (b : ℕ) → ones f * hid f < b % top f → of_bits f b ≡ nan
nan_pattern f b h =
    is_nan_lem (of_bits f b) (sym (nan_bits_is f b) ∙ nan_bits_above f b ∙ lt-ltb (ones f * hid f) (b % top f) h)

-- ---- a rounded fraction is a number or an infinity
odd_no_nan : (d : ℕ) (s : Bool) (q k l : ℕ) → is_nan (odd d s q k l) ≡ false
unfolding odd is_nan
odd_no_nan d s zero k l = refl
odd_no_nan d s (suc q) k l = refl

units_no_nan : (f : Format) (s : Bool) (q k : ℕ) → is_nan (units f s q k) ≡ false
unfolding units is_nan
units_no_nan f s q k = go (ltb (q * 2 ^ k) (overflow f))
  where
    go : (b : Bool) → is_nan (cond b (odd (suc (prec f)) s q k (low f)) (inf s)) ≡ false
    go true = odd_no_nan (suc (prec f)) s q k (low f)
    go false = refl

pub round_no_nan : (f : Format) (s : Bool) (a c : ℕ) → is_nan (round f s a c) ≡ false
round_no_nan f s a c =
    ap is_nan (round_is f s a c) ∙ units_no_nan f s (kept (prec f) (a * 2 ^ low f) c) (drop (prec f) (a * 2 ^ low f) c)

-- ---- a finite number and what is no NaN
pub plus_no_nan : (f : Format) (x y : Float) → T (finite x) → is_nan y ≡ false → is_nan (add f x y) ≡ false
unfolding add sum is_nan
plus_no_nan f nan y F h = absurd F
plus_no_nan f (inf s) y F h = absurd F
plus_no_nan f (fin s m e) nan F h = h
plus_no_nan f (fin s m e) (inf t) F h = refl
plus_no_nan f (fin s m e) (fin t n d) F h = go (beq s t) (ltb a b)
  where
    a : ℕ
    a = m * up e * down d

    b : ℕ
    b = n * up d * down e

    c : ℕ
    c = down e * down d

    go : (u v : Bool)
        → is_nan (cond u (round f s (a + b) c) (cond v (round f t (b - a) c) (round f (s && ltb b a) (a - b) c)))
        ≡ false
    go true v = round_no_nan f s (a + b) c
    go false true = round_no_nan f t (b - a) c
    go false false = round_no_nan f (s && ltb b a) (a - b) c

-- ---- times a number that is finite and not 0
not_zero : (m : ℕ) → suc m ≡ 0 → ⊥
not_zero m h = omega arith

pub times_no_nan : (f : Format) (x : Float) (s : Bool) (m : ℕ) (e : ℤ) → is_nan x ≡ false
    → is_nan (mul f x (fin s (suc m) e)) ≡ false
unfolding mul is_nan
times_no_nan f nan s m e h = h
times_no_nan f (inf t) s m e h =
    ap (λ (b : Bool). is_nan (cond b nan (inf (unlike t s)))) (ne_eqb (suc m) 0 (not_zero m))
times_no_nan f (fin t n d) s m e h = round_no_nan f (unlike t s) (n * up d * (suc m * up e)) (down d * down e)

-- ---- a quotient is one only for a NaN, for 0/0 and for two infinities
pub data Unquotable (x y : Float) : Type 0 where
  nan_over : x ≡ nan → Unquotable x y
  over_nan : y ≡ nan → Unquotable x y
  both_infinite : (s t : Bool) → x ≡ inf s → y ≡ inf t → Unquotable x y
  both_zero : T (eq x nought) → T (eq y nought) → Unquotable x y

div_nan : (f : Format) (x y : Float) → div f x y ≡ nan → Unquotable x y
unfolding div is_nan
div_nan f nan y h = nan_over refl
div_nan f (inf s) nan h = over_nan refl
div_nan f (inf s) (inf t) h = both_infinite s t refl refl
div_nan f (inf s) (fin t n d) h = absurd (no_nan (inf (unlike s t)) refl h)
div_nan f (fin s m e) nan h = over_nan refl
div_nan f (fin s m e) (inf t) h = absurd (no_nan (fin (unlike s t) 0 (pos 0)) refl h)
div_nan f (fin s zero e) (fin t zero d) h = both_zero (zeros_equal s false e (pos 0)) (zeros_equal t false d (pos 0))
div_nan f (fin s (suc m) e) (fin t zero d) h =
    let is : cond (eqb (suc m) 0) nan (inf (unlike s t)) ≡ inf (unlike s t) =
    ap (λ (b : Bool). cond b nan (inf (unlike s t))) (ne_eqb (suc m) 0 (not_zero m)) in
    absurd (no_nan (inf (unlike s t)) refl (sym is ∙ h))
div_nan f (fin s m e) (fin t (suc n) d) h =
    let q = round f (unlike s t) (m * up e * down d) (suc n * up d * down e) in
    let over : Float = cond (eqb m 0) nan (inf (unlike s t)) in
    let is : cond (eqb (suc n) 0) over q ≡ q = ap (λ (b : Bool). cond b over q) (ne_eqb (suc n) 0 (not_zero n)) in
    absurd (no_nan q (round_no_nan f (unlike s t) (m * up e * down d) (suc n * up d * down e)) (sym is ∙ h))

-- a sign does not matter to that
neg_zero : (s : Bool) (m : ℕ) (e : ℤ) → T (eq (fin (not s) m e) nought) → T (eq (fin s m e) nought)
unfolding eq
neg_zero s zero e z = zeros_equal s false e (pos 0)
neg_zero s (suc m) e z =
    let a = suc m * up e * 1 in
    let b = 0 * 1 * down e in
    let same : a ≡ b = eqb→eq a b (and_l (eqb a b) (beq (not s) false || eqb a 0) z) in
    let some : 0 < a = mul-pos (mul-pos (zero-lt-suc m) (up_pos e)) (pow_pos 0) in
    absurd (lt_irrefl 0 (subst (λ (y : ℕ). 0 < y) (same ∙ zero-mul (down e)) some))

neg_unquotable : (x y : Float) → Unquotable (neg x) y → Unquotable x y
unfolding neg eq is_nan
neg_unquotable nan y u = nan_over refl
neg_unquotable (inf s) y (nan_over e) = absurd (no_nan (inf (not s)) refl e)
neg_unquotable (inf s) y (over_nan e) = over_nan e
neg_unquotable (inf s) y (both_infinite r t p q) = both_infinite s t refl q
neg_unquotable (inf s) y (both_zero p q) = absurd p
neg_unquotable (fin s m e) y (nan_over h) = absurd (no_nan (fin (not s) m e) refl h)
neg_unquotable (fin s m e) y (over_nan h) = over_nan h
neg_unquotable (fin s m e) y (both_infinite r t p q) = absurd (let z : ◌≡◌ {A = ℕ} 0 1 = cc in omega arith)
neg_unquotable (fin s m e) y (both_zero p q) = both_zero (neg_zero s m e p) q

pub neg_div_nan : (f : Format) (x y : Float) → div f (neg x) y ≡ nan → Unquotable x y
neg_div_nan f x y h = neg_unquotable x y (div_nan f (neg x) y h)

-- ---- numbers of either sign whose size is at most p / q. Where a format holds p / q, rounding does not pass it
abbrev pub Within : ℕ → ℕ → Float → Type 0
Within p q x = T (finite x) × (num x * q ≤ p * den x)

value_within : (x : Float) (s : Bool) (g c p q : ℕ) → 0 < c → HasValue x s g c → g * q ≤ p * c → Within p q x
value_within nan s g c p q C v h = absurd v
value_within (inf t) s g c p q C v h = absurd v
value_within (fin t m e) s g c p q C v h =
    let over : m * up e * q * c ≡ g * q * down e =
    mul_right_comm (m * up e) q c ∙ ap (λ (z : ℕ). z * q) v.1 ∙ mul_right_comm g (down e) q in
    let under : g * q * down e ≤ p * down e * c =
    le_trans (mul-le-mul_right (down e) h) (le_of_eq (mul_right_comm p c (down e))) in
    (tt, le_of_mul-le-mul_right (le_trans (le_of_eq over) under) C)

-- with the value that comes out
pub round_value : (f : Format) (s : Bool) (a c p q : ℕ) → 0 < c → 0 < q → Held f p q → a * q ≤ p * c
    → (g : ℕ) × HasValue (round f s a c) s g (2 ^ low f) × (g * q ≤ p * 2 ^ low f)
round_value f s a c p q C Q held h =
    let y = round f false a c in
    let g = grid f a c in
    let l = 2 ^ low f in
    let w = round f false p q in
    let u : g < overflow f = round_finite f a c w (has_finite w false p q held) (round_mono f a c p q C Q h) in
    let k : num y * q ≤ p * den y = (round_upto f a c p q C Q held h).1 in
    let e : num y * l ≡ g * den y = value→cross y g l (round_val_of f false a c u) in
    let over : g * q * den y ≡ num y * q * l =
    mul_right_comm g q (den y) ∙ ap (λ (z : ℕ). z * q) (sym e) ∙ mul_right_comm (num y) l q in
    let r : p * den y * l ≤ p * l * den y = le_of_eq (mul_right_comm p (den y) l) in
    let less : g * q ≤ p * l =
    le_of_mul-le-mul_right (le_trans (le_of_eq over) (le_trans (mul-le-mul_right l k) r)) (den_pos y) in
    (g, round_val_of f s a c u, less)

pub round_within : (f : Format) (s : Bool) (a c p q : ℕ) → 0 < c → 0 < q → Held f p q → a * q ≤ p * c
    → Within p q (round f s a c)
round_within f s a c p q C Q held h =
    let r = round_value f s a c p q C Q held h in
    value_within (round f s a c) s r.0 (2 ^ low f) p q (pow_pos (low f)) r.1 r.2

-- ---- at most a whole number, which is a value of the format up to 2 ^ prec: sums and products are such numbers again
abbrev pub Bounded : ℕ → Float → Type 0
Bounded p x = T (finite x) × (num x ≤ p * den x)

pub bounded_no_nan : (p : ℕ) (x : Float) → Bounded p x → is_nan x ≡ false
bounded_no_nan p x b = finite_no_nan x b.0

pub bounded_more : (p q : ℕ) (x : Float) → p ≤ q → Bounded p x → Bounded q x
bounded_more p q x h b = (b.0, le_trans b.1 (mul-le-mul_right (den x) h))

bounded_of : (p : ℕ) (x : Float) → Within p 1 x → Bounded p x
bounded_of p x w = (w.0, le_trans (le_of_eq (sym (mul-one (num x)))) w.1)

pub upto_bounded : (p : ℕ) (x : Float) → Upto p 1 x → Bounded p x
upto_bounded p nan u = absurd u.0
upto_bounded p (inf s) u = absurd u.0
upto_bounded p (fin s m e) u = bounded_of p (fin s m e) (tt, u.1)

pub whole_bounded : (f : Format) (k : ℕ) → k ≤ 65536 → Bounded k (float_in f k)
whole_bounded f k h =
    bounded_of k (float_in f k) (value_within (float_in f k) false k 1 k 1 (pow_pos 0) (whole_of f k h) (le_refl (k
    * 1)))

pub round_bounded : (f : Format) (s : Bool) (a c p : ℕ) → 0 < c → p ≤ 2 ^ prec f → a ≤ p * c → Bounded p (round f s a c)
round_bounded f s a c p C P h =
    let most : a * 1 ≤ p * c = le_trans (le_of_eq (mul-one a)) h in
    bounded_of p (round f s a c) (round_within f s a c p 1 C (pow_pos 0) (round_whole f false p P) most)

pub mul_bounded : (f : Format) (x y : Float) (p q : ℕ) → p * q ≤ 2 ^ prec f → Bounded p x → Bounded q y
    → Bounded (p * q) (mul f x y)
unfolding mul
mul_bounded f nan y p q h a b = absurd a.0
mul_bounded f (inf s) y p q h a b = absurd a.0
mul_bounded f (fin s m e) nan p q h a b = absurd b.0
mul_bounded f (fin s m e) (inf t) p q h a b = absurd b.0
mul_bounded f (fin s m e) (fin t n d) p q h a b =
    round_bounded f (unlike s t) (m * up e * (n * up d)) (down e * down d) (p * q) (mul-pos (down_pos e) (down_pos d)) h
    (le_trans (mul-le-mul a.1 b.1) (le_of_eq (mul-mul-mul_comm p (down e) q (down d))))

sum_bounded : (f : Format) (s t : Bool) (a b c p : ℕ) → 0 < c → p ≤ 2 ^ prec f → a + b ≤ p * c
    → Bounded p (sum f s a t b c)
unfolding sum
sum_bounded f s t a b c p C P h = go (beq s t) (ltb a b)
  where
    go : (u v : Bool)
        → Bounded p (cond u (round f s (a + b) c) (cond v (round f t (b - a) c) (round f (s && ltb b a) (a - b) c)))
    go true v = round_bounded f s (a + b) c p C P h
    go false true = round_bounded f t (b - a) c p C P (omega arith)
    go false false = round_bounded f (s && ltb b a) (a - b) c p C P (omega arith)

pub add_bounded : (f : Format) (x y : Float) (p q : ℕ) → p + q ≤ 2 ^ prec f → Bounded p x → Bounded q y
    → Bounded (p + q) (add f x y)
unfolding add
add_bounded f nan y p q h a b = absurd a.0
add_bounded f (inf s) y p q h a b = absurd a.0
add_bounded f (fin s m e) nan p q h a b = absurd b.0
add_bounded f (fin s m e) (inf t) p q h a b = absurd b.0
add_bounded f (fin s m e) (fin t n d) p q h a b =
    let c = down e * down d in
    let first : p * down e * down d ≡ p * c = mul_assoc p (down e) (down d) in
    let second : q * down d * down e ≡ q * c =
    mul_assoc q (down d) (down e) ∙ ap (λ (z : ℕ). q * z) (mul_comm (down d) (down e)) in
    sum_bounded f s t (m * up e * down d) (n * up d * down e) c (p + q) (mul-pos (down_pos e) (down_pos d)) h
    (le_trans (add-le-add (mul-le-mul_right (down d) a.1) (mul-le-mul_right (down e) b.1))
    (le_of_eq (ap₂ (λ (y z : ℕ). y + z) first second ∙ sym (add-mul p q c))))

neg_bounded : (q : ℕ) (y : Float) → Bounded q y → Bounded q (neg y)
unfolding neg
neg_bounded q nan b = b
neg_bounded q (inf t) b = b
neg_bounded q (fin t n d) b = b

pub sub_bounded : (f : Format) (x y : Float) (p q : ℕ) → p + q ≤ 2 ^ prec f → Bounded p x → Bounded q y
    → Bounded (p + q) (sub f x y)
unfolding sub
sub_bounded f x y p q h a b = add_bounded f x (neg y) p q h a (neg_bounded q y b)
