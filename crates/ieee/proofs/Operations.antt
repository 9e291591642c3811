-- Each operation on values that are known as fractions is one rounding of a fraction. Assumes nothing.
use mathlib.Core.Path.{◌≡◌, refl, sym, ap, ap₂, ◌∙◌, subst}
use Prim.Native.Nat.{ℕ, ◌+◌, ◌-◌, ◌*◌, ◌≤◌, ◌<◌}
use native.Mathlib.Nat.{lt_irrefl, zero-mul, mul_comm, mul_assoc, mul_left_comm, mul-pos, mul-mul-mul_comm, mul-sub}
use native.Mathlib.Nat.{add-mul}
use native.Mathlib.Omega.{arith}
use mathlib.Core.Bool.{Bool, true, false, not, ◌&&◌, cond}
use lib.Dec.{T, eqb, ltb, eqb→eq, not_T}
use borrow.Author.Tests.{le-ltb}
use lib.Ieee.{Float, nan, inf, fin, Format, unlike, up, down, round, neg, add, sub, sum, mul, div}
use lib.Ieee.Fits.{up_pos, down_pos}
use lib.Ieee.Bits.{cond_no}
use lib.Ieee.Exact.{HasValue}
use lib.Ieee.Order.{transfer}
use lib.Ieee.Scale.{round_same}

-- the sign of a product or a quotient with a number that is not negative
pub sign_kept : (s : Bool) → unlike s false ≡ s
sign_kept true = refl
sign_kept false = refl

pub mul_of : (f : Format) (x y : Float) (s t : Bool) (a c b d : ℕ) → 0 < c → 0 < d → HasValue x s a c → HasValue y t b d
    → mul f x y ≡ round f (unlike s t) (a * b) (c * d)
unfolding mul
mul_of f nan y s t a c b d C D h k = absurd h
mul_of f (inf u) y s t a c b d C D h k = absurd h
mul_of f (fin u m e) nan s t a c b d C D h k = absurd k
mul_of f (fin u m e) (inf v) s t a c b d C D h k = absurd k
mul_of f (fin u m e) (fin v n g) s t a c b d C D h k =
    ap₂ (λ (p q : Bool). round f (unlike p q) (m * up e * (n * up g)) (down e * down g)) h.0 k.0
    ∙ round_same f (unlike s t) (m * up e * (n * up g)) (down e * down g)
    (a * b) (c * d) (mul-pos (down_pos e) (down_pos g)) (mul-pos C D)
    (mul-mul-mul_comm (m * up e) (n * up g) c d ∙ ap₂ (λ (p q : ℕ). p * q) h.1 k.1
    ∙ mul-mul-mul_comm a (down e) b (down g))

cross : (x i y j a c b d : ℕ) → x * c ≡ a * i → y * d ≡ b * j → x * j * (b * c) ≡ a * d * (y * i)
cross x i y j a c b d h k =
    let p : x * j * (b * c) ≡ x * c * (b * j) = simp (mul_assoc, mul_comm, mul_left_comm) in
    let q : a * i * (y * d) ≡ a * d * (y * i) = simp (mul_assoc, mul_comm, mul_left_comm) in
    p ∙ ap₂ (λ (u v : ℕ). u * v) h (sym k) ∙ q

pub div_of : (f : Format) (x y : Float) (s t : Bool) (a c b d : ℕ) → 0 < c → 0 < d → 0 < b → HasValue x s a c
    → HasValue y t b d → div f x y ≡ round f (unlike s t) (a * d) (b * c)
unfolding div
div_of f nan y s t a c b d C D B h k = absurd h
div_of f (inf u) y s t a c b d C D B h k = absurd h
div_of f (fin u m e) nan s t a c b d C D B h k = absurd k
div_of f (fin u m e) (inf v) s t a c b d C D B h k = absurd k
div_of f (fin u m e) (fin v n g) s t a c b d C D B h k =
    cond_no (eqb n 0) (cond (eqb m 0) nan (inf (unlike u v)))
    (round f (unlike u v) (m * up e * down g) (n * up g * down e))
    (not_T (eqb n 0) (λ (z : T (eqb n 0)). not_zero (eqb→eq n 0 z)))
    ∙ ap₂ (λ (p q : Bool). round f (unlike p q) (m * up e * down g) (n * up g * down e)) h.0 k.0
    ∙ round_same f (unlike s t) (m * up e * down g) (n * up g * down e)
    (a * d) (b * c) (mul-pos (mul-pos (positive n not_zero) (up_pos g)) (down_pos e)) (mul-pos B C)
    (cross (m * up e) (down e) (n * up g) (down g) a c b d h.1 k.1)
  where
    not_zero : n ≡ 0 → ⊥
    not_zero z =
        lt_irrefl 0 (subst (λ (x : ℕ). 0 < x) (sym k.1 ∙ ap (λ (y : ℕ). y * up g * d) z
        ∙ ap (λ (y : ℕ). y * d) (zero-mul (up g)) ∙ zero-mul d) (mul-pos B (down_pos g)))

    positive : (n : ℕ) → (n ≡ 0 → ⊥) → 0 < n
    positive n z = omega arith

together : (x i y j a c b d : ℕ) → x * c ≡ a * i → y * d ≡ b * j → (x * j + y * i) * (c * d) ≡ (a * d + b * c) * (i * j)
together x i y j a c b d h k =
    let p : x * j * (c * d) ≡ x * c * (d * j) = simp (mul_assoc, mul_comm, mul_left_comm) in
    let p' : a * i * (d * j) ≡ a * d * (i * j) = simp (mul_assoc, mul_comm, mul_left_comm) in
    let q : y * i * (c * d) ≡ y * d * (c * i) = simp (mul_assoc, mul_comm, mul_left_comm) in
    let q' : b * j * (c * i) ≡ b * c * (i * j) = simp (mul_assoc, mul_comm, mul_left_comm) in
    add-mul (x * j) (y * i) (c * d)
    ∙ ap₂ (λ (u v : ℕ). u + v) (p ∙ ap (λ (z : ℕ). z * (d * j)) h ∙ p') (q ∙ ap (λ (z : ℕ). z * (c * i)) k ∙ q')
    ∙ sym (add-mul (a * d) (b * c) (i * j))

-- two numbers of one sign
pub add_of : (f : Format) (x y : Float) (s : Bool) (a c b d : ℕ) → 0 < c → 0 < d → HasValue x s a c → HasValue y s b d
    → add f x y ≡ round f s (a * d + b * c) (c * d)
unfolding add sum
add_of f nan y s a c b d C D h k = absurd h
add_of f (inf u) y s a c b d C D h k = absurd h
add_of f (fin u m e) nan s a c b d C D h k = absurd k
add_of f (fin u m e) (inf v) s a c b d C D h k = absurd k
add_of f (fin u m e) (fin v n g) s a c b d C D h k =
    ap₂ (λ (p q : Bool). sum f p (m * up e * down g) q (n * up g * down e) (down e * down g)) h.0 k.0
    ∙ one_sign s (m * up e * down g) (n * up g * down e) (down e * down g)
    ∙ round_same f s (m * up e * down g + n * up g * down e) (down e * down g)
    (a * d + b * c) (c * d) (mul-pos (down_pos e) (down_pos g)) (mul-pos C D)
    (together (m * up e) (down e) (n * up g) (down g) a c b d h.1 k.1)
  where
    one_sign : (s : Bool) (a b c : ℕ) → sum f s a s b c ≡ round f s (a + b) c
    one_sign true a b c = refl
    one_sign false a b c = refl

-- a difference of two numbers of one sign, the first not the smaller: a difference of 0 has no minus
apart : (x i y j a c b d : ℕ) → x * c ≡ a * i → y * d ≡ b * j → (x * j - y * i) * (c * d) ≡ (a * d - b * c) * (i * j)
apart x i y j a c b d h k =
    let p : c * d * (x * j) ≡ x * c * (d * j) = simp (mul_assoc, mul_comm, mul_left_comm) in
    let p' : a * i * (d * j) ≡ i * j * (a * d) = simp (mul_assoc, mul_comm, mul_left_comm) in
    let q : c * d * (y * i) ≡ y * d * (c * i) = simp (mul_assoc, mul_comm, mul_left_comm) in
    let q' : b * j * (c * i) ≡ i * j * (b * c) = simp (mul_assoc, mul_comm, mul_left_comm) in
    mul_comm (x * j - y * i) (c * d)
    ∙ mul-sub (c * d) (x * j) (y * i)
    ∙ ap₂ (λ (u v : ℕ). u - v) (p ∙ ap (λ (z : ℕ). z * (d * j)) h ∙ p') (q ∙ ap (λ (z : ℕ). z * (c * i)) k ∙ q')
    ∙ sym (mul-sub (i * j) (a * d) (b * c))
    ∙ mul_comm (i * j) (a * d - b * c)

minus_sum : (f : Format) (s : Bool) (x y z : ℕ) → y ≤ x → sum f s x (not s) y z ≡ round f (s && ltb y x) (x - y) z
unfolding sum
minus_sum f true x y z h =
    ap (λ (t : Bool). cond t (round f false (y - x) z) (round f (true && ltb y x) (x - y) z)) (le-ltb x y h)
minus_sum f false x y z h = ap (λ (t : Bool). cond t (round f true (y - x) z) (round f false (x - y) z)) (le-ltb x y h)

pub sub_of : (f : Format) (x y : Float) (s : Bool) (a c b d : ℕ) → 0 < c → 0 < d → HasValue x s a c → HasValue y s b d
    → b * c ≤ a * d → (t : Bool) × (s ≡ false → t ≡ false) × (sub f x y ≡ round f t (a * d - b * c) (c * d))
unfolding sub add neg
sub_of f nan y s a c b d C D h k l = absurd h
sub_of f (inf u) y s a c b d C D h k l = absurd h
sub_of f (fin u m e) nan s a c b d C D h k l = absurd k
sub_of f (fin u m e) (inf v) s a c b d C D h k l = absurd k
sub_of f (fin u m e) (fin v n g) s a c b d C D h k l =
    let o = one_sign s in
    (o.0, o.1, ap₂ (λ (p q : Bool). sum f p x (not q) y z) h.0 k.0 ∙ o.2)
  where
    x : ℕ
    x = m * up e * down g

    y : ℕ
    y = n * up g * down e

    z : ℕ
    z = down e * down g

    less : y ≤ x
    less = transfer (n * up g) (m * up e) (down g) (down e) b a d c D C k.1 h.1 l

    scaled : (t : Bool) → round f t (x - y) z ≡ round f t (a * d - b * c) (c * d)
    scaled t =
        round_same f t (x - y) z (a * d - b * c) (c * d) (mul-pos (down_pos e) (down_pos g)) (mul-pos C D)
        (apart (m * up e) (down e) (n * up g) (down g) a c b d h.1 k.1)

    one_sign : (s : Bool)
        → (t : Bool) × (s ≡ false → t ≡ false) × (sum f s x (not s) y z ≡ round f t (a * d - b * c) (c * d))
    one_sign s =
        (s && ltb y x, (λ q. ap (λ (p : Bool). p && ltb y x) q), minus_sum f s x y z less ∙ scaled (s && ltb y x))

unlike_swap : (s t : Bool) → unlike s t ≡ unlike t s
unlike_swap true true = refl
unlike_swap true false = refl
unlike_swap false true = refl
unlike_swap false false = refl

pub mul_swap : (f : Format) (x y : Float) → mul f x y ≡ mul f y x
unfolding mul
mul_swap f nan nan = refl
mul_swap f nan (inf t) = refl
mul_swap f nan (fin t n d) = refl
mul_swap f (inf s) nan = refl
mul_swap f (inf s) (inf t) = ap inf (unlike_swap s t)
mul_swap f (inf s) (fin t n d) = ap (λ (u : Bool). cond (eqb n 0) nan (inf u)) (unlike_swap s t)
mul_swap f (fin s m e) nan = refl
mul_swap f (fin s m e) (inf t) = ap (λ (u : Bool). cond (eqb m 0) nan (inf u)) (unlike_swap s t)
mul_swap f (fin s m e) (fin t n d) =
    ap (λ (u : Bool). round f u (m * up e * (n * up d)) (down e * down d)) (unlike_swap s t)
    ∙ ap₂ (λ (a b : ℕ). round f (unlike t s) a b) (mul_comm (m * up e) (n * up d)) (mul_comm (down e) (down d))
