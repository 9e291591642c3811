-- Floor and ceil: what shifting the digits of an f64 asks and gives, the test that tells ceil from floor, and the laws
-- that callers use. Assumes nothing.
use mathlib.Core.Path.{◌≡◌, refl, sym, ap, ◌∙◌, subst}
use Prim.Native.Nat.{ℕ, zero, suc, ◌+◌, ◌-◌, ◌*◌, ◌/◌, ◌%◌, ◌^◌, ◌≤◌, ◌<◌, zero-le}
use native.Mathlib.Nat.{le_of_suc-le-suc, le_trans, le_of_eq, lt_of_le_of_lt, zero-mul, mul-one, one-mul}
use native.Mathlib.Nat.{mul_comm, mul_right_comm, add-mul, suc-mul, mul-div_cancel, div-lt_iff_lt-mul}
use native.Mathlib.Nat.{mul_assoc, le-div_iff_mul-le, div-eq_of_lt, div-div-eq-div-mul, mul-div-mul_right}
use native.Mathlib.Nat.{div-le_of_le-mul, div-add-mod', mod-lt, mul-lt-mul_of_pos_right, mul-le-mul_right}
use native.Mathlib.Omega.{arith}
use mathlib.Core.Bool.{Bool, true, false, not, cond, true≢false}
use lib.Dec.{T, ltb, lit<, lit≤}
use lib.Arith.{digits_div}
use lib.Pow.{pow_pos}
use borrow.Author.Tests.{lt-ltb, le-ltb, ltb-true, ltb-false}
use lib.Ieee.{Float, nan, inf, fin, Format, binary64, add, up, down, is_nan, lt, of_bits, to_bits}
use lib.Ieee.Fits.{down_pos}
use lib.Ieee.Exact.{HasValue, round_exact}
use lib.Ieee.Positive.{num, den, den_pos}
use Rattle.ieee.specs.Range.{float_in, half, upto}
use Rattle.ieee.proofs.Range.{counts, Upto, Held, upto_fact, upto_test, add_upto, whole_of}
use Rattle.rounding.proofs.Shift.{pattern, cut, exponent_in, cut_is_whole, one_is, under_one, over_one}
use Rattle.rounding.specs.Cut.{floor, ceil, FloorPromise, CeilPromise}

-- ---- bounds
pub floor_below : (x : Float) (k : ℕ) → num x < k * den x → floor x < k
unfolding floor
floor_below x k h = (div-lt_iff_lt-mul (den_pos x)).1 h

pub floor_upto : (k : ℕ) (x : Float) → T (upto k x) → floor x ≤ k
unfolding floor
floor_upto k x t =
    div-le_of_le-mul (den x)
    (le_trans (subst (λ (z : ℕ). z ≤ k * den x) (mul-one (num x)) (upto_fact k x t).1) (le_of_eq (mul_comm k (den x))))

pub ceil_upto : (k : ℕ) (x : Float) → T (upto k x) → ceil x ≤ k
unfolding ceil
ceil_upto k x t =
    last ((num x + (den x - 1)) / den x)
    ((div-lt_iff_lt-mul (den_pos x)).1 (subst (λ (z : ℕ). num x + (den x - 1) < z) (sym (suc-mul k (den x)))
    (go (num x) (den x) (k * den x) (den_pos x) (upto_fact k x t).1)))
  where
    go : (n d t : ℕ) → 0 < d → n * 1 ≤ t → n + (d - 1) < t + d
    go n d t p q = omega arith

    last : (a : ℕ) → a < suc k → a ≤ k
    last a h = omega arith

-- the ceil lies less than one above the number, and only a whole number is its own ceil
module _ (x : Float) where
  pub ceil_over : num x ≤ ceil x * den x
  unfolding ceil
  ceil_over =
      let n = num x + (den x - 1) in
      omega (arith, div-add-mod' n (den x), mod-lt n (den_pos x), den_pos x)

  pub ceil_under : ceil x * den x ≤ num x + den x
  unfolding ceil
  ceil_under = let n = num x + (den x - 1) in omega (arith, div-add-mod' n (den x), den_pos x)

  pub floor_is_ceil : num x ≡ ceil x * den x → floor x ≡ ceil x
  unfolding floor
  floor_is_ceil e = ap (λ (z : ℕ). z / den x) e ∙ mul-div_cancel (ceil x) (den_pos x)

-- ---- of a whole number
module _ (x : Float) (s : Bool) (k : ℕ) (h : HasValue x s k 1) where
  size : num x ≡ k * den x
  size = go x h
    where
      go : (x : Float) → HasValue x s k 1 → num x ≡ k * den x
      go nan h = absurd h
      go (inf s) h = absurd h
      go (fin s m e) h = sym (mul-one (m * up e)) ∙ h.1

  pub floor_whole : floor x ≡ k
  unfolding floor
  floor_whole = ap (λ (z : ℕ). z / den x) size ∙ mul-div_cancel k (den_pos x)

  pub ceil_whole : ceil x ≡ k
  unfolding ceil
  ceil_whole = ap (λ (z : ℕ). (z + (den x - 1)) / den x) size ∙ digits_div k (below (den x) (den_pos x))
    where
      below : (d : ℕ) → 0 < d → d - 1 < d
      below d D = omega arith

-- ---- x + 0.5 of an x up to 65535.25 in f64, as rounding half up has it: no more than 65535 comes out
quarters : Held binary64 262143 4
quarters = round_exact binary64 false 262143 4 262143 1072 (lit< tt) (lit< tt) (lit< tt) refl

module _ (x : Float) (u : Upto 262141 4 x) where
  sum_upto : Upto 262143 4 (add binary64 x half)
  sum_upto =
      add_upto binary64 x half 262141 4 1 2 262143 4 (lit< tt) (lit< tt) (lit< tt) u (refl, refl) quarters (lit≤ tt)

  pub half_upto : T (upto 65536 (add binary64 x half))
  half_upto = let y = add binary64 x half in upto_test 65536 y (sum_upto.0, go (num y) (den y) sum_upto.1)
    where
      go : (n d : ℕ) → n * 4 ≤ 262143 * d → n * 1 ≤ 65536 * d
      go n d h = omega arith

  pub half_floor : floor (add binary64 x half) ≤ 65535
  half_floor =
      let y = add binary64 x half in
      le_of_suc-le-suc (floor_below y 65536 (go (num y) (den y) (den_pos y) sum_upto.1))
    where
      go : (n d : ℕ) → 0 < d → n * 4 ≤ 262143 * d → n < 65536 * d
      go n d D h = omega arith

pub upto_quarter : (x : Float) → T (upto 65535 x) → Upto 262141 4 x
upto_quarter x t = let u = upto_fact 65535 x t in (u.0, go (num x) (den x) u.1)
  where
    go : (n d : ℕ) → n * 1 ≤ 65535 * d → n * 4 ≤ 262141 * d
    go n d h = omega arith

-- ---- the test `(floor as float) < x`
lt_whole : (y x : Float) (q : ℕ) → T (counts x) → HasValue y false q 1 → lt y x ≡ ltb (q * den x) (num x)
unfolding lt
lt_whole nan x q c h = absurd h
lt_whole (inf s) x q c h = absurd h
lt_whole (fin true n g) x q c h = absurd (true≢false h.0)
lt_whole (fin false n g) nan q c h = absurd c
lt_whole (fin false n g) (inf s) q c h = absurd c
lt_whole (fin false n g) (fin true (suc m) e) q c h = absurd c
lt_whole (fin false n g) (fin true zero e) q c h =
    sym (le-ltb (q * down e) (0 * up e) (subst (λ (z : ℕ). z ≤ q * down e) (sym (zero-mul (up e))) zero-le))
lt_whole (fin false n g) (fin false m e) q c h =
    ap (λ (z : ℕ). ltb (z * down e) (m * up e * down g)) (sym (mul-one (n * up g)) ∙ h.1)
    ∙ scale (ltb (q * down e) (m * up e)) refl
  where
    swap : q * down g * down e ≡ q * down e * down g
    swap = mul_right_comm q (down g) (down e)

    scale : (b : Bool) → ltb (q * down e) (m * up e) ≡ b → ltb (q * down g * down e) (m * up e * down g) ≡ b
    scale true k =
        lt-ltb (q * down g * down e) (m * up e * down g)
        (lt_of_le_of_lt (le_of_eq swap) (mul-lt-mul_of_pos_right (ltb-true (q * down e) (m * up e) k) (down_pos g)))
    scale false k =
        le-ltb (q * down g * down e) (m * up e * down g)
        (le_trans (mul-le-mul_right (down g) (ltb-false (q * down e) (m * up e) k)) (le_of_eq (sym swap)))

module _ (n d : ℕ) (D : 0 < d) where
  parts : n / d * d + n % d ≡ n
  parts = div-add-mod' n d

  next_up : n / d * d < n → (n + (d - 1)) / d ≡ n / d + 1
  next_up h =
      let r : n % d < d = mod-lt n D in
      let k : (n / d + 1) * d ≡ n / d * d + d = add-mul (n / d) 1 d ∙ ap (λ (z : ℕ). n / d * d + z) (one-mul d) in
      let e : n + (d - 1) ≡ (n / d + 1) * d + (n % d - 1) = omega (arith, parts, k) in
      ap (λ (z : ℕ). z / d) e ∙ digits_div (n / d + 1) (less (n % d) d D r)
    where
      less : (a b : ℕ) → 0 < b → a < b → a - 1 < b
      less a b p q = omega arith

  itself : n ≤ n / d * d → (n + (d - 1)) / d ≡ n / d
  itself h =
      let e : n + (d - 1) ≡ n / d * d + (d - 1) = omega (arith, parts) in
      ap (λ (z : ℕ). z / d) e ∙ digits_div (n / d) (less d D)
    where
      less : (b : ℕ) → 0 < b → b - 1 < b
      less b p = omega arith

ceil_of_test : (x y : Float) (b : Bool) → T (counts x) → HasValue y false (floor x) 1 → lt y x ≡ b
    → cond b (floor x + 1) (floor x) ≡ ceil x
unfolding floor ceil
ceil_of_test x y true c h t =
    sym (next_up (num x) (den x) (den_pos x)
    (ltb-true (num x / den x * den x) (num x) (sym (lt_whole y x (num x / den x) c h) ∙ t)))
ceil_of_test x y false c h t =
    sym (itself (num x) (den x) (den_pos x)
    (ltb-false (num x / den x * den x) (num x) (sym (lt_whole y x (num x / den x) c h) ∙ t)))

-- ---- what the functions of `inside` cite, of an x from 0 to 65,536
module _ (x : Float) (t : T (upto 65536 x)) where
  gives : (r : ℕ) → r ≡ floor x → FloorPromise x r
  gives r e = record { value = e; small = subst (λ (z : ℕ). z ≤ 65536) (sym e) (floor_upto 65536 x t) }

  pub upto_no_nan : T (not (is_nan x))
  unfolding is_nan
  upto_no_nan = go x (upto_fact 65536 x t).0
    where
      go : (x : Float) → T (counts x) → T (not (is_nan x))
      go nan c = absurd c
      go (inf s) c = absurd c
      go (fin s m e) c = tt

  pub below_gives : lt x (of_bits binary64 0x3ff0_0000_0000_0000) ≡ true → FloorPromise x 0
  unfolding floor
  below_gives h =
      gives 0 (sym (div-eq_of_lt (under_one x (upto_fact 65536 x t).0 (ap (lt x) (sym one_is) ∙ h))))

  module _ (h : lt x (of_bits binary64 0x3ff0_0000_0000_0000) ≡ false) where
    abbrev n : ℕ
    n = num x * 2 ^ 1074 / den x

    over : (den x ≤ num x) × (to_bits binary64 x ≡ pattern n)
    over = over_one x (upto_fact 65536 x t).0 (ap (lt x) (sym one_is) ∙ h)

    lo : 2 ^ 1074 ≤ n
    lo =
        (le-div_iff_mul-le (den_pos x)).1
        (le_trans (le_of_eq (mul_comm (2 ^ 1074) (den x))) (mul-le-mul_right (2 ^ 1074) over.0))

    hi : n < 2 ^ 1091
    hi =
        lt_of_le_of_lt
        (div-le_of_le-mul (den x) (le_trans (mul-le-mul_right (2 ^ 1074)
        (subst (λ (z : ℕ). z ≤ 65536 * den x) (mul-one (num x)) (upto_fact 65536 x t).1)) (le_of_eq
        (ap (λ (z : ℕ). z * 2 ^ 1074) (mul_comm 65536 (den x)) ∙ mul_assoc (den x) 65536 (2 ^ 1074))))) (lit< tt)

    pub exponent_from_to : (1023 ≤ to_bits binary64 x / 4503599627370496)
        × (to_bits binary64 x / 4503599627370496 ≤ 1039)
    exponent_from_to =
        subst (λ (z : ℕ). (1023 ≤ z / 4503599627370496) × (z / 4503599627370496 ≤ 1039)) (sym over.1)
        (exponent_in n lo hi)

    pub floor_gives : FloorPromise x (cut (to_bits binary64 x))
    unfolding floor
    floor_gives =
        gives (cut (to_bits binary64 x))
        (ap cut over.1
        ∙ cut_is_whole n lo hi
        ∙ div-div-eq-div-mul (num x * 2 ^ 1074) (den x) (2 ^ 1074)
        ∙ mul-div-mul_right (num x) (den x) (pow_pos 1074))

  pub ceil_gives : (f : Format) (r : ℕ) (b : Bool) → FloorPromise x r → lt (float_in f r) x ≡ b
      → CeilPromise x (cond b (r + 1) r)
  ceil_gives f r b p e =
      let k : cond b (r + 1) r ≡ ceil x =
      ap (λ (z : ℕ). cond b (z + 1) z) p.value
      ∙ ceil_of_test x (float_in f r) b (upto_fact 65536 x t).0 (subst (λ (z : ℕ). HasValue (float_in f r) false z 1)
      p.value (whole_of f r p.small)) e in
      record { value = k; small = subst (λ (z : ℕ). z ≤ 65536) (sym k) (ceil_upto 65536 x t) }
