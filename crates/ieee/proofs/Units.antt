-- Rounding in units of the format's smallest value: which unit is kept, the bit pattern of what comes out, and how far
-- it can lie from the fraction. Assumes nothing.
use mathlib.Core.Path.{◌≡◌, refl, sym, ap, ap₂, ◌∙◌, subst}
use Prim.Native.Nat.{ℕ, suc, ◌+◌, ◌-◌, ◌*◌, ◌/◌, ◌^◌, ◌≤◌, ◌<◌}
use native.Mathlib.Nat.{le_refl, le_trans, le_of_eq, lt_of_not-le, lt_of_lt_of_le, lt_of_le_of_lt, not-le_of_lt}
use native.Mathlib.Nat.{eq-or-lt_of_le, mul_comm, mul_assoc, mul_left_comm, mul-le-mul_right, mul-le-mul_left, mul-pos}
use native.Mathlib.Nat.{mul-div_cancel, div-lt_iff_lt-mul, le-div_iff_mul-le, mul-lt-mul_of_pos_right}
use native.Mathlib.Nat.{mul-lt-mul_of_pos_left, lt_of_mul-lt-mul_right, le_of_mul-le-mul_right, add_assoc, add-mul}
use native.Mathlib.Nat.{mul-add, mul-one, suc-mul, pow-succ'}
use native.Mathlib.Omega.{arith}
use mathlib.Core.Bool.{Bool, true, false, not, cond}
use mathlib.Core.Logic.{◌⊎◌, inl, inr}
use lib.Dec.{T, ltb, ltb→lt, lt→ltb, nltb→le}
use lib.Pow.{pow-add, pow_pos, pow_mono, pow-lt, shl_lt}
use lib.Ieee.{Float, nan, inf, fin, Format, binary32, binary64, prec, emax, low, down, size, odd, units, round, hid}
use lib.Ieee.{ones, top, of_bits, to_bits, le}
use lib.Ieee.Fits.{down_pos, round_is, odd-fits, inf-fits, two}
use lib.Ieee.Bits.{of_bits-to_bits, cond_no}
use lib.Arith.{le→nltb}
use lib.Ieee.Digits.{size-lt, size-le, size_reaches}
use lib.Ieee.Exact.{HasValue, odd_sign, units_val}
use lib.Ieee.Nearest.{closest, closest_same}
use lib.Ieee.Order.{drop, kept}
use lib.Ieee.Scale.{grid, overflow, finite, normal_of_fraction}
use Rattle.ieee.proofs.Closest.{closest_le, closest_ge, closest_over}

-- ---- how many digits are dropped
size_gt : (n j : ℕ) → 2 ^ j ≤ n → j < size n
size_gt n j h = lt_of_not-le (λ (g : size n ≤ j). not-le_of_lt (lt_of_lt_of_le (size-lt n) (pow_mono g)) h)

-- w has at most k digits more than the format keeps, and exactly k more unless k is 0
dropped : (f : Format) (w k : ℕ) → w < 2 ^ (prec f + k) → (k ≡ 0) ⊎ (2 ^ (prec f - 1 + k) ≤ w) → size w - prec f ≡ k
dropped f w k h (inl e) = few (size w) (prec f) (size-le w (prec f + k) h)
  where
    few : (z p : ℕ) → z ≤ p + k → z - p ≡ k
    few z p q = omega arith
dropped f w k h (inr g) = just (size w) (prec f) (two f) (size-le w (prec f + k) h) (size_gt w (prec f - 1 + k) g)
  where
    just : (z p : ℕ) → 2 ≤ p → z ≤ p + k → p - 1 + k < z → z - p ≡ k
    just z p t q r = omega arith

half_of : (f : Format) → 2 ^ prec f ≡ hid f * 2
half_of binary32 = refl
half_of binary64 = refl

-- ---- the pattern of q * 2 ^ k units: the sign, k in the exponent's field, and q
-- The leading digit of q adds one to the field.
to_bits_of : (f : Format) (x : Float) (s : Bool) (a : ℕ) → HasValue x s a (2 ^ low f)
    → to_bits f x ≡ cond s (top f) 0 + (size a - prec f) * hid f + a / 2 ^ (size a - prec f)
unfolding to_bits
to_bits_of f nan s a h = absurd h
to_bits_of f (inf t) s a h = absurd h
to_bits_of f (fin t m e) s a h =
    ap₂ (λ (u : Bool) (n : ℕ). cond u (top f) 0 + (size n - prec f) * hid f + n / 2 ^ (size n - prec f)) h.0
    (ap (λ (z : ℕ). z / down e) h.1 ∙ mul-div_cancel a (down_pos e))

-- q has all the digits that the format keeps, or no digit is dropped
abbrev pub Whole : Format → ℕ → ℕ → Type 0
Whole f q k = (k ≡ 0) ⊎ (hid f ≤ q)

module _ (f : Format) (s : Bool) where
  units_in : (q k : ℕ) → q * 2 ^ k < overflow f → units f s q k ≡ odd (suc (prec f)) s q k (low f)
  unfolding units
  units_in q k h = cond_yes (ltb (q * 2 ^ k) (overflow f)) (lt→ltb (q * 2 ^ k) (overflow f) h)
    where
      cond_yes : (b : Bool) → T b → cond b (odd (suc (prec f)) s q k (low f)) (inf s) ≡ odd (suc (prec f)) s q k (low f)
      cond_yes true t = refl
      cond_yes false t = absurd t

  units_over : (q k : ℕ) → overflow f ≤ q * 2 ^ k → units f s q k ≡ inf s
  unfolding units
  units_over q k h =
      cond_no (ltb (q * 2 ^ k) (overflow f)) (odd (suc (prec f)) s q k (low f)) (inf s)
      (le→nltb (q * 2 ^ k) (overflow f) h)

  shown : (q k : ℕ) → q < 2 ^ prec f → Whole f q k
      → cond s (top f) 0 + (size (q * 2 ^ k) - prec f) * hid f + q * 2 ^ k / 2 ^ (size (q * 2 ^ k) - prec f)
      ≡ cond s (top f) 0 + (k * hid f + q)
  shown q k h w =
      ap (λ (z : ℕ). cond s (top f) 0 + z * hid f + q * 2 ^ k / 2 ^ z)
      (dropped f (q * 2 ^ k) k (shl_lt (prec f) k h) (scaled w))
      ∙ ap (λ (z : ℕ). cond s (top f) 0 + k * hid f + z) (mul-div_cancel q (pow_pos k))
      ∙ add_assoc (cond s (top f) 0) (k * hid f) q
    where
      scaled : Whole f q k → (k ≡ 0) ⊎ (2 ^ (prec f - 1 + k) ≤ q * 2 ^ k)
      scaled (inl e) = inl e
      scaled (inr g) = inr (le_trans (le_of_eq (pow-add 2 (prec f - 1) k)) (mul-le-mul_right (2 ^ k) g))

  -- a q of 2 ^ prec carries into the field
  carried : (q k : ℕ) → q ≡ 2 ^ prec f
      → cond s (top f) 0 + (size (q * 2 ^ k) - prec f) * hid f + q * 2 ^ k / 2 ^ (size (q * 2 ^ k) - prec f)
      ≡ cond s (top f) 0 + (k * hid f + q)
  carried q k e =
      let r : q * 2 ^ k ≡ hid f * 2 ^ suc k = ap (λ (z : ℕ). z * 2 ^ k) (e ∙ half_of f) ∙ mul_assoc (hid f) 2 (2 ^ k)
      ∙ ap (λ (z : ℕ). hid f * z) (sym (pow-succ' 2 k)) in
      ap (λ (a : ℕ). cond s (top f) 0 + (size a - prec f) * hid f + a / 2 ^ (size a - prec f)) r
      ∙ shown (hid f) (suc k) (subst (λ (z : ℕ). hid f < z) (sym (half_of f))
      (double (hid f) (pow_pos (prec f - 1)))) (inr (le_refl (hid f)))
      ∙ ap (λ (z : ℕ). cond s (top f) 0 + z) (tidy (hid f) k ∙ ap (λ (z : ℕ). k * hid f + z) (sym (e ∙ half_of f)))
    where
      double : (h : ℕ) → 0 < h → h < h * 2
      double h p = omega arith

      tidy : (h k : ℕ) → suc k * h + h ≡ k * h + h * 2
      tidy h k = omega (arith, suc-mul k h)

  pattern_finite : (q k : ℕ) → q ≤ 2 ^ prec f → Whole f q k → q * 2 ^ k < overflow f
      → of_bits f (cond s (top f) 0 + (k * hid f + q)) ≡ units f s q k
  pattern_finite q k h w o =
      let v = odd (suc (prec f)) s q k (low f) in
      ap (of_bits f) (sym (to_bits_of f v s (q * 2 ^ k) (odd_sign (suc (prec f)) s q k (low f))
      ∙ elim (eq-or-lt_of_le h) [ inl e ↦ carried q k e | inr l ↦ shown q k l w ]))
      ∙ of_bits-to_bits f v (odd-fits f (suc (prec f)) s q k (lt_of_le_of_lt h (pow-lt (le_refl (suc (prec f))))) h o)
      ∙ sym (units_in q k o)

  pub inf_pattern : of_bits f (cond s (top f) 0 + ones f * hid f) ≡ inf s
  unfolding to_bits
  inf_pattern = of_bits-to_bits f (inf s) (inf-fits f s)

  -- the largest field whose sum is still the pattern that is meant: there q = 2 ^ prec gives the infinity's
  pattern : (q k : ℕ) → q ≤ 2 ^ prec f → Whole f q k → k ≤ 2 * emax f - 1
      → of_bits f (cond s (top f) 0 + (k * hid f + q)) ≡ units f s q k
  pattern q k h w K =
      go (ltb (q * 2 ^ k) (overflow f)) (ltb→lt (q * 2 ^ k) (overflow f)) (nltb→le (q * 2 ^ k) (overflow f))
    where
      most : 2 ^ prec f * 2 ^ (2 * emax f - 1) ≡ overflow f
      most = at f
        where
          at : (f : Format) → 2 ^ prec f * 2 ^ (2 * emax f - 1) ≡ overflow f
          at binary32 = refl
          at binary64 = refl

      last : (2 * emax f - 1) * hid f + 2 ^ prec f ≡ ones f * hid f
      last = at f
        where
          at : (f : Format) → (2 * emax f - 1) * hid f + 2 ^ prec f ≡ ones f * hid f
          at binary32 = refl
          at binary64 = refl

      all : overflow f ≤ q * 2 ^ k → q ≡ 2 ^ prec f
      all o = elim (eq-or-lt_of_le h) [
        | inl e ↦ e
        | inr l ↦ absurd (not-le_of_lt (lt_of_lt_of_le (mul-lt-mul_of_pos_right l (pow_pos k))
            (le_trans (mul-le-mul_left (2 ^ prec f) (pow_mono K)) (le_of_eq most))) o)
      ]

      end : overflow f ≤ q * 2 ^ k → k ≡ 2 * emax f - 1
      end o = elim (eq-or-lt_of_le K) [
        | inl e ↦ e
        | inr l ↦ absurd (not-le_of_lt (lt_of_le_of_lt (mul-le-mul_right (2 ^ k) h)
            (subst (λ (z : ℕ). 2 ^ prec f * 2 ^ k < z) most (mul-lt-mul_of_pos_left (pow-lt l) (pow_pos (prec f))))) o)
      ]

      go : (b : Bool) → (T b → q * 2 ^ k < overflow f) → (T (not b) → overflow f ≤ q * 2 ^ k)
          → of_bits f (cond s (top f) 0 + (k * hid f + q)) ≡ units f s q k
      go true o n = pattern_finite q k h w (o tt)
      go false o n =
          ap₂ (λ (u v : ℕ). of_bits f (cond s (top f) 0 + (u * hid f + v))) (end (n tt)) (all (n tt))
          ∙ ap (λ (z : ℕ). of_bits f (cond s (top f) 0 + z)) last
          ∙ inf_pattern
          ∙ sym (units_over q k (n tt))

-- ---- a / c in units is q / d times 2 ^ k
-- The whole part of q / d has no more digits than the format keeps, and all of them unless k is 0.
module _ (f : Format) (s : Bool) (a c k q d : ℕ) (C : 0 < c) (D : 0 < d) (e : a * 2 ^ low f * d ≡ q * (c * 2 ^ k))
    (hi : q < 2 ^ prec f * d) (full : (k ≡ 0) ⊎ (hid f * d ≤ q)) where
  kept_k : size (a * 2 ^ low f / c) - prec f ≡ k
  kept_k = dropped f (a * 2 ^ low f / c) k ((div-lt_iff_lt-mul C).1 under) (over full)
    where
      regroup : (p : ℕ) → 2 ^ (p + k) * c * d ≡ 2 ^ p * d * (c * 2 ^ k)
      regroup p = simp (pow-add, mul_assoc, mul_comm, mul_left_comm)

      under : a * 2 ^ low f < 2 ^ (prec f + k) * c
      under =
          lt_of_mul-lt-mul_right d (lt_of_le_of_lt (le_of_eq e)
          (lt_of_lt_of_le (mul-lt-mul_of_pos_right hi (mul-pos C (pow_pos k))) (le_of_eq (sym (regroup (prec f))))))

      over : (k ≡ 0) ⊎ (hid f * d ≤ q) → (k ≡ 0) ⊎ (2 ^ (prec f - 1 + k) ≤ a * 2 ^ low f / c)
      over (inl z) = inl z
      over (inr g) =
          inr ((le-div_iff_mul-le C).1 (le_of_mul-le-mul_right (le_trans (le_of_eq (regroup (prec f - 1)))
          (le_trans (mul-le-mul_right (c * 2 ^ k) g) (le_of_eq (sym e)))) D))

  pub round_closest : round f s a c ≡ units f s (closest q d) k
  round_closest =
      round_is f s a c
      ∙ ap (λ (z : ℕ). units f s (closest (a * 2 ^ low f) (c * 2 ^ z)) z) kept_k
      ∙ ap (λ (z : ℕ). units f s z k) (closest_same (a * 2 ^ low f) (c * 2 ^ k) q d (mul-pos C (pow_pos k)) D e)

  whole : Whole f (closest q d) k
  whole = go full
    where
      go : (k ≡ 0) ⊎ (hid f * d ≤ q) → Whole f (closest q d) k
      go (inl z) = inl z
      go (inr g) = inr (closest_ge q d (hid f) D g)

  pub round_pattern : k ≤ 2 * emax f - 1 → of_bits f (cond s (top f) 0 + (k * hid f + closest q d)) ≡ round f s a c
  round_pattern K = pattern f s (closest q d) k (closest_le q d (2 ^ prec f) D hi) whole K ∙ sym round_closest

  pub round_infinite : overflow f ≤ closest q d * 2 ^ k → round f s a c ≡ inf s
  round_infinite o = round_closest ∙ units_over f s (closest q d) k o

-- ---- a rounded fraction in units, with either sign
pub round_val_of : (f : Format) (s : Bool) (a c : ℕ) → grid f a c < overflow f
    → HasValue (round f s a c) s (grid f a c) (2 ^ low f)
round_val_of f s a c h =
    subst (λ (z : Float). HasValue z s (grid f a c) (2 ^ low f)) (sym (round_is f s a c))
    (units_val f s (kept (prec f) (a * 2 ^ low f) c) (drop (prec f) (a * 2 ^ low f) c) h)

-- what is no more than a finite value is finite itself
pub round_finite : (f : Format) (a c : ℕ) (y : Float) → T (finite y) → T (le (round f false a c) y)
    → grid f a c < overflow f
unfolding le
round_finite f a c y F h =
    go (ltb (grid f a c) (overflow f)) (ltb→lt (grid f a c) (overflow f)) (nltb→le (grid f a c) (overflow f))
  where
    never : (y : Float) → T (finite y) → T (le (inf false) y) → ⊥
    never nan F h = F
    never (inf s) F h = F
    never (fin s m e) F h = h

    go : (b : Bool) → (T b → grid f a c < overflow f) → (T (not b) → overflow f ≤ grid f a c) → grid f a c < overflow f
    go true o n = o tt
    go false o n =
        absurd (never y F (subst (λ (z : Float). T (le z y)) (round_is f false a c
        ∙ units_over f false (kept (prec f) (a * 2 ^ low f) c) (drop (prec f) (a * 2 ^ low f) c) (n tt)) h))

-- rounding adds at most one part in 2 ^ prec, in the normal range
pub grid_over : (f : Format) (a c : ℕ) → 0 < c → hid f * c ≤ a * 2 ^ low f
    → grid f a c * c * 2 ^ prec f ≤ a * 2 ^ low f * (2 ^ prec f + 1)
grid_over f a c C h =
    let n = a * 2 ^ low f in
    let k = drop (prec f) n c in
    let u = c * 2 ^ k in
    let z = size (n / c) in
    let lead : 2 ^ (prec f - 1 + k) * c ≤ n = (le-div_iff_mul-le C).0
    (size_reaches (n / c) (prec f - 1 + k) (first z (prec f) (two f) (normal_of_fraction f a c C h))) in
    let half : hid f * u ≤ n = le_trans (le_of_eq (regroup (prec f - 1) k)) lead in
    let same : closest n u * 2 ^ k * c * 2 ^ prec f ≡ closest n u * u * 2 ^ prec f =
    simp (mul_assoc, mul_comm, mul_left_comm) in
    le_trans (le_of_eq same)
    (share (closest n u * u) u n (2 ^ prec f) (hid f) (half_of f) (closest_over n u (mul-pos C (pow_pos k))) half)
  where
    first : (z p : ℕ) → 2 ≤ p → p ≤ z → p - 1 + (z - p) < z
    first z p t q = omega arith

    regroup : (p k : ℕ) → 2 ^ p * (c * 2 ^ k) ≡ 2 ^ (p + k) * c
    regroup p k = simp (pow-add, mul_assoc, mul_comm, mul_left_comm)

    -- x is at most n + u / 2, and u at most n / h
    share : (x u n p h : ℕ) → p ≡ h * 2 → x * 2 ≤ n * 2 + u → h * u ≤ n → x * p ≤ n * (p + 1)
    share x u n p h e q r =
        let a1 : x * 2 * h ≤ (n * 2 + u) * h = mul-le-mul_right h q in
        let a2 : x * p ≡ x * 2 * h = ap (λ (z : ℕ). x * z) e ∙ simp (mul_assoc, mul_comm, mul_left_comm) in
        let a3 : (n * 2 + u) * h ≡ n * p + h * u = add-mul (n * 2) u h
        ∙ ap₂ (λ (y z : ℕ). y + z) (mul_assoc n 2 h ∙ ap (λ (z : ℕ). n * z) (mul_comm 2 h ∙ sym e)) (mul_comm u h) in
        let a4 : n * (p + 1) ≡ n * p + n = mul-add n p 1 ∙ ap (λ (z : ℕ). n * p + z) (mul-one n) in
        omega arith
