-- The Rust asks whether `violations as f64 / n as f64` is below 0.05. For every table that is judged, that is the
-- document's 20v < n. For rounding keeps the order of fractions, 0.05 is a twentieth rounded, and no fraction below a
-- twentieth with a denominator up to 65,536 is above 65535/1310720, which rounds to less than 0.05. Assumes nothing.
use mathlib.Core.Path.{◌≡◌, ◌∙◌, refl, sym, ap, ap₂, subst}
use mathlib.Core.Logic.{⊎_elim}
use mathlib.Core.Bool.{Bool, true, false, true≢false}
use mathlib.Core.List.{List}
use Prim.Native.Nat.{ℕ, zero, suc, ◌*◌, ◌^◌, ◌≤◌, ◌<◌}
use native.Mathlib.Nat.{mul-one, mul_assoc, mul_comm, mul_left_comm, mul_right_comm, mul-pos, mul-le-mul_right}
use native.Mathlib.Nat.{mul-lt-mul_of_pos_right, lt_of_mul-lt-mul_right, le_trans, le_of_eq, lt_of_le_of_lt}
use native.Mathlib.Nat.{lt_of_lt_of_le, eq-zero-or-pos, zero-lt-suc}
use native.Mathlib.Omega.{arith}
use borrow.Author.Tests.{lt-ltb, le-ltb, ne_eqb}
use lib.ListN.{length}
use lib.Dec.{T, ltb, ltb→lt, lit≤, lit<}
use lib.IntN.{pos}
use lib.Ieee.{Float, nan, inf, fin, Format, binary64, up, down, round, div, lt, of_int, of_bits}
use lib.Ieee.Fits.{down_pos}
use lib.Ieee.Exact.{HasValue}
use lib.Ieee.Scale.{round_same}
use lib.Ieee.Back.{round_whole}
use lib.Ieee.Order.{round_mono}
use lib.Ieee.Positive.{num, den, positive, den_pos, first_pos, le→cross, between}
use Rattle.table.specs.Choice.{pick}
use Rattle.table.proofs.Choice.{below?}
use Rattle.monotonic.specs.Steps.{violations, few_enough, monotonic}
use Rattle.monotonic.specs.declared.Direction.{Direction}
use Rattle.monotonic.proofs.Steps.{violations_few}

-- 0.05, by its bit pattern
unfoldable pub five_hundredths : Float
unfolding of_bits
five_hundredths = of_bits binary64 4587366580439587226

-- the Rust's test of v violations in n entries
unfoldable pub f64_test : ℕ → ℕ → Bool
unfolding lt div of_int five_hundredths
f64_test v n = lt (div binary64 (of_int binary64 (pos v)) (of_int binary64 (pos n))) five_hundredths

-- the quotient of two whole numbers that floats hold is their fraction, rounded once
quotient : (f : Format) (x y : Float) (a b : ℕ) → HasValue x false a 1 → HasValue y false b 1 → 0 < b
    → div f x y ≡ round f false a b
unfolding div
quotient f nan y a b p q B = absurd p
quotient f (inf s) y a b p q B = absurd p
quotient f (fin true m e) y a b p q B = absurd (true≢false p.0)
quotient f (fin false m e) nan a b p q B = absurd q
quotient f (fin false m e) (inf t) a b p q B = absurd q
quotient f (fin false m e) (fin true n g) a b p q B = absurd (true≢false q.0)
quotient f (fin false m e) (fin false n g) a b p q B =
    let x : m * up e ≡ a * down e = sym (mul-one (m * up e)) ∙ p.1 in
    let y : n * up g ≡ b * down g = sym (mul-one (n * up g)) ∙ q.1 in
    let n>0 : 0 < n = first_pos n (up g) (rw y (mul-pos B (down_pos g))) in
    let d>0 : 0 < n * up g * down e = rw y (mul-pos (mul-pos B (down_pos g)) (down_pos e)) in
    let cross : m * up e * down g * b ≡ a * (n * up g * down e)
    = rw (x, y) (simp (mul_assoc, mul_comm, mul_left_comm)) in
    rw (ne_eqb n 0 (λ (z : n ≡ 0). omega arith)) (round_same f false _ _ a b d>0 B cross)

-- 0.05 is a twentieth rounded
is_rounded : five_hundredths ≡ round binary64 false 1 20
unfolding five_hundredths of_bits round
is_rounded = refl

-- values above zero compare as their fractions
lt_cross : (x y : Float) → T (positive x) → T (positive y) → lt x y ≡ ltb (num x * den y) (num y * den x)
unfolding lt
lt_cross nan y p q = absurd p
lt_cross (inf s) y p q = absurd p
lt_cross (fin true m e) y p q = absurd p
lt_cross (fin false m e) nan p q = absurd q
lt_cross (fin false m e) (inf t) p q = absurd q
lt_cross (fin false m e) (fin true n g) p q = absurd q
lt_cross (fin false m e) (fin false n g) p q = refl

-- three fractions: x/p ≤ y/q < z/r
le_then_lt : (x y z p q r : ℕ) → 0 < p → x * q ≤ y * p → y * r < z * q → x * r < z * p
le_then_lt x y z p q r P h k =
    lt_of_mul-lt-mul_right q
    (lt_of_le_of_lt
    (le_trans (le_of_eq (mul_right_comm x r q)) (le_trans (mul-le-mul_right r h) (le_of_eq (mul_right_comm y p r))))
    (lt_of_lt_of_le (mul-lt-mul_of_pos_right k P) (le_of_eq (mul_right_comm z q p))))

-- The fractions between which all others here lie, a twentieth, and the bound on those below it: each, rounded, is
-- above zero, and the bound is below 0.05.
least_positive : T (positive (round binary64 false 1 65536))
unfolding round
least_positive = tt

most_positive : T (positive (round binary64 false 65536 1))
unfolding round
most_positive = tt

twentieth_positive : T (positive (round binary64 false 1 20))
unfolding round
twentieth_positive = tt

under_positive : T (positive (round binary64 false 65535 1310720))
unfolding round
under_positive = tt

under_twentieth : T (lt (round binary64 false 65535 1310720) (round binary64 false 1 20))
unfolding round lt
under_twentieth = tt

none_under : lt (round binary64 false 0 1) (round binary64 false 1 20) ≡ true
unfolding round lt
none_under = refl

module _ (v n : ℕ) (vn : v ≤ n) (few : n ≤ 65536) where
  fraction_positive : 0 < v → T (positive (round binary64 false v n))
  fraction_positive h =
      between _ _ _ least_positive most_positive
      (round_mono binary64 1 65536 v n (lit< tt) (omega arith) (omega (arith, mul-le-mul_right 65536 h)))
      (round_mono binary64 v n 65536 1 (omega arith) (lit< tt) (omega arith))

  -- v/n is below a twentieth, so at most 65535/1310720 and rounded at most that rounded, which is below 0.05
  under : 0 < v → 20 * v < n → lt (round binary64 false v n) (round binary64 false 1 20) ≡ true
  under h l =
      let x = round binary64 false v n in
      let y = round binary64 false 65535 1310720 in
      let z = round binary64 false 1 20 in
      let xy : num x * den y ≤ num y * den x
      = le→cross x y (fraction_positive h) under_positive
      (round_mono binary64 v n 65535 1310720 (omega arith) (lit< tt) (omega arith)) in
      let yz : num y * den z < num z * den y =
      ltb→lt (num y * den z) (num z * den y)
      (subst T (lt_cross y z under_positive twentieth_positive) under_twentieth) in
      lt_cross x z (fraction_positive h) twentieth_positive
      ∙ lt-ltb (num x * den z) (num z * den x)
      (le_then_lt (num x) (num y) (num z) (den x) (den y) (den z) (den_pos x) xy yz)

  -- v/n is a twentieth or above, so rounded it is 0.05 or above
  over : 0 < v → n ≤ 20 * v → lt (round binary64 false v n) (round binary64 false 1 20) ≡ false
  over h l =
      let x = round binary64 false v n in
      let z = round binary64 false 1 20 in
      lt_cross x z (fraction_positive h) twentieth_positive
      ∙ le-ltb (num x * den z) (num z * den x)
      (le→cross z x twentieth_positive (fraction_positive h)
      (round_mono binary64 1 20 v n (lit< tt) (omega arith) (omega arith)))

  none : 0 < n → v ≡ 0 → lt (round binary64 false v n) (round binary64 false 1 20) ≡ true
  none N e =
      ap (λ (x : Float). lt x (round binary64 false 1 20))
      (round_same binary64 false v n 0 1 N (lit< tt) (omega arith)) ∙ none_under

  rounded : 0 < n → lt (round binary64 false v n) (round binary64 false 1 20) ≡ ltb (20 * v) n
  rounded N =
      ⊎_elim
      (λ (e : v ≡ 0). none N e ∙ sym (lt-ltb (20 * v) n (omega arith)))
      (λ (h : 0 < v).
      ⊎_elim
      (λ (l : 20 * v < n). under h l ∙ sym (lt-ltb (20 * v) n l))
      (λ (l : n ≤ 20 * v). over h l ∙ sym (le-ltb (20 * v) n l))
      (below? (20 * v) n))
      (eq-zero-or-pos v)

  -- The Rust's f64 test is 20 × violations < entries. [monotonic::is_curve_monotonic]
  pub f64_test_lem : 0 < n → f64_test v n ≡ ltb (20 * v) n
  unfolding f64_test of_int
  f64_test_lem N =
      ap₂ lt
      (quotient binary64 (round binary64 false v 1) (round binary64 false n 1) v n
      (round_whole binary64 false v (le_trans vn wide)) (round_whole binary64 false n wide) N)
      is_rounded
      ∙ rounded N
    where
      wide : n ≤ 2 ^ 53
      wide = le_trans few (lit≤ tt)

-- The verdict is the Rust's, in the direction that it is given. [monotonic::is_curve_monotonic]
pub as_the_rust : (d : Direction) (t : List ℕ) → length t ≤ 65536
    → monotonic d t ≡ pick (ltb (length t) 2) true (f64_test (violations d t) (length t))
unfolding few_enough
as_the_rust d t few = go (length t) (violations_few d t) few
  where
    go : (n : ℕ) → violations d t ≤ n → n ≤ 65536
        → pick (ltb n 2) true (ltb (20 * violations d t) n) ≡ pick (ltb n 2) true (f64_test (violations d t) n)
    go zero h k = refl
    go (suc n) h k = rw (f64_test_lem (violations d t) (suc n) h k (zero-lt-suc n))
