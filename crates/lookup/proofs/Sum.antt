-- The weighted sum S, over any divisor cap and any source of entries: both lookups rest on it. On a nondecreasing
-- source it never falls and lies between cap times its two entries; where a step lands on an entry, it is cap times
-- that entry. Assumes nothing.
use mathlib.Core.Path.{◌≡◌, ◌∙◌, ap, refl, sym}
use mathlib.Core.Logic.{⊎_elim}
use Prim.Native.Nat.{ℕ, ◌+◌, ◌-◌, ◌*◌, ◌/◌, ◌%◌, ◌≤◌, ◌<◌}
use native.Mathlib.Nat.{le_refl, le_trans, le_of_eq, le_of_lt, mul-zero, zero-mul, zero-add, sub-zero, div-add-mod'}
use native.Mathlib.Nat.{mod-lt, eq-zero-or-pos, eq-or-lt_of_le, zero-div, zero-mod, mul-mod_right, mul-div_right}
use native.Mathlib.Nat.{mul-le-mul_right, mul-add-div_right, mul-add-mod_self_right, div-eq_of_lt, mod-eq_of_lt}
use native.Mathlib.Nat.{mod_self, div_self, sub_self, add-zero}
use native.Mathlib.Omega.{arith}
use Rattle.table.proofs.Quotient.{ceil_off, ceil_le, div_le_ceil, div_mono}
use Rattle.lookup.specs.Lookup.{lower, rest, upper, weighted, steps}
use Rattle.lookup.proofs.Weigh.{sum_le, le_sum, sum_mono}
use Rattle.lookup.proofs.Steps.{steps_le, steps_mono, lower_lt, upper_lt}

-- n entries of which no later one is below an earlier: of a table's entries, that it is nondecreasing
abbrev pub Rises : ℕ → (ℕ → ℕ) → Type 0
Rises n T = (i j : ℕ) → i ≤ j → j < n → T i ≤ T j

-- Two sources that agree in the bracketing entries give one sum. [lookup]
pub sum_same : (cap : ℕ) (T U : ℕ → ℕ) (v : ℕ) → T (lower cap v) ≡ U (lower cap v) → T (upper cap v) ≡ U (upper cap v)
    → weighted cap T v ≡ weighted cap U v
unfolding weighted
sum_same cap T U v l u =
    ap (λ (a : ℕ). T (upper cap v) * rest cap v + a * (cap - rest cap v)) l
    ∙ ap (λ (b : ℕ). b * rest cap v + U (lower cap v) * (cap - rest cap v)) u

-- the sum of two entries that were read
pub sum_read : (cap : ℕ) (T : ℕ → ℕ) (v : ℕ) {u hi lo s : ℕ} → u ≡ upper cap v → hi ≡ T u → lo ≡ T (lower cap v)
    → s ≡ hi * rest cap v + lo * (cap - rest cap v) → s ≡ weighted cap T v
unfolding weighted
sum_read cap T v e h l s = rw (s, h, l, e) refl

module _ (cap : ℕ) (T : ℕ → ℕ) (pos : 0 < cap) where
  -- where nothing is left over: that entry alone
  pub sum_on_entry : (v : ℕ) → v % cap ≡ 0 → weighted cap T v ≡ T (v / cap) * cap
  unfolding weighted
  sum_on_entry v e = simp (e, mul-zero, zero-add, sub-zero)

  -- What is not below either entry, times cap, is not below the sum. [lookup]
  pub sum_at_most : (m v : ℕ) → T (lower cap v) ≤ m → T (upper cap v) ≤ m → weighted cap T v ≤ m * cap
  unfolding weighted
  sum_at_most m v l u = sum_le cap _ _ m (v % cap) l u (le_of_lt (mod-lt v pos))

  -- What is not above either entry, times cap, is not above the sum. [lookup]
  pub sum_at_least : (m v : ℕ) → m ≤ T (lower cap v) → m ≤ T (upper cap v) → m * cap ≤ weighted cap T v
  unfolding weighted
  sum_at_least m v l u = le_sum cap _ _ m (v % cap) l u (le_of_lt (mod-lt v pos))

  -- At position 0 the sum is the first entry times cap. [lookup]
  pub sum_first : (n : ℕ) → weighted cap T (steps n 0) ≡ T 0 * cap
  sum_first n = simp zero-mul (sum_on_entry 0 (zero-mod cap) ∙ ap (λ (i : ℕ). T i * cap) (zero-div cap))

  -- At position cap the sum is the last of n entries times cap. [lookup]
  pub sum_last : (n : ℕ) → weighted cap T (steps n cap) ≡ T (n - 1) * cap
  sum_last n =
      sum_on_entry (steps n cap) (mul-mod_right cap (n - 1)) ∙ ap (λ (i : ℕ). T i * cap) (mul-div_right (n - 1) pos)

-- where nothing is left over the upper entry has no weight, so it may as well be the next
plain : (cap : ℕ) (T : ℕ → ℕ) (v : ℕ) → T (upper cap v) * rest cap v ≡ T (lower cap v + 1) * rest cap v
plain cap T v = ⊎_elim none some (eq-zero-or-pos (v % cap))
  where
    none : v % cap ≡ 0 → T (upper cap v) * rest cap v ≡ T (lower cap v + 1) * rest cap v
    none e = rw e (mul-zero _ ∙ sym (mul-zero _))

    some : 0 < v % cap → T (upper cap v) * rest cap v ≡ T (lower cap v + 1) * rest cap v
    some h = ap (λ (i : ℕ). T i * rest cap v) (ceil_off v cap h)

-- c entries passed and k of cap steps towards the next, up to that one itself: the two entries, so weighed
module _ (cap : ℕ) (T : ℕ → ℕ) (pos : 0 < cap) (c k : ℕ) where
  sum_between : k < cap → weighted cap T (c * cap + k) ≡ T (c + 1) * k + T c * (cap - k)
  unfolding weighted
  sum_between h =
      let v = c * cap + k in
      let q : v / cap ≡ c = mul-add-div_right pos c k ∙ ap (λ (n : ℕ). c + n) (div-eq_of_lt h) ∙ add-zero c in
      let r : v % cap ≡ k = mul-add-mod_self_right c cap k ∙ mod-eq_of_lt h in
      ap (λ (b : ℕ). b + T (v / cap) * (cap - v % cap)) (plain cap T v)
      ∙ ap (λ (i : ℕ). T (i + 1) * (v % cap) + T i * (cap - v % cap)) q
      ∙ ap (λ (j : ℕ). T (c + 1) * j + T c * (cap - j)) r

  sum_next : k ≡ cap → weighted cap T (c * cap + k) ≡ T (c + 1) * k + T c * (cap - k)
  sum_next e =
      rw e
      (sum_on_entry cap T pos (c * cap + cap) (mul-add-mod_self_right c cap cap ∙ mod_self cap)
      ∙ ap (λ (i : ℕ). T i * cap) (mul-add-div_right pos c cap ∙ ap (λ (n : ℕ). c + n) (div_self pos))
      ∙ simp (sub_self, mul-zero, add-zero))

  pub sum_steps : k ≤ cap → weighted cap T (c * cap + k) ≡ T (c + 1) * k + T c * (cap - k)
  sum_steps h = ⊎_elim sum_next sum_between (eq-or-lt_of_le h)

module _ (cap n : ℕ) (T : ℕ → ℕ) (pos : 0 < cap) (some : 0 < n) (R : Rises n T) where
  ordered : (v : ℕ) → v ≤ (n - 1) * cap → T (lower cap v) ≤ T (upper cap v)
  ordered v h = R (lower cap v) (upper cap v) (div_le_ceil v cap) (upper_lt cap n v pos some h)

  -- Over a nondecreasing source the sum is at least its lower entry times cap. [lookup]
  pub lower_le_sum : (v : ℕ) → v ≤ (n - 1) * cap → T (lower cap v) * cap ≤ weighted cap T v
  lower_le_sum v h = sum_at_least cap T pos (T (lower cap v)) v (le_refl _) (ordered v h)

  -- Over a nondecreasing source the sum is at most its upper entry times cap. [lookup]
  pub sum_le_upper : (v : ℕ) → v ≤ (n - 1) * cap → weighted cap T v ≤ T (upper cap v) * cap
  sum_le_upper v h = sum_at_most cap T pos (T (upper cap v)) v (ordered v h) (le_refl _)

  -- from one entry to the next the weight moves to the larger
  within : (v w : ℕ) → w ≤ (n - 1) * cap → v / cap ≡ w / cap → v % cap ≤ w % cap → 0 < w % cap
      → weighted cap T v ≤ weighted cap T w
  unfolding weighted
  within v w h e kj p =
      let up : T (w / cap) ≤ T (w / cap + 1) = rw (ceil_off w cap p) at (ordered w h) in
      omega (
        arith,
        plain cap T v,
        plain cap T w,
        ap (λ (i : ℕ). T (i + 1) * (v % cap)) e,
        ap (λ (i : ℕ). T i * (cap - v % cap)) e,
        sum_mono cap (T (w / cap)) (T (w / cap + 1)) (v % cap) (w % cap) up kj (le_of_lt (mod-lt w pos)),
      )

  -- the sum never falls as the steps go on
  pub sum_never_falls : (v w : ℕ) → v ≤ w → w ≤ (n - 1) * cap → weighted cap T v ≤ weighted cap T w
  sum_never_falls v w vw h = ⊎_elim same apart (eq-or-lt_of_le (div_mono pos vw))
    where
      same : v / cap ≡ w / cap → weighted cap T v ≤ weighted cap T w
      same e =
          let s : v / cap * cap ≡ w / cap * cap = ap (λ (m : ℕ). m * cap) e in
          let kj : v % cap ≤ w % cap = omega (arith, div-add-mod' v cap, div-add-mod' w cap) in
          ⊎_elim
          (λ z. le_of_eq (ap (weighted cap T) (omega (arith, div-add-mod' v cap, div-add-mod' w cap))))
          (λ p. within v w h e kj p) (eq-zero-or-pos (w % cap))

      apart : v / cap < w / cap → weighted cap T v ≤ weighted cap T w
      apart l =
          le_trans (sum_le_upper v (le_trans vw h))
          (le_trans
          (mul-le-mul_right cap (R (upper cap v) (lower cap w) (ceil_le v cap l) (lower_lt cap n w pos some h)))
          (lower_le_sum w h))

  -- Over a nondecreasing source the sum never falls as the position rises. [lookup]
  pub sum_rises : (p q : ℕ) → p ≤ q → q ≤ cap → weighted cap T (steps n p) ≤ weighted cap T (steps n q)
  sum_rises p q pq h = sum_never_falls (steps n p) (steps n q) (steps_mono n pq) (steps_le n h)
