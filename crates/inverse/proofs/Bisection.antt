-- The search as a loop. r - l probes are always enough, so each turn is an equation that does not count them; every
-- probe is a position; and what a hit and a miss tell. Assumes nothing.
use mathlib.Core.Path.{◌≡◌, ◌∙◌, refl, sym, subst}
use mathlib.Core.Logic.{⊎_elim}
use mathlib.Core.List.{List}
use Prim.Native.Nat.{ℕ, zero, suc, ◌+◌, ◌-◌, ◌/◌, ◌≤◌, ◌<◌}
use native.Mathlib.Nat.{le_refl, eq-zero-or-pos}
use native.Mathlib.Omega.{arith}
use borrow.Author.Tests.{lt-ltb, le-ltb, eq-eqb, ne_eqb}
use Rattle.table.proofs.Choice.{below?}
use Rattle.lookup.specs.Lookup.{looked_up}
use Rattle.std.specs.Prelude.{Result, Ok, Err}
use Rattle.inverse.specs.Inside.{Ready}
use Rattle.inverse.specs.Inverse.{search, searched}

-- the x that is probed between l and r
abbrev pub middle : ℕ → ℕ → ℕ
middle l r = (l + r) / 2

-- where the search stands: over, or at a probe that is a hit, or with the value to its left or to its right
data Turn (t : List ℕ) (v l r : ℕ) : Type 0 where
  over : r ≤ l → Turn t v l r
  hit : l < r → looked_up t (middle l r - 1) ≡ v → Turn t v l r
  left : l < r → v < looked_up t (middle l r - 1) → Turn t v l r
  right : l < r → looked_up t (middle l r - 1) < v → Turn t v l r

turn : (t : List ℕ) (v l r : ℕ) → Turn t v l r
turn t v l r = ⊎_elim on (λ h. over h) (below? l r)
  where
    on : l < r → Turn t v l r
    on h =
        ⊎_elim (λ b. right h b)
        (λ b. ⊎_elim (λ a. left h a) (λ a. hit h (omega arith)) (below? v (looked_up t (middle l r - 1))))
        (below? (looked_up t (middle l r - 1)) v)

-- what the search finds is worth something: a hit is a position that looks up as the value, and an x that was probed
-- last is from 1 to 65535
abbrev pub Sound : List ℕ → ℕ → Result ℕ ℕ → Type 0
Sound t v (Ok p) = (looked_up t p ≡ v) × (p ≤ 65534)
Sound t v (Err x) = (1 ≤ x) × (x ≤ 65535)

module _ (t : List ℕ) (v : ℕ) where
  -- one step, for whichever fuel
  search_over : (fuel l r last : ℕ) → r ≤ l → search fuel t v l r last ≡ Err last
  unfolding search
  search_over zero l r last h = refl
  search_over (suc fuel) l r last h = simp (le-ltb l r h)

  search_hit : (fuel l r last : ℕ) → l < r → looked_up t (middle l r - 1) ≡ v
      → search (suc fuel) t v l r last ≡ Ok (middle l r - 1)
  unfolding search
  search_hit fuel l r last h e = simp (lt-ltb l r h, eq-eqb (looked_up t (middle l r - 1)) v e)

  search_above : (fuel l r last : ℕ) → l < r → v < looked_up t (middle l r - 1)
      → search (suc fuel) t v l r last ≡ search fuel t v l (middle l r - 1) (middle l r)
  unfolding search
  search_above fuel l r last h k =
      simp (
        lt-ltb l r h,
        ne_eqb (looked_up t (middle l r - 1)) v (omega arith),
        lt-ltb v (looked_up t (middle l r - 1)) k,
      )

  search_below : (fuel l r last : ℕ) → l < r → looked_up t (middle l r - 1) < v
      → search (suc fuel) t v l r last ≡ search fuel t v (middle l r + 1) r (middle l r)
  unfolding search
  search_below fuel l r last h k =
      let le : looked_up t (middle l r - 1) ≤ v = omega arith in
      simp (
        lt-ltb l r h,
        ne_eqb (looked_up t (middle l r - 1)) v (omega arith),
        le-ltb v (looked_up t (middle l r - 1)) le,
      )

  -- The bound on the probes is never met: with r - l of them or more the search comes to the same.
  -- [inverse::lut_inverse_interp16]
  pub fuel_enough : (f g l r last : ℕ) → r - l ≤ f → r - l ≤ g → search f t v l r last ≡ search g t v l r last
  fuel_enough zero g l r last F G = search_over zero l r last (omega arith) ∙ sym (search_over g l r last (omega arith))
  fuel_enough (suc f) zero l r last F G =
      search_over (suc f) l r last (omega arith) ∙ sym (search_over zero l r last (omega arith))
  fuel_enough (suc f) (suc g) l r last F G = elim (turn t v l r) [
    | over h ↦ search_over (suc f) l r last h ∙ sym (search_over (suc g) l r last h)
    | hit h e ↦ search_hit f l r last h e ∙ sym (search_hit g l r last h e)
    | left h a ↦
        search_above f l r last h a
        ∙ fuel_enough f g l (middle l r - 1) (middle l r) (omega arith) (omega arith)
        ∙ sym (search_above g l r last h a)
    | right h b ↦
        search_below f l r last h b
        ∙ fuel_enough f g (middle l r + 1) r (middle l r) (omega arith) (omega arith)
        ∙ sym (search_below g l r last h b)
  ]

  -- ---- the turns of the loop, with as many probes as are left
  abbrev pub from : ℕ → ℕ → ℕ → Result ℕ ℕ
  from l r last = search (r - l) t v l r last

  pub from_start : (l r : ℕ) → from l r 0 ≡ searched t v l r
  unfolding searched
  from_start l r = refl

  module _ (l r last : ℕ) where
    pub from_over : r ≤ l → from l r last ≡ Err last
    from_over h = search_over (r - l) l r last h

    one_more : from l r last ≡ search (suc (r - l)) t v l r last
    one_more = fuel_enough (r - l) (suc (r - l)) l r last (le_refl (r - l)) (omega arith)

    pub from_hit : l < r → looked_up t (middle l r - 1) ≡ v → from l r last ≡ Ok (middle l r - 1)
    from_hit h e = one_more ∙ search_hit (r - l) l r last h e

    pub from_left : l < r → v < looked_up t (middle l r - 1) → from l r last ≡ from l (middle l r - 1) (middle l r)
    from_left h a =
        one_more
        ∙ search_above (r - l) l r last h a
        ∙ fuel_enough (r - l) (middle l r - 1 - l) l (middle l r - 1) (middle l r) (omega arith)
        (le_refl (middle l r - 1 - l))

    pub from_right : l < r → looked_up t (middle l r - 1) < v → from l r last ≡ from (middle l r + 1) r (middle l r)
    from_right h b =
        one_more
        ∙ search_below (r - l) l r last h b
        ∙ fuel_enough (r - l) (r - (middle l r + 1)) (middle l r + 1) r (middle l r) (omega arith)
        (le_refl (r - (middle l r + 1)))

  -- ---- every x that is probed is from 1 to 65535
  pub probe_low : (l r : ℕ) → Ready t v l r → l ≤ r → 1 ≤ middle l r
  probe_low l r s h = ⊎_elim (λ (e : l ≡ 0). omega (arith, s.apart e)) (λ (p : 0 < l). omega arith) (eq-zero-or-pos l)

  pub probe_high : (l r : ℕ) → Ready t v l r → l < r → middle l r ≤ 65535
  probe_high l r s h = omega (arith, s.high)

  -- and it stays so on either side of x
  pub ready_left : (l r : ℕ) → Ready t v l r → l < r → v < looked_up t (middle l r - 1) → Ready t v l (middle l r - 1)
  ready_left l r s h a = record {
    high = omega (arith, probe_high l r s h);
    apart =
        λ (e : l ≡ 0). ⊎_elim (λ (k : middle l r - 1 < 2).
        absurd (omega (arith, s.under e (middle l r - 1) k))) (λ k. k) (below? (middle l r - 1) 2);
    under = s.under;
  }

  pub ready_right : (l r : ℕ) → Ready t v l r → l < r → Ready t v (middle l r + 1) r
  ready_right l r s h = record {
    high = s.high;
    apart = λ (e : middle l r + 1 ≡ 0). absurd (omega arith);
    under = λ (e : middle l r + 1 ≡ 0). absurd (omega arith);
  }

  -- ---- what comes out, k being no less than the probes that are left
  from_sound : (k l r last : ℕ) → r - l ≤ k → Ready t v l r → (r ≤ l → (1 ≤ last) × (last ≤ 65535))
      → Sound t v (from l r last)
  from_sound zero l r last n s w = subst (Sound t v) (sym (from_over l r last (omega arith))) (w (omega arith))
  from_sound (suc k) l r last n s w = elim (turn t v l r) [
    | over h ↦ subst (Sound t v) (sym (from_over l r last h)) (w h)
    | hit h e ↦ subst (Sound t v) (sym (from_hit l r last h e)) (e, omega (arith, probe_high l r s h))
    | left h a ↦
        subst (Sound t v) (sym (from_left l r last h a))
        (from_sound k l (middle l r - 1) (middle l r) (omega arith) (ready_left l r s h a)
        (λ _. (probe_low l r s (omega arith), probe_high l r s h)))
    | right h b ↦
        subst (Sound t v) (sym (from_right l r last h b))
        (from_sound k (middle l r + 1) r (middle l r) (omega arith) (ready_right l r s h)
        (λ _. (probe_low l r s (omega arith), probe_high l r s h)))
  ]

  pub searched_sound : (l r : ℕ) → Ready t v l r → l < r → Sound t v (searched t v l r)
  searched_sound l r s h =
      subst (Sound t v) (from_start l r) (from_sound (r - l) l r 0 (le_refl (r - l)) s (λ k. absurd (omega arith)))

  -- a hit needs a probe
  pub hit_apart : (l r p : ℕ) → searched t v l r ≡ Ok p → l < r
  hit_apart l r p e = ⊎_elim (λ h. h) over (below? l r)
    where
      over : r ≤ l → l < r
      over h =
          let o : ◌≡◌ {A = Result ℕ ℕ} (Err 0) (Ok p) = sym (from_over l r 0 h) ∙ from_start l r ∙ e in
          let z : ◌≡◌ {A = ℕ} 0 1 = cc in
          absurd (omega arith)
