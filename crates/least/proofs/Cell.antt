-- One cell of a table, where entry c is below v and the next is not. The least input of v is worked out by two
-- quotients rounded up: how many steps past entry c bring the lookup to v, and how many positions make that many steps.
-- Assumes nothing.
use mathlib.Core.Path.{◌≡◌, ◌∙◌, refl, sym, ap}
use mathlib.Core.Logic.{⊎_elim, ◌↔◌}
use mathlib.Core.List.{List}
use Prim.Native.Nat.{ℕ, ◌+◌, ◌-◌, ◌*◌, ◌≤◌, ◌<◌}
use native.Mathlib.Nat.{le_trans, le_of_lt, add-mul, mul_comm, add-sub_of_le}
use native.Mathlib.Omega.{arith}
use lib.ListN.{length, get_or}
use Rattle.table.specs.Quotient.{div_ceil}
use Rattle.table.proofs.Choice.{below?}
use Rattle.table.proofs.Quotient.{ceil_le_iff, parted}
use Rattle.lookup.specs.Lookup.{looked_up}
use Rattle.lookup.proofs.LookupLaws.{lookup_reaches, passed_le_lookup, lookup_le_coming}
use Rattle.least.specs.Least.{least_of}
use Rattle.least.specs.Inside.{Searchable, Cell}
use Rattle.least.proofs.LeastLaws.{least_only}
use Rattle.least.proofs.Tables.{table_order, table_rises}

-- entries a and b, k of 65535 steps from a to b: weighed so, they reach v exactly if k times their distance covers the
-- way from a to v
weigh : (a b v k : ℕ) → a ≤ b → a ≤ v → k ≤ 65535
    → (v * 65535 ≤ b * k + a * (65535 - k)) ↔ ((v - a) * 65535 ≤ k * (b - a))
weigh a b v k ab av h =
    let whole = parted a h in
    let parts : b * k ≡ a * k + k * (b - a) = ap (λ (n : ℕ). n * k) (sym (add-sub_of_le ab)) ∙ add-mul a (b - a) k
    ∙ ap (λ (n : ℕ). a * k + n) (mul_comm (b - a) k) in
    ((λ l. omega arith), (λ l. omega arith))

-- how many of the 65535 steps from entry c to the next bring the lookup to v
abbrev pub cell_steps : List ℕ → ℕ → ℕ → ℕ
cell_steps t v c = div_ceil ((v - get_or t c 0) * 65535) (get_or t (c + 1) 0 - get_or t c 0)

-- worked out of entries that were read
pub steps_read : (t : List ℕ) (v c : ℕ) {before after w s : ℕ} → before ≡ get_or t c 0 → w ≡ v
    → after ≡ get_or t (c + 1) 0
    → s ≡ div_ceil ((w - before) * 65535) (after - before) → s ≡ cell_steps t v c
steps_read t v c b w a s = rw (s, b, w, a) refl

module _ {t : List ℕ} {top v c : ℕ} (s : Searchable t top) (cell : Cell t v c) where
  -- the lookup at q is at least v exactly if q is that many steps past entry c
  Reaches : ℕ → Type 0
  Reaches q = (v ≤ looked_up t q) ↔ (c * 65535 + cell_steps t v c ≤ q * (length t - 1))

  last_is : (q : ℕ) → q * (length t - 1) ≡ q * top
  last_is q =
      let last : length t - 1 ≡ top = omega arith in
      ap (λ (n : ℕ). q * n) last

  -- at most a whole cell is stepped through
  pub steps_small : cell_steps t v c ≤ 65535
  steps_small =
      (ceil_le_iff ((v - get_or t c 0) * 65535) (get_or t (c + 1) 0 - get_or t c 0) 65535 (omega arith)).1 (omega arith)

  -- before the cell the lookup is at most entry c,
  before : (q : ℕ) → q ≤ 65535 → q * (length t - 1) < c * 65535 → Reaches q
  unfolding Reaches
  before q h l =
      let p = s.passed in
      let m = lookup_le_coming t p.size (table_order p) q c h (omega arith) (le_of_lt l) in
      ((λ r. absurd (omega arith)), (λ r. absurd (omega arith)))

  -- in it the steps decide,
  within : (q : ℕ) → c * 65535 ≤ q * (length t - 1) → q * (length t - 1) < (c + 1) * 65535 → Reaches q
  unfolding Reaches
  within q g l =
      let k = q * (length t - 1) - c * 65535 in
      let h : k ≤ 65535 = omega arith in
      let r = lookup_reaches t q v c k (sym (add-sub_of_le g)) h in
      let w = weigh (get_or t c 0) (get_or t (c + 1) 0) v k (omega arith) (omega arith) h in
      let u = ceil_le_iff ((v - get_or t c 0) * 65535) (get_or t (c + 1) 0 - get_or t c 0) k (omega arith) in
      ((λ l. omega (arith, u.1 (w.0 (r.0 l)))), (λ l. r.1 (w.1 (u.0 (omega arith)))))

  -- and past it the lookup is at least the next entry
  past : (q : ℕ) → q ≤ 65535 → (c + 1) * 65535 ≤ q * (length t - 1) → Reaches q
  unfolding Reaches
  past q h l =
      let p = s.passed in
      let m = passed_le_lookup t p.size (table_order p) q (c + 1) h l in
      ((λ r. omega (arith, steps_small)), (λ r. le_trans cell.reached m))

  reaches : (q : ℕ) → q ≤ 65535 → Reaches q
  reaches q h =
      ⊎_elim (before q h) (λ g. ⊎_elim (within q g) (past q h) (below? (q * (length t - 1)) ((c + 1) * 65535)))
      (below? (q * (length t - 1)) (c * 65535))

  exact : (q : ℕ) → q ≤ 65535 → (v ≤ looked_up t q) ↔ (div_ceil (c * 65535 + cell_steps t v c) top ≤ q)
  unfolding Reaches
  exact q h =
      let r = reaches q h in
      let u = ceil_le_iff (c * 65535 + cell_steps t v c) top q (omega arith) in
      ((λ l. u.1 (omega (arith, r.0 l, last_is q))), (λ l. r.1 (omega (arith, u.0 l, last_is q))))

  pub cell_inside : div_ceil (c * 65535 + cell_steps t v c) top ≤ 65535
  cell_inside = (ceil_le_iff (c * 65535 + cell_steps t v c) top 65535 (omega arith)).1 (omega (arith, steps_small))

  -- so many positions make that many steps
  pub cell_least : least_of (looked_up t) v ≡ div_ceil (c * 65535 + cell_steps t v c) top
  cell_least =
      least_only (looked_up t) v (table_rises s.passed) (div_ceil (c * 65535 + cell_steps t v c) top)
      cell_inside exact
