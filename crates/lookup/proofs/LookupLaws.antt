-- The laws of the 16-bit lookup. On any source of entries: it lies between its two entries, is exact on an entry, and
-- depends on those two alone. In a table it reaches a value exactly if the weighed sum of the two is at least 65535
-- times the value. On a nondecreasing table it never falls as the position rises, and all that demand 3 asks of it
-- holds (`lookup_demand`). Assumes nothing.
use mathlib.Core.Path.{◌≡◌, ◌∙◌, ap, refl, sym, subst}
use mathlib.Core.Logic.{◌↔◌}
use mathlib.Core.Bool.{true}
use mathlib.Core.List.{List}
use Prim.Native.Nat.{ℕ, ◌+◌, ◌-◌, ◌*◌, ◌/◌, ◌≤◌, ◌<◌, min, max}
use native.Mathlib.Nat.{le_trans, le_of_suc-le-suc, mul_comm, mul-div_cancel, mul-mod_left, div-le_of_le-mul}
use native.Mathlib.Nat.{le-div_iff_mul-le, min-le_left, min-le_right, le-max_left, le-max_right}
use native.Mathlib.Omega.{arith}
use lib.ListN.{length, get_or}
use lib.Dec.{lit<}
use Rattle.table.specs.Sizes.{sized}
use Rattle.table.specs.Order.{Nondecreasing, SixteenBits, last_entry}
use Rattle.table.specs.Answers.{number_of_answer, value_of_looked}
use Rattle.table.proofs.Sizes.{within_low}
use Rattle.table.proofs.Quotient.{ceil_le_iff, div_mono}
use Rattle.lookup.specs.Demand.{LookupIn, position_of, sample_of, LookupObeys, LookupDemand}
use Rattle.lookup.specs.Lookup.{lower, upper, weighted, steps, lookup16, entries_of, looked_up}
use Rattle.lookup.proofs.Steps.{steps_le, lower_lt}
use Rattle.lookup.proofs.Sum.{Rises, sum_same, sum_on_entry, sum_steps, sum_at_most, sum_at_least, sum_first}
use Rattle.lookup.proofs.Sum.{sum_last, lower_le_sum, sum_le_upper, sum_rises}
use Rattle.lookup.proofs.Promises.{lookup_some, lookup_granted}

cap>0 : 0 < 65535
cap>0 = lit< tt

-- Two tables that agree in the two bracketing entries answer the same. [lookup::lut_interp_linear16]
pub lookup_same : (T U : ℕ → ℕ) (n p : ℕ) → T (lower 65535 (steps n p)) ≡ U (lower 65535 (steps n p))
    → T (upper 65535 (steps n p)) ≡ U (upper 65535 (steps n p)) → lookup16 T n p ≡ lookup16 U n p
unfolding lookup16
lookup_same T U n p l u = ap (λ (s : ℕ). s / 65535) (sum_same 65535 T U (steps n p) l u)

module _ (T : ℕ → ℕ) (n : ℕ) where
  -- between the smaller and the larger of the two entries, whatever their order
  pub lookup_at_most : (p m : ℕ) → T (lower 65535 (steps n p)) ≤ m → T (upper 65535 (steps n p)) ≤ m
      → lookup16 T n p ≤ m
  unfolding lookup16
  lookup_at_most p m l u =
      div-le_of_le-mul 65535 (omega (arith, sum_at_most 65535 T cap>0 m (steps n p) l u, mul_comm m 65535))

  pub lookup_at_least : (p m : ℕ) → m ≤ T (lower 65535 (steps n p)) → m ≤ T (upper 65535 (steps n p))
      → m ≤ lookup16 T n p
  unfolding lookup16
  lookup_at_least p m l u = (le-div_iff_mul-le cap>0).1 (sum_at_least 65535 T cap>0 m (steps n p) l u)

  -- In any table the lookup is at least the smaller of its two entries. [lookup::lut_interp_linear16]
  pub smaller_le_lookup : (p : ℕ) → min (T (lower 65535 (steps n p))) (T (upper 65535 (steps n p))) ≤ lookup16 T n p
  smaller_le_lookup p = lookup_at_least p _ (min-le_left _ _) (min-le_right _ _)

  -- In any table the lookup is at most the larger of its two entries. [lookup::lut_interp_linear16]
  pub lookup_le_larger : (p : ℕ) → lookup16 T n p ≤ max (T (lower 65535 (steps n p))) (T (upper 65535 (steps n p)))
  lookup_le_larger p = lookup_at_most p _ (le-max_left _ _) (le-max_right _ _)

  -- At position 0 the lookup is the first entry. [lookup::lut_interp_linear16]
  pub lookup_first : lookup16 T n 0 ≡ T 0
  unfolding lookup16
  lookup_first = ap (λ (s : ℕ). s / 65535) (sum_first 65535 T cap>0 n) ∙ mul-div_cancel (T 0) cap>0

  -- At position 65535 the lookup is the last entry. [lookup::lut_interp_linear16]
  pub lookup_last : lookup16 T n 65535 ≡ T (n - 1)
  unfolding lookup16
  lookup_last = ap (λ (s : ℕ). s / 65535) (sum_last 65535 T cap>0 n) ∙ mul-div_cancel (T (n - 1)) cap>0

-- The lookup is at least m exactly if its two entries, weighed, are. Passed are c entries and k of 65535 steps towards
-- the next, up to that one itself. [lookup::lut_interp_linear16]
pub lookup_reaches : (t : List ℕ) (p m c k : ℕ) → p * (length t - 1) ≡ c * 65535 + k → k ≤ 65535
    → (m ≤ looked_up t p) ↔ (m * 65535 ≤ get_or t (c + 1) 0 * k + get_or t c 0 * (65535 - k))
unfolding lookup16
lookup_reaches t p m c k e h =
    let s : weighted 65535 (entries_of t) (steps (length t) p) ≡ get_or t (c + 1) 0 * k + get_or t c 0 * (65535 - k) =
    ap (weighted 65535 (entries_of t)) e ∙ sum_steps 65535 (entries_of t) cap>0 c k h in (
      (λ r. subst (λ (x : ℕ). m * 65535 ≤ x) s ((le-div_iff_mul-le cap>0).0 r)),
      (λ r. (le-div_iff_mul-le cap>0).1 (subst (λ (x : ℕ). m * 65535 ≤ x) (sym s) r)),
    )

-- from the sum at p times the last index
pub looked_up_read : (t : List ℕ) (p top : ℕ) {x s : ℕ} → length t ≡ top + 1 → x ≡ p
    → s ≡ weighted 65535 (entries_of t) (x * top) → s / 65535 ≡ looked_up t p
unfolding lookup16
looked_up_read t p top e x s =
    let last : top ≡ length t - 1 = omega arith in
    rw (s, x, last) refl

-- of 65,536 entries the lookup at p is entry p
pub lookup_full : (T : ℕ → ℕ) (p : ℕ) → lookup16 T 65536 p ≡ T p
unfolding lookup16
lookup_full T p =
    ap (λ (s : ℕ). s / 65535)
    (sum_on_entry 65535 T cap>0 (p * 65535) (mul-mod_left p 65535)
    ∙ ap (λ (i : ℕ). T i * 65535) (mul-div_cancel p cap>0))
    ∙ mul-div_cancel (T p) cap>0

-- Of 65,536 entries the lookup at p is entry p. So a row in such a table takes one load each.
-- [lookup::lut_interp_linear16, rows::lut_interp_linear16_row]
pub looked_up_full : (t : List ℕ) → length t ≡ 65536 → (p : ℕ) → looked_up t p ≡ get_or t p 0
looked_up_full t e p = ap (λ (n : ℕ). lookup16 (entries_of t) n p) e ∙ lookup_full (entries_of t) p

module _ (T : ℕ → ℕ) (n : ℕ) (some : 0 < n) (R : Rises n T) where
  -- In a nondecreasing table the lookup is at least its lower entry. [lookup::lut_interp_linear16]
  pub lower_le_lookup : (p : ℕ) → p ≤ 65535 → T (lower 65535 (steps n p)) ≤ lookup16 T n p
  unfolding lookup16
  lower_le_lookup p h = (le-div_iff_mul-le cap>0).1 (lower_le_sum 65535 n T cap>0 some R (steps n p) (steps_le n h))

  -- In a nondecreasing table the lookup is at most its upper entry. [lookup::lut_interp_linear16]
  pub lookup_le_upper : (p : ℕ) → p ≤ 65535 → lookup16 T n p ≤ T (upper 65535 (steps n p))
  unfolding lookup16
  lookup_le_upper p h =
      div-le_of_le-mul 65535
      (omega (
        arith,
        sum_le_upper 65535 n T cap>0 some R (steps n p) (steps_le n h),
        mul_comm (T (upper 65535 (steps n p))) 65535,
      ))

  -- In a nondecreasing table the lookup never falls as the position rises. [lookup::lut_interp_linear16]
  pub lookup_never_falls : (p q : ℕ) → p ≤ q → q ≤ 65535 → lookup16 T n p ≤ lookup16 T n q
  unfolding lookup16
  lookup_never_falls p q pq h = div_mono cap>0 (sum_rises 65535 n T cap>0 some R p q pq h)

-- exact at both ends of a table
pub looked_up_first : (t : List ℕ) → looked_up t 0 ≡ get_or t 0 0
looked_up_first t = lookup_first (entries_of t) (length t)

pub looked_up_last : (t : List ℕ) → looked_up t 65535 ≡ last_entry t
looked_up_last t = lookup_last (entries_of t) (length t)

-- In a table of 16-bit entries the answer is 16 bits wide. [lookup::lut_interp_linear16]
pub looked_up_fits : (t : List ℕ) → SixteenBits t → (p : ℕ) → looked_up t p ≤ 65535
looked_up_fits t b p = lookup_at_most (entries_of t) (length t) p 65535 (le_of_suc-le-suc (b _)) (le_of_suc-le-suc
    (b _))

-- an answer that keeps the promise in a table of 1 to 65,536 entries holds its lookup
pub sample_is : {t : List ℕ} → sized (length t) ≡ true → (l : LookupIn t) → sample_of l ≡ looked_up t (position_of l)
sample_is size l = ap value_of_looked (lookup_granted size l.kept)

-- What holds of every table that demand 3 speaks of, position by position.
module _ (t : List ℕ) (size : sized (length t) ≡ true) (R : Nondecreasing t) where
  some : 0 < length t
  some = within_low 1 65536 (length t) size

  pub looked_up_rises : (p q : ℕ) → p ≤ q → q ≤ 65535 → looked_up t p ≤ looked_up t q
  looked_up_rises = lookup_never_falls (entries_of t) (length t) some R

  -- In a nondecreasing table the lookup is at least entry c once it has passed that. [lookup::lut_interp_linear16]
  pub passed_le_lookup : (p c : ℕ) → p ≤ 65535 → c * 65535 ≤ p * (length t - 1) → get_or t c 0 ≤ looked_up t p
  passed_le_lookup p c h l =
      let v = steps (length t) p in
      le_trans
      (R c (lower 65535 v) ((le-div_iff_mul-le cap>0).1 l)
      (lower_lt 65535 (length t) v cap>0 some (steps_le (length t) h)))
      (lower_le_lookup (entries_of t) (length t) some R p h)

  -- In a nondecreasing table the lookup is at most entry c as long as it is not past that.
  -- [lookup::lut_interp_linear16]
  pub lookup_le_coming : (p c : ℕ) → p ≤ 65535 → c < length t → p * (length t - 1) ≤ c * 65535
      → looked_up t p ≤ get_or t c 0
  lookup_le_coming p c h inside l =
      let v = steps (length t) p in
      le_trans (lookup_le_upper (entries_of t) (length t) some R p h)
      (R (upper 65535 v) c ((ceil_le_iff v 65535 c cap>0).1 l) inside)

  obeys : LookupObeys t
  obeys = record {
    everywhere =
        λ p h. record {
          lookup = record { position = record { 0 = p }; answer = _; bits = h; kept = lookup_some t _ };
          there = refl;
        };
    granted = λ l. ap number_of_answer (lookup_granted size l.kept);
    never_falls =
        λ l m le.
        omega (arith, sample_is size l, sample_is size m, looked_up_rises (position_of l) (position_of m) le m.bits);
    not_below =
        λ l. omega (arith, sample_is size l, lower_le_lookup (entries_of t) (length t) some R (position_of l) l.bits);
    not_above =
        λ l. omega (arith, sample_is size l, lookup_le_upper (entries_of t) (length t) some R (position_of l) l.bits);
    first = λ l e. sample_is size l ∙ ap (looked_up t) e ∙ looked_up_first t;
    last = λ l e. sample_is size l ∙ ap (looked_up t) e ∙ looked_up_last t;
  }

-- What demand 3 asks of the lookup holds. [lookup::lut_interp_linear16]
pub lookup_demand : LookupDemand
lookup_demand = obeys
