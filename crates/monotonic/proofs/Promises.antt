-- The promise can be met, and names one answer; and how each way out of the routine keeps it. Assumes nothing.
use mathlib.Core.Path.{◌≡◌, ◌∙◌, refl, sym, ap}
use mathlib.Core.Bool.{Bool, true, false}
use mathlib.Core.List.{List}
use Prim.Native.Nat.{ℕ}
use native.Mathlib.Omega.{arith}
use lib.ListN.{length}
use Rattle.std.specs.Prelude.{Result, Ok, Err}
use Rattle.table.specs.Choice.{pick}
use Rattle.table.specs.Sizes.{not_above}
use Rattle.table.specs.Answers.{number_of_answer}
use Rattle.table.specs.declared.Refusal.TheVariants.{TableLength}
use Rattle.table.specs.declared.Refusal.{Refusal}
use Rattle.table.proofs.Answers.{same_answer}
use Rattle.monotonic.specs.Steps.{violations, few_enough, monotonic}
use Rattle.monotonic.specs.Promises.{yes_of_monotonic, violations_of_monotonic, MonotonicPromise}
use Rattle.monotonic.specs.declared.Direction.{Direction}
use Rattle.monotonic.specs.declared.Monotonic.{Monotonic}

-- a verdict is told by its values
abbrev values : Result Monotonic Refusal → ℕ × ℕ
values r = (yes_of_monotonic r, violations_of_monotonic r)

told : (a b : Monotonic) → values (Ok a) ≡ values (Ok b) → a ≡ b
told (Monotonic.Yes v) (Monotonic.Yes w) e = ap (λ (p : ℕ × ℕ). Monotonic.Yes p.1) e
told (Monotonic.Yes v) (Monotonic.No w) e =
    let n : ◌≡◌ {A = ℕ} 1 0 = ap (λ (p : ℕ × ℕ). p.0) e in absurd (omega arith)
told (Monotonic.No v) (Monotonic.Yes w) e =
    let n : ◌≡◌ {A = ℕ} 0 1 = ap (λ (p : ℕ × ℕ). p.0) e in absurd (omega arith)
told (Monotonic.No v) (Monotonic.No w) e = ap (λ (p : ℕ × ℕ). Monotonic.No p.1) e

-- so an answer is known by its number and them
same_monotonic : (r s : Result Monotonic Refusal) → number_of_answer r ≡ number_of_answer s
    → yes_of_monotonic r ≡ yes_of_monotonic s
    → violations_of_monotonic r ≡ violations_of_monotonic s → r ≡ s
same_monotonic r s n y e =
    let v : values r ≡ values s = cc (y, e) in same_answer values told r s n v

pub monotonic_one : (t : List ℕ) (d : Direction) (r s : Result Monotonic Refusal) → MonotonicPromise t d r
    → MonotonicPromise t d s → r ≡ s
monotonic_one t d r s p q =
    same_monotonic r s (p.number ∙ sym q.number) (p.yes ∙ sym q.yes) (p.count ∙ sym q.count)

module _ (t : List ℕ) (d : Direction) where
  pub monotonic_long : not_above (length t) ≡ false → MonotonicPromise t d (Err TableLength)
  monotonic_long e = record { number = simp e; yes = simp e; count = simp e }

  module _ (e : not_above (length t) ≡ true) (v : ℕ) (c : v ≡ violations d t) where
    pub monotonic_judged : (b : Bool) → few_enough (length t) v ≡ b
        → MonotonicPromise t d (pick b (Ok (Monotonic.Yes v)) (Ok (Monotonic.No v)))
    monotonic_judged true f = record { number = simp e; yes = simp (e, ← c, f); count = simp (e, c) }
    monotonic_judged false f = record { number = simp e; yes = simp (e, ← c, f); count = simp (e, c) }

  -- the answer that the promise names
  unfoldable pub monotonic_answer : Result Monotonic Refusal
  monotonic_answer =
      pick (not_above (length t))
      (pick (monotonic d t) (Ok (Monotonic.Yes (violations d t))) (Ok (Monotonic.No (violations d t))))
      (Err TableLength)

  -- The promise can be kept. [monotonic::is_curve_monotonic]
  pub monotonic_answered : MonotonicPromise t d monotonic_answer
  unfolding monotonic_answer
  monotonic_answered = go (not_above (length t)) refl
    where
      go : (f : Bool) → not_above (length t) ≡ f → MonotonicPromise t d (pick f (pick (monotonic d t)
          (Ok (Monotonic.Yes (violations d t))) (Ok (Monotonic.No (violations d t)))) (Err TableLength))
      go false e = monotonic_long e
      go true e = monotonic_judged e (violations d t) refl (monotonic d t) refl
