-- The promise can be met, and names one answer; and how each way out of the routine keeps it. Assumes nothing.
use mathlib.Core.Path.{◌≡◌, ◌∙◌, refl, sym}
use mathlib.Core.Bool.{Bool, true, false}
use mathlib.Core.List.{List}
use Prim.Native.Nat.{ℕ, ◌≤◌, ◌<◌}
use native.Mathlib.Omega.{arith}
use borrow.Author.Tests.{lt-ltb, le-ltb, le-leb, lt-leb}
use lib.ListN.{length}
use lib.Dec.{leb}
use Rattle.std.specs.Prelude.{Result, Ok, Err}
use Rattle.table.specs.Choice.{pick}
use Rattle.table.specs.Sizes.{not_above}
use Rattle.table.specs.declared.Refusal.TheVariants.{TableLength}
use Rattle.table.specs.declared.Refusal.{Refusal}
use Rattle.table.proofs.Answers.{same_answer}
use Rattle.degeneration.specs.Runs.{leading, trailing, degenerated}
use Rattle.degeneration.specs.Promises.{yes_of_degenerated, DegeneratedPromise}

-- a verdict is told by its yes or no
told : (a b : Bool) → yes_of_degenerated (Ok a) ≡ yes_of_degenerated (Ok b) → a ≡ b
told true true e = refl
told true false e = absurd (omega arith)
told false true e = absurd (omega arith)
told false false e = refl

pub degenerated_one : (t : List ℕ) (r s : Result Bool Refusal) → DegeneratedPromise t r → DegeneratedPromise t s → r ≡ s
degenerated_one t r s p q = same_answer yes_of_degenerated told r s (p.number ∙ sym q.number) (p.yes ∙ sym q.yes)

-- the test at each way out of it: too few entries, a long run at the first, and else the run at the last
module _ (t : List ℕ) where
  pub still_short : length t < 2 → false ≡ degenerated t
  unfolding degenerated
  still_short h = simp (lt-ltb (length t) 2 h)

  module _ (two : 2 ≤ length t) (a : ℕ) (f : a ≡ leading t) where
    pub still_first : 20 ≤ a → true ≡ degenerated t
    unfolding degenerated
    still_first l = simp (le-ltb (length t) 2 two, ← f, le-leb 20 a l)

    pub still_last : a < 20 → (b : ℕ) → b ≡ trailing t → leb 20 b ≡ degenerated t
    unfolding degenerated
    still_last l b g = simp (le-ltb (length t) 2 two, ← f, lt-leb 20 a l, g)

module _ (t : List ℕ) where
  pub degenerated_long : not_above (length t) ≡ false → DegeneratedPromise t (Err TableLength)
  degenerated_long e = record { number = simp e; yes = simp e }

  module _ (e : not_above (length t) ≡ true) where
    pub degenerated_judged : (b : Bool) → degenerated t ≡ b
        → DegeneratedPromise t (pick b (Ok true) (Ok false))
    degenerated_judged true k = record { number = simp e; yes = simp (e, k) }
    degenerated_judged false k = record { number = simp e; yes = simp (e, k) }

  -- the answer that the promise names
  unfoldable pub degenerated_answer : Result Bool Refusal
  degenerated_answer =
      pick (not_above (length t)) (pick (degenerated t) (Ok true) (Ok false)) (Err
      TableLength)

  -- The promise can be kept. [degeneration::is_curve_degenerated]
  pub degenerated_answered : DegeneratedPromise t degenerated_answer
  unfolding degenerated_answer
  degenerated_answered = go (not_above (length t)) refl
    where
      go : (f : Bool) → not_above (length t) ≡ f → DegeneratedPromise t
          (pick f (pick (degenerated t) (Ok true) (Ok false)) (Err TableLength))
      go false e = degenerated_long e
      go true e = degenerated_judged e (degenerated t) refl
