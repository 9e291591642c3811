-- How the call's tests lead to its promise, which names one answer and one later state of its buffer, for a refused
-- call too; and that the loop works out what is defined. Assumes nothing.
use mathlib.Core.Path.{◌≡◌, ◌∙◌, sym, ap}
use mathlib.Core.Bool.{true, false}
use mathlib.Core.List.{List}
use Prim.Native.Nat.{ℕ, ◌-◌}
use lib.ListN.{length}
use lib.Ieee.{Float, binary64, mul, div, of_bits}
use Rattle.std.specs.Prelude.{Result, Ok, Err}
use Rattle.table.specs.Sizes.{spanned}
use Rattle.table.specs.declared.Refusal.TheVariants.{OutsideRange}
use Rattle.table.specs.declared.Refusal.{Refusal}
use Rattle.table.proofs.Answers.{same_done}
use Rattle.ieee.specs.Range.{float}
use Rattle.ieee.proofs.Tests.{bits_one}
use Rattle.rounding.specs.Nearest.{narrow, NarrowPromise}
use Rattle.passthrough.specs.Passed.{passed, passed_through}
use Rattle.passthrough.specs.Promises.{PassthroughPromise}

-- the constant 1 as a program has it
pub passed_gives : (n i : ℕ) (r : Float)
    → NarrowPromise (mul binary64 (float i) (div binary64 (of_bits binary64 4607182418800017408) (float (n - 1)))) r
    → r ≡ passed n i
unfolding passed
passed_gives n i r p =
    p.value ∙ ap (λ (c : Float). narrow (mul binary64 (float i) (div binary64 c (float (n - 1))))) (bits_one binary64)

module _ (o : List Float) where
  -- For fewer than 2 entries or more than 65,536, refusing with 12 and leaving the buffer keeps the promise.
  -- [passthrough::passthrough_table_impl]
  pub passthrough_refused : spanned (length o) ≡ false → PassthroughPromise o (Err OutsideRange) o
  passthrough_refused f = record { number = simp f; after = simp f }

  -- For 2 to 65,536 entries the defined list keeps the promise. [passthrough::passthrough_table_impl]
  pub passthrough_granted : (p : List Float) → spanned (length o) ≡ true → p ≡ passed_through (length o)
      → PassthroughPromise o (Ok tt) p
  passthrough_granted p h e = record { number = simp h; after = simp h e }

pub passthrough_one : {o p q : List Float} {r s : Result (Unit {0}) Refusal} → PassthroughPromise o r p
    → PassthroughPromise o s q
    → (r ≡ s) × (p ≡ q)
passthrough_one {o} {p} {q} {r} {s} a b = (same_done r s (a.number ∙ sym b.number), a.after ∙ sym b.after)
