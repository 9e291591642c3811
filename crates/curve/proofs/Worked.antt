-- Worked examples: the start of three entries, and each refusal. Assumes nothing.
use mathlib.Core.Path.{◌≡◌, refl}
use mathlib.Core.List.{List, [], ◌∷◌}
use Prim.Native.Nat.{ℕ}
use lib.ListN.{length}
use Rattle.std.specs.Prelude.{Ok, Err}
use Rattle.table.specs.Sizes.{within}
use Rattle.table.specs.Fill.{tabulated}
use Rattle.table.specs.declared.Refusal.TheVariants.{TableLength, NotNondecreasing}
use Rattle.curve.specs.Ramp.{ramp, ramp_of}
use Rattle.curve.specs.Promises.{sitting_on, StartPromise, AcceptPromise}

start_of_three : ramp_of 3 ≡ 0 ∷ 32768 ∷ 65535 ∷ []
unfolding ramp tabulated
start_of_three = refl

start_of_one : (x : ℕ) → StartPromise (sitting_on (x ∷ [])) (Err TableLength) (sitting_on (x ∷ []))
unfolding within
start_of_one x = record { number = refl; table = refl }

start_of_65537 : (t : List ℕ) → length t ≡ 65537 → StartPromise (sitting_on t) (Err TableLength) (sitting_on t)
unfolding within
start_of_65537 t e = record { number = simp e; table = simp e }

accept_level : AcceptPromise (sitting_on (5 ∷ 5 ∷ 9 ∷ [])) (Ok tt) (sitting_on (5 ∷ 5 ∷ 9 ∷ []))
unfolding within
accept_level = record { number = refl; table = refl }

accept_empty : AcceptPromise (sitting_on []) (Err TableLength) (sitting_on [])
unfolding within
accept_empty = record { number = refl; table = refl }

accept_falling : AcceptPromise (sitting_on (9 ∷ 5 ∷ [])) (Err NotNondecreasing) (sitting_on (9 ∷ 5 ∷ []))
unfolding within
accept_falling = record { number = refl; table = refl }
