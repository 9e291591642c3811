-- Worked examples: values on either side of an exponent of 1 and at both ends of its range, a table, and each refusal.
-- Assumes nothing.
use mathlib.Core.Path.{refl}
use mathlib.Core.List.{[], ◌∷◌}
use Prim.Native.Nat.{ℕ}
use Rattle.std.specs.Prelude.{Ok, Err}
use Rattle.table.specs.Sizes.{within}
use Rattle.table.specs.Fill.{tabulated}
use Rattle.table.specs.declared.Drive.{Drive}
use Rattle.table.specs.declared.Refusal.{Refusal}
use Rattle.table.specs.declared.Refusal.TheVariants.{TableLength, OutputLength, Exponent}
use Rattle.curve.specs.Ramp.{ramp}
use Rattle.power.specs.Root.{or_one_more, root_below, root}
use Rattle.power.specs.Power.{factor, whole_steps, root_steps, power}
use Rattle.power_curve.specs.Curve.{added, value_at, exponent_of}
use Rattle.power_curve.specs.Promises.{PowerPromise, PowerTablePromise}

abbrev at : ℕ → Drive
at x = record { 0 = x }

abbrev Answers : ℕ → ℕ → ℕ → Type 0
Answers x p n = PowerPromise (at x) p (Ok (record { 0 = n }))

-- a gamma tag's 563, which is 2.2
tag_of_2_2 : Answers 30000 (exponent_of 563) 11753
unfolding within value_at power root_steps whole_steps factor root root_below or_one_more added
tag_of_2_2 = record { number = refl; value = refl }

smallest : Answers 1 1 65524
unfolding within value_at power root_steps whole_steps factor root root_below or_one_more added
smallest = record { number = refl; value = refl }

square_root : Answers 1000 32768 8096
unfolding within value_at power root_steps whole_steps factor root root_below or_one_more added
square_root = record { number = refl; value = refl }

largest : Answers 65534 262144 65531
unfolding within value_at power root_steps whole_steps factor root root_below or_one_more added
largest = record { number = refl; value = refl }

no_exponent : PowerPromise (at 1000) 0 (Err Exponent)
unfolding within
no_exponent = record { number = refl; value = refl }

above_four : PowerPromise (at 65535) 262145 (Err Exponent)
unfolding within
above_four = record { number = refl; value = refl }

squares : PowerTablePromise (7 ∷ 7 ∷ 7 ∷ []) 3 131072 (Ok tt) (0 ∷ 16384 ∷ 65535 ∷ [])
unfolding within tabulated ramp value_at power root_steps whole_steps factor root root_below or_one_more added
squares = record { number = refl; after = refl }

-- 1 before 18, 18 before 6
abbrev Refuses : ℕ → ℕ → Refusal → Type 0
Refuses n p why = PowerTablePromise (7 ∷ 7 ∷ []) n p (Err why) (7 ∷ 7 ∷ [])

one_entry : Refuses 1 0 TableLength
unfolding within
one_entry = record { number = refl; after = refl }

too_long : Refuses 65537 262145 TableLength
unfolding within
too_long = record { number = refl; after = refl }

exponent_first : Refuses 3 262145 Exponent
unfolding within
exponent_first = record { number = refl; after = refl }

another_length : Refuses 3 131072 OutputLength
unfolding within
another_length = record { number = refl; after = refl }
