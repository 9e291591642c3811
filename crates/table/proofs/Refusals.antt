-- The refusals' numbers tell the refusals apart, and a verdict's number tells the verdict. Assumes nothing.
use mathlib.Core.Path.{◌≡◌, ◌∙◌, refl, sym, ap}
use mathlib.Core.Bool.{Bool, true, false}
use mathlib.Core.List.{List, [], ◌∷◌}
use Prim.Native.Nat.{ℕ, ◌-◌, ◌<◌}
use native.Mathlib.Omega.{arith}
use lib.ListN.{get_or}
use lib.Dec.{lit<}
use Rattle.table.specs.Refusals.{number_of, Verdict, granted, refused, rung, and_then, number_in}
use Rattle.table.specs.declared.Refusal.{Refusal}
use Rattle.table.specs.declared.Refusal.TheVariants.{TableLength, NotNondecreasing, IndexBeyond}
use Rattle.table.specs.declared.Refusal.TheVariants.{OutsideNeighbours, AboveLast, OutputLength, ParameterCount}
use Rattle.table.specs.declared.Refusal.TheVariants.{TagLength, WrongSignature, ReservedNotZero, FunctionType}
use Rattle.table.specs.declared.Refusal.TheVariants.{OutsideRange, OutsideUnit, LogFull, NothingToTakeBack}
use Rattle.table.specs.declared.Refusal.TheVariants.{BadLog, Exponent}

-- by their numbers, from 1 on; none has the number 14, so any may stand in its place
refusals : List Refusal
refusals =
    TableLength
    ∷ NotNondecreasing
    ∷ IndexBeyond
    ∷ OutsideNeighbours
    ∷ AboveLast
    ∷ OutputLength
    ∷ ParameterCount
    ∷ TagLength
    ∷ WrongSignature
    ∷ ReservedNotZero
    ∷ FunctionType
    ∷ OutsideRange
    ∷ OutsideUnit
    ∷ TableLength
    ∷ LogFull
    ∷ NothingToTakeBack
    ∷ BadLog
    ∷ Exponent
    ∷ []

-- the refusal of a number
named : ℕ → Refusal
named k = get_or refusals (k - 1) TableLength

named_number : (why : Refusal) → named (number_of why) ≡ why
unfolding named refusals
named_number TableLength = refl
named_number NotNondecreasing = refl
named_number IndexBeyond = refl
named_number OutsideNeighbours = refl
named_number AboveLast = refl
named_number OutputLength = refl
named_number ParameterCount = refl
named_number TagLength = refl
named_number WrongSignature = refl
named_number ReservedNotZero = refl
named_number FunctionType = refl
named_number OutsideRange = refl
named_number OutsideUnit = refl
named_number LogFull = refl
named_number NothingToTakeBack = refl
named_number BadLog = refl
named_number Exponent = refl

-- No two refusals have one number. [table::number]
pub same_refusal : (a b : Refusal) → number_of a ≡ number_of b → a ≡ b
same_refusal a b e = sym (named_number a) ∙ ap named e ∙ named_number b

-- No refusal has the number 0. [table::number]
pub number_above : (why : Refusal) → 0 < number_of why
number_above TableLength = lit< tt
number_above NotNondecreasing = lit< tt
number_above IndexBeyond = lit< tt
number_above OutsideNeighbours = lit< tt
number_above AboveLast = lit< tt
number_above OutputLength = lit< tt
number_above ParameterCount = lit< tt
number_above TagLength = lit< tt
number_above WrongSignature = lit< tt
number_above ReservedNotZero = lit< tt
number_above FunctionType = lit< tt
number_above OutsideRange = lit< tt
number_above OutsideUnit = lit< tt
number_above LogFull = lit< tt
number_above NothingToTakeBack = lit< tt
number_above BadLog = lit< tt
number_above Exponent = lit< tt

pub same_verdict : (v w : Verdict) → number_in v ≡ number_in w → v ≡ w
same_verdict granted granted e = refl
same_verdict granted (refused b) e = absurd (omega (arith, number_above b))
same_verdict (refused a) granted e = absurd (omega (arith, number_above a))
same_verdict (refused a) (refused b) e = ap refused (same_refusal a b e)

-- a call is granted only where every rung holds
pub rung_granted : (test : Bool) (why : Refusal) (rest : Verdict) → rung test why rest ≡ granted →
    (test ≡ true) × (rest ≡ granted)
rung_granted true why rest e = (refl, e)
rung_granted false why rest e = let z : ◌≡◌ {A = ℕ} 0 1 = cc in absurd (omega arith)

-- In a ladder that refuses, a rung of another number holds,
pub rung_holds : (test : Bool) (why : Refusal) (rest : Verdict) (w : Refusal) → rung test why rest ≡ refused w →
    (number_of why ≡ number_of w → ⊥) → (test ≡ true) × (rest ≡ refused w)
rung_holds true why rest w e n = (refl, e)
rung_holds false why rest w e n = absurd (n (ap number_in e))

-- and the last rung, where no other can have refused, does not;
pub rung_fails : (test : Bool) (why w : Refusal) → rung test why granted ≡ refused w → test ≡ false
rung_fails true why w e = let z : ◌≡◌ {A = ℕ} 0 1 = cc in absurd (omega arith)
rung_fails false why w e = refl

-- a ladder that has no rung of a number does not answer it;
pub rung_other : {n : ℕ} (test : Bool) (why : Refusal) (rest : Verdict) → (number_of why ≡ n → ⊥) →
    (number_in rest ≡ n → ⊥) → number_in (rung test why rest) ≡ n → ⊥
rung_other true why rest a b e = b e
rung_other false why rest a b e = a e

-- and one ladder before another is one ladder.
pub rung_joined : (test : Bool) (why : Refusal) (rest last : Verdict) →
    rung test why (and_then rest last) ≡ and_then (rung test why rest) last
rung_joined true why rest last = refl
rung_joined false why rest last = refl
