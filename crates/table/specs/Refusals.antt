-- The documents' refusals: the number of each, and the ladder of tests by which a call is granted or refused. Assumes
-- nothing.
use Rattle.std.specs.Prelude.{ℕ, Bool, true, false}
use Rattle.table.specs.declared.Refusal.{Refusal}
use Rattle.table.specs.declared.Refusal.TheVariants.{TableLength, NotNondecreasing, IndexBeyond}
use Rattle.table.specs.declared.Refusal.TheVariants.{OutsideNeighbours, AboveLast, OutputLength, ParameterCount}
use Rattle.table.specs.declared.Refusal.TheVariants.{TagLength, WrongSignature, ReservedNotZero, FunctionType}
use Rattle.table.specs.declared.Refusal.TheVariants.{OutsideRange, OutsideUnit, LogFull, NothingToTakeBack}
use Rattle.table.specs.declared.Refusal.TheVariants.{BadLog, Exponent}

-- the number of each refusal, row by row; 0 is no refusal's
abbrev pub number_of : Refusal → ℕ
number_of TableLength = 1
number_of NotNondecreasing = 2
number_of IndexBeyond = 3
number_of OutsideNeighbours = 4
number_of AboveLast = 5
number_of OutputLength = 6
number_of ParameterCount = 7
number_of TagLength = 8
number_of WrongSignature = 9
number_of ReservedNotZero = 10
number_of FunctionType = 11
number_of OutsideRange = 12
number_of OutsideUnit = 13
number_of LogFull = 15
number_of NothingToTakeBack = 16
number_of BadLog = 17
number_of Exponent = 18

-- what a call's tests come to, before it does anything
pub data Verdict : Type 0 where
  granted : Verdict
  refused : Refusal → Verdict

-- a rung of the ladder: a test that must hold, the refusal where it does not, and the rungs after it.
-- So a call is refused by the first test, in its document's order, that fails.
abbrev pub rung : Bool → Refusal → Verdict → Verdict
rung true why rest = rest
rung false why rest = refused why

-- a whole ladder before another: the second one's tests come after the first one's
abbrev pub and_then : Verdict → Verdict → Verdict
and_then granted rest = rest
and_then (refused why) rest = refused why

-- the number that an answer carries: 0 where the call is granted
abbrev pub number_in : Verdict → ℕ
number_in granted = 0
number_in (refused why) = number_of why

-- what is given where the call is granted, and what stands there otherwise: for a value 0, for a lent buffer what it
-- held
abbrev pub if_granted : {A : Type 0} → Verdict → A → A → A
if_granted granted given otherwise = given
if_granted (refused why) given otherwise = otherwise

-- the same of facts: what holds where the call is granted, and what otherwise
abbrev pub when_granted : Verdict → Type 0 → Type 0 → Type 0
when_granted granted fact otherwise = fact
when_granted (refused why) fact otherwise = otherwise
