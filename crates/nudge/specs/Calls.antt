-- A sitting: calls one after the other, each with its answer and what it leaves. Only the promises are cited, so any
-- code that keeps them has such sittings. Assumes nothing.
use Rattle.std.specs.Prelude.{ℕ, ◌≡◌, Bool, true, false, List, ◌∷◌, Result, Ok}
use Rattle.table.specs.Turns as general
use Rattle.table.specs.declared.Density.{Density}
use Rattle.table.specs.declared.Refusal.{Refusal}
use Rattle.curve.specs.Promises.{Sitting, StartPromise, AcceptPromise}
use Rattle.nudge.specs.Promises.{NudgePromise}

-- a call, with what it is given
pub data Call : Type 0 where
  start : Call
  accept : Call
  nudge : ℕ → Density → Call

-- a call does what it promises
abbrev pub Step : Sitting → Call → Result (Unit {0}) Refusal → Sitting → Type 0
Step s start r s' = StartPromise s r s'
Step s accept r s' = AcceptPromise s r s'
Step s (nudge i v) r s' = NudgePromise s i v r s'

-- one turn: a call, its answer, and the sitting after it
abbrev pub Turn : Type 0
Turn = general.Turn Sitting Call

-- the turns follow one another from s on, each from what the one before it left
abbrev pub Run : Sitting → List Turn → Type 0
Run = general.Run Step

-- the calls that a sitting may begin with
abbrev pub opens : Call → Bool
opens start = true
opens accept = true
opens (nudge i v) = false

-- A whole sitting on a lent table: a granted start or accept, and then any calls, granted or refused. Demand 3 has only
-- nudges there; this says more.
pub record WholeSitting (lent : Sitting) (opening : Turn) (turns : List Turn) : Type 0 where
  pub opened : opens opening.call ≡ true
  pub granted : opening.answer ≡ Ok tt
  pub run : Run lent (opening ∷ turns)
