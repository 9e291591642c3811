-- A sitting with a log, call by call, and what is demanded of it: document 02's rule, and demand 3 with take-backs.
-- Only the promises are cited, so this holds of any code that keeps them. Assumes nothing.
use Rattle.std.specs.Prelude.{ℕ, ◌-◌, ◌≤◌, ◌<◌, ◌≡◌, ◌↔◌, Bool, true, false, List, [], ◌∷◌, ◌++◌, length, get_or, take}
use Rattle.std.specs.Prelude.{Result, Ok, Err}
use Rattle.table.specs.Choice.{pick}
use Rattle.table.specs.Sizes.{sized}
use Rattle.table.specs.Order.{Nondecreasing}
use Rattle.table.specs.Answers.{number_of_answer}
use Rattle.table.specs.Turns as general
use Rattle.table.specs.Turns.{end}
use Rattle.table.specs.declared.Refusal.{Refusal}
use Rattle.lookup.specs.Demand.{LookupObeys}
use Rattle.least.specs.Demand.{LeastObeys}
use Rattle.nudge_log.specs.Records.{places, word, all_nudged}
use Rattle.logged.specs.State.{Logged, standing, Lent}
use Rattle.logged.specs.Promises.{Call, start, accept, nudge, take_back, LogPromise}

-- a nudge's sample is 16 bits wide, as its type in the code says
abbrev pub Typed : Call → Type 0
Typed start = Unit {0}
Typed accept = Unit {0}
Typed (nudge i v) = v.0 < 65536
Typed take_back = Unit {0}

-- a call, given what its types allow, does what it promises
abbrev pub Step : Logged → Call → Result (Unit {0}) Refusal → Logged → Type 0
Step s call r s' = Typed call × LogPromise call s r s'

-- one turn: a call, its answer, and what is there after it
abbrev pub Turn : Type 0
Turn = general.Turn Logged Call

-- The turns follow one another from s on, each from what the one before it left: only these calls change the table and
-- the log.
abbrev pub Run : Logged → List Turn → Type 0
Run = general.Run Step

-- whether a turn makes its table the starting one: a granted start or accept
abbrev pub begins : Call → Result (Unit {0}) Refusal → Bool
begins call (Err why) = false
begins start (Ok tt) = true
begins accept (Ok tt) = true
begins (nudge i v) (Ok tt) = false
begins take_back (Ok tt) = false

-- A whole sitting on whatever is lent: a granted start or accept, and then any calls, granted or refused, starts and
-- accepts among them.
pub record WholeSitting (lent : Logged) (opening : Turn) (turns : List Turn) : Type 0 where
  pub types : Lent lent
  pub opened : begins opening.call opening.answer ≡ true
  pub run : Run lent (opening ∷ turns)

-- what its last turn leaves
abbrev pub ended : Turn → List Turn → Logged
ended opening turns = end opening.after turns

-- The starting table: what the last granted start or accept left. From t on, where that was left before the turns.
abbrev pub starting_from : List ℕ → List Turn → List ℕ
starting_from t [] = t
starting_from t (turn ∷ turns) = starting_from (pick (begins turn.call turn.answer) turn.after.table t) turns

abbrev pub starting_table : Turn → List Turn → List ℕ
starting_table opening turns = starting_from opening.after.table turns

-- The nudges that stand after a call, told without a look at the log, where ws stood before it: a granted start or
-- accept clears them, a granted nudge adds its own at the end, a granted take-back takes the last, and a refused call
-- changes nothing.
abbrev pub stands_after : Logged → Call → Result (Unit {0}) Refusal → List ℕ → List ℕ
stands_after s call (Err why) ws = ws
stands_after s start (Ok tt) ws = []
stands_after s accept (Ok tt) ws = []
stands_after s (nudge i v) (Ok tt) ws = ws ++ (word i (get_or s.table i 0) v.0 ∷ [])
stands_after s take_back (Ok tt) ws = take (length ws - 1) ws

abbrev pub stands_from : Logged → List ℕ → List Turn → List ℕ
stands_from s ws [] = ws
stands_from s ws (t ∷ turns) = stands_from t.after (stands_after s t.call t.answer ws) turns

-- after the opening none stands
abbrev pub standing_nudges : Turn → List Turn → List ℕ
standing_nudges opening turns = stands_from opening.after [] turns

-- What holds of s, where o is the starting table and ws are the nudges that stand.
pub record Obeys (lent : Logged) (o ws : List ℕ) (s : Logged) : Type 0 where
  -- document 02's rule: the table is the starting one with the standing nudges done in order,
  pub rule : s.table ≡ all_nudged o ws
  -- and the log holds them, no more than there are places;
  pub log_holds : standing s ≡ ws
  pub few : s.count ≤ places
  pub types : Lent s
  -- demand 3: the table is nondecreasing, and has 1 to 65,536 entries, as many as were lent,
  pub order : Nondecreasing s.table
  pub size : sized (length s.table) ≡ true
  pub same_length : length s.table ≡ length lent.table
  -- and the lookup and the least input in it obey their laws;
  pub lookup : LookupObeys s.table
  pub least : LeastObeys s.table
  -- no call is refused with 17,
  pub never_17 : (call : Call) (r : Result (Unit {0}) Refusal) (s' : Logged) → Step s call r s'
      → number_of_answer r ≡ 17 → ⊥
  -- and a take-back exactly where none stands, with 16.
  pub back_refused : (r : Result (Unit {0}) Refusal) (s' : Logged) → Step s take_back r s'
      → (number_of_answer r ≡ 16) ↔ (s.count ≡ 0)
  pub back_granted : (r : Result (Unit {0}) Refusal) (s' : Logged) → Step s take_back r s' → 0 < s.count → r ≡ Ok tt

-- It holds at the end of every sitting. The first turns of a sitting, however many, are a sitting too (`first_turns`),
-- so it holds after each call.
abbrev pub LogDemand : Type 0
LogDemand =
    (lent : Logged) (opening : Turn) (turns : List Turn) → WholeSitting lent opening turns →
    Obeys lent (starting_table opening turns) (standing_nudges opening turns) (ended opening turns)

-- turns of take-backs alone
abbrev pub Backs : List Turn → Type 0
Backs [] = Unit {0}
Backs (t ∷ turns) = (t.call ≡ take_back) × Backs turns

-- turns that are all granted
abbrev pub AllGranted : List Turn → Type 0
AllGranted [] = Unit {0}
AllGranted (t ∷ turns) = (t.answer ≡ Ok tt) × AllGranted turns

-- Take back all, and the starting table is there again: after any sitting, as many take-backs as nudges stand are all
-- granted, and leave that table.
abbrev pub AllBack : Type 0
AllBack =
    (lent : Logged) (opening : Turn) (turns : List Turn) → WholeSitting lent opening turns →
    (backs : List Turn) → Run (ended opening turns) backs → Backs backs → length backs ≡ (ended opening turns).count →
    AllGranted backs × ((end (ended opening turns) backs).table ≡ starting_table opening turns)
