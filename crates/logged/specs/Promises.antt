-- What each call over a table and its log promises: when it is refused and by which number, and what it leaves of all
-- three: the table, the log's words and the count. Assumes nothing.
use Rattle.std.specs.Prelude.{ℕ, ◌+◌, ◌-◌, ◌≡◌, Bool, true, length, get_or, set, leb, ltb, Result, Ok, Err}
use Rattle.table.specs.Choice.{pick, both}
use Rattle.table.specs.Sizes.{within}
use Rattle.table.specs.Order.{nondecreasing, suits}
use Rattle.table.specs.Refusals.{Verdict, granted, rung, number_in, if_granted}
use Rattle.table.specs.Answers.{number_of_answer}
use Rattle.table.specs.declared.Density.{Density}
use Rattle.table.specs.declared.Refusal.TheVariants.{TableLength, NotNondecreasing, IndexBeyond, OutsideNeighbours}
use Rattle.table.specs.declared.Refusal.TheVariants.{LogFull, NothingToTakeBack, BadLog}
use Rattle.table.specs.declared.Refusal.{Refusal}
use Rattle.curve.specs.Ramp.{ramp_of}
use Rattle.nudge_log.specs.Records.{places, word, taken_back, goes_with}
use Rattle.logged.specs.State.{Logged, logged_on, last_standing}

-- a call, with what it is given
pub data Call : Type 0 where
  start : Call
  accept : Call
  nudge : ℕ → Density → Call
  take_back : Call

-- A log that a take-back can go by: no more stand than there are places, and the last one, where one stands, goes with
-- the table.
abbrev pub sound_log : Logged → Bool
sound_log s =
    both (leb s.count places)
    (pick (ltb 0 s.count) (goes_with s.table (last_standing s)) true)

-- the fewest entries that a table must have: as without a log
abbrev pub fewest : Call → ℕ
fewest start = 2
fewest accept = 1
fewest (nudge i v) = 1
fewest take_back = 1

-- The tests after that of the length: accept 2; nudge 17, 3, 2, 4, 15; take-back 2, 17, 16.
abbrev pub later_verdict : Call → Logged → Verdict
later_verdict start s = granted
later_verdict accept s = rung (nondecreasing s.table) NotNondecreasing granted
later_verdict (nudge i v) s =
    rung (leb s.count places) BadLog
    (rung (ltb i (length s.table)) IndexBeyond
    (rung (nondecreasing s.table) NotNondecreasing
    (rung (suits s.table i v.0) OutsideNeighbours
    (rung (ltb s.count places) LogFull
    granted))))
later_verdict take_back s =
    rung (nondecreasing s.table) NotNondecreasing
    (rung (sound_log s) BadLog
    (rung (ltb 0 s.count) NothingToTakeBack
    granted))

-- All of them, 1 first.
abbrev pub call_verdict : Call → Logged → Verdict
call_verdict call s = rung (within (fewest call) 65536 (length s.table)) TableLength (later_verdict call s)

-- What a granted call leaves. A start makes the straight curve, an accept leaves the table, and both empty the log. A
-- nudge sets its entry and writes one word, at the count, and one more stands. A take-back sets the last one's entry
-- back, and one fewer stands. But for that one word no place of the log changes.
abbrev pub leaves : Call → Logged → Logged
leaves start s = logged_on (ramp_of (length s.table)) s.log 0
leaves accept s = logged_on s.table s.log 0
leaves (nudge i v) s =
    logged_on (set s.table i v.0) (set s.log s.count (word i (get_or s.table i 0) v.0)) (s.count + 1)
leaves take_back s = logged_on (taken_back s.table (last_standing s)) s.log (s.count - 1)

-- A refused call leaves all as it was.
pub record LogPromise (call : Call) (s : Logged) (r : Result (Unit {0}) Refusal) (s' : Logged) : Type 0 where
  pub number : number_of_answer r ≡ number_in (call_verdict call s)
  pub after : s' ≡ if_granted (call_verdict call s) (leaves call s) s

-- how many stand after a start or an accept that answered so, of k before it: what its inner function ensures
abbrev pub count_after : Result (Unit {0}) Refusal → ℕ → ℕ
count_after (Ok tt) k = 0
count_after (Err why) k = k
