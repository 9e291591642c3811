-- A table and its log. Assumes nothing.
use Rattle.std.specs.Prelude.{ℕ, ◌-◌, ◌≡◌, List, length, get_or, take}
use Rattle.table.specs.Order.{SixteenBits}
use Rattle.nudge_log.specs.Records.{places}

-- What a sitting with a log keeps from one call to the next: the table, the words in the log's places, and how many
-- nudges stand.
pub record Logged : Type 0 where
  pub table : List ℕ
  pub log : List ℕ
  pub count : ℕ

abbrev pub logged_on : List ℕ → List ℕ → ℕ → Logged
logged_on t l k = record { table = t; log = l; count = k }

-- the nudges that stand, the first one first; what the places past the count hold is no part of the log
abbrev pub standing : Logged → List ℕ
standing s = take s.count s.log

-- the last of them, where one stands and the count is not above the places
abbrev pub last_standing : Logged → ℕ
last_standing s = get_or s.log (s.count - 1) 0

-- What the laws need of what the code's types say of whatever is lent: entries are 16 bits wide, and there are as many
-- words as places.
pub record Lent (s : Logged) : Type 0 where
  pub bits : SixteenBits s.table
  pub room : length s.log ≡ places
