-- Demand 3's part on the table: what holds throughout every sitting. Assumes nothing.
use Rattle.std.specs.Prelude.{◌≡◌, true, List, length}
use Rattle.table.specs.Sizes.{sized}
use Rattle.table.specs.Order.{Nondecreasing}
use Rattle.table.specs.Turns.{Throughout}
use Rattle.curve.specs.Promises.{Sitting}
use Rattle.nudge.specs.Calls.{Turn, WholeSitting}

-- s holds a nondecreasing table of 1 to 65,536 entries, as many as were lent
pub record InOrder (lent s : Sitting) : Type 0 where
  pub order : Nondecreasing s.table
  pub size : sized (length s.table) ≡ true
  pub same_length : length s.table ≡ length lent.table

-- after the granted start or accept, and after each call that follows it, however many, granted or refused, the table
-- is so
abbrev pub SittingDemand : Type 0
SittingDemand =
    (lent : Sitting) (opening : Turn) (turns : List Turn) → WholeSitting lent opening turns
    → Throughout (InOrder lent) opening.after turns
