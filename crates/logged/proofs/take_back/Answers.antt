-- `take_back` meets its promise, rung by rung, and past them stores the one entry and the count. Assumes nothing.
use Rattle.table.proofs.Choice.{holds}
use Rattle.nudge_log.proofs.Records.{goes_inside}
use Rattle.logged.proofs.take_back.Goals as goal

-- the last one's index is in the table, and so it is 16 bits wide
pub bounds-table-index_of : goal.bounds-table-index_of
bounds-table-index_of c =
    rw c.index_of.ensures (goes_inside _ _ (holds c.goes_with.ensures c.if-not-goes_with.false-raw))
