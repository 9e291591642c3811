-- `log_nudge` meets its promise, rung by rung, and past them stores the one word, the count and the one entry. Assumes
-- nothing.
use mathlib.Core.Path.{◌≡◌}
use mathlib.Core.Bool.{true}
use borrow.Author.Tests.{lt-ltb, le-leb}
use lib.ListN.{length}
use lib.Dec.{ltb, leb}
use Rattle.table.specs.Sizes.{sized}
use Rattle.table.specs.Order.{nondecreasing}
use Rattle.table.proofs.Choice.{holds}
use Rattle.nudge_log.specs.Records.{places}
use Rattle.logged.proofs.Cases.{index_narrow}
use Rattle.logged.proofs.log_nudge.Goals as goal

pub word-requires : goal.word-requires
word-requires c =
    let size_ok : sized (length c.args.table.now) ≡ true = holds c.sized.ensures c.if-not-sized.false-raw in
    let passed : let a = c.args in
    (sized (length a.table.now) ≡ true)
    × (leb a.count.now places ≡ true)
    × (ltb a.i (length a.table.now) ≡ true)
    × (nondecreasing a.table.now ≡ true) = (
      size_ok,
      le-leb _ _ c.if-standing-gt-PLACES.false,
      lt-ltb _ _ c.if-table-i.false,
      holds c.in_order.ensures c.if-not-in_order.false-raw,
    ) in
    let p = passed in
    index_narrow _ _ p.0 p.2
