-- `is_curve_monotonic` meets its contract: the promise at each way out, by the tests that lead there. Assumes nothing.
use native.Mathlib.Omega.{arith}
use borrow.Author.Tests.{leb-true}
use lib.ListN.{length}
use Rattle.table.proofs.Choice.{holds}
use Rattle.monotonic.proofs.Steps.{violations_few}
use Rattle.monotonic.proofs.is_curve_monotonic.Goals as goal

pub few_enough-requires : goal.few_enough-requires
few_enough-requires c =
    omega (
      arith,
      leb-true (length c.args.table.now) 65536 (holds c.not_above.ensures
          c.if-not-not_above.false-raw),
      violations_few c.args.direction c.args.table.now,
    )
