-- `drawn` meets its contract: the one test, and past it the table is short enough. Assumes nothing.
use native.Mathlib.Omega.{arith}
use Rattle.table.proofs.Choice.{holds}
use Rattle.table.proofs.Sizes.{within_high}
use Rattle.picture.proofs.drawn.Goals as goal

pub returns : goal.returns
returns c =
    let h = holds c.sized.ensures c.if-not-sized.false-raw in
    record { count = simp h; most = omega arith; small = λ l. within_high 1 65536 _ h }
