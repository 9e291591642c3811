-- `stands_still` meets its contract: the definition at each way out, by the tests that lead there. At the last one
-- `search` finds what the call ensures, so that a call of the wrong function fails there because it is wrong. Assumes
-- nothing.
use mathlib.Core.Path.{◌∙◌}
use Prim.Native.Nat.{◌<◌}
use native.Mathlib.Omega.{arith}
use lib.ListN.{length}
use Rattle.std.proofs.Common.{rules}
use Rattle.degeneration.proofs.Promises.{still_short, still_first, still_last}
use Rattle.degeneration.proofs.Runs.{leading_taken, trailing_taken}
use Rattle.degeneration.proofs.stands_still.Goals as goal

pub returns-then-table-lt2 : goal.returns-then-table-lt2
returns-then-table-lt2 c =
    still_short _ c.if-table-lt2.true

pub returns-then-leading-ge20 : goal.returns-then-leading-ge20
returns-then-leading-ge20 c =
    still_first _ c.if-table-lt2.false _ (c.leading.ensures ∙ leading_taken _) c.if-leading-ge20.true

pub returns : goal.returns
returns c =
    let some : 0 < length c.args.table.now = omega arith in
    still_last _ c.if-table-lt2.false _ (c.leading.ensures ∙ leading_taken _) c.if-leading-ge20.false _
    (search (rules, trailing_taken c.args.table.now some))
