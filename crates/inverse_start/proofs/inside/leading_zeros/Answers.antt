-- `leading_zeros` meets its contract: what is taken from the front is the run of 0. Assumes nothing.
use mathlib.Core.Path.{◌∙◌}
use Rattle.std.specs.Prelude.{◌==◌}
use Rattle.std.proofs.Common.{rules}
use Rattle.std.proofs.lemmas.Iterator.{YieldsList-from_slice}
use Rattle.std.proofs.lemmas.Iterator.Consumers.{count_from_yields_List}
use Rattle.std.proofs.lemmas.Iterator.Search.{YieldsList-from_take_while}
use Rattle.table.proofs.Runs.{run_taken}
use Rattle.inverse_start.specs.Start.{leading_zeros}
use Rattle.inverse_start.proofs.inside.leading_zeros.Goals as goal

pub returns : goal.returns
unfolding leading_zeros
returns c =
    count_from_yields_List _ _ c.count.ensures.ran
    (YieldsList-from_take_while _ (λ x. x == 0) (YieldsList-from_slice c.args.table.now cc)
    c.take_while.ensures.closure c.take_while.ensures.done (λ x b q k. search rules))
    ∙ run_taken 0 c.args.table.now
