-- `trailing_tops` meets its contract: what is taken from the end back is the run of 65535. Assumes nothing.
use mathlib.Core.Path.{◌∙◌}
use mathlib.Core.List.{reverse}
use Rattle.std.specs.Prelude.{◌==◌}
use Rattle.std.proofs.Common.{rules}
use Rattle.std.proofs.lemmas.Iterator.Adapters.{YieldsList-from_rev_slice}
use Rattle.std.proofs.lemmas.Iterator.Consumers.{count_from_yields_List}
use Rattle.std.proofs.lemmas.Iterator.Search.{YieldsList-from_take_while}
use Rattle.table.proofs.Runs.{run_taken}
use Rattle.inverse_start.specs.Start.{trailing_tops}
use Rattle.inverse_start.proofs.inside.trailing_tops.Goals as goal

pub returns : goal.returns
unfolding trailing_tops
returns c =
    count_from_yields_List _ _ c.count.ensures.ran
    (YieldsList-from_take_while _ (λ x. x == 65535) (YieldsList-from_rev_slice c.args.table.now cc)
    c.take_while.ensures.closure c.take_while.ensures.done (λ x b q k. search rules))
    ∙ run_taken 65535 (reverse c.args.table.now)
