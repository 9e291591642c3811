-- `compare_parametric` meets its promise: every pair of the zip is asked what the definition asks. Assumes nothing.
use mathlib.Core.Path.{◌∙◌}
use Rattle.parametric.proofs.Compare.{close_pairs, close_cut}
use Rattle.parametric.proofs.compare_parametric.Goals as goal

pub returns : goal.returns
returns c =
    record { value = c.none_far.ensures ∙ close_pairs _ _ ∙ close_cut _ _ _ c.min-n.ensures }
