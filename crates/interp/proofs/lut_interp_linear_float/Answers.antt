-- `lut_interp_linear_float` meets its promise: refused for the length, or the lookup with its exact ends. Assumes
-- nothing.
use mathlib.Core.Path.{sym, subst}
use lib.Dec.{T}
use Rattle.table.proofs.Choice.{holds}
use Rattle.interp.proofs.Verdicts.{float_granted}
use Rattle.interp.proofs.lut_interp_linear_float.Goals as goal

pub returns : goal.returns
returns c =
    float_granted c.args.table.now c.args.x c.interp_float.result
    (holds c.sized.ensures c.if-not-sized.false-raw) c.shared_slice_known-1.given
    (subst T (sym c.well_formed.1.0.1) tt) c.interp_float.ensures
