-- `lut_interp_linear_gamma_impl` meets its promise, rung by rung. Assumes nothing.
use mathlib.Core.Path.{◌≡◌}
use mathlib.Core.Bool.{true}
use Rattle.table.specs.Sizes.{within, spanned}
use Rattle.table.proofs.Choice.{holds}
use Rattle.table.proofs.Sizes.{within_low, within_high}
use Rattle.gamma.proofs.lut_interp_linear_gamma_impl.Goals as goal

pub gamma-requires : goal.gamma-requires
gamma-requires c =
    let inputs_ok : spanned c.args.inputs ≡ true = holds c.spanned.ensures c.if-not-spanned.false-raw in
    let depth_ok : within 1 16 c.args.depth ≡ true = holds c.within.ensures c.if-not-within.false-raw in
    let d = depth_ok in
    let n = inputs_ok in
    record {
      two = within_low 2 65536 _ n;
      most = within_high 2 65536 _ n;
      shallow = within_low 1 16 _ d;
      deep = within_high 1 16 _ d;
      below = c.if-inputs-input.false;
    }
