-- `title_width` is safe: each of at most 300 bytes adds at most 3. Assumes nothing.
use native.Mathlib.Omega.{arith}
use Rattle.picture.proofs.Escaping.{shown_length}
use Rattle.picture.proofs.svg.title_width.Goals as goal

pub loop-b-init : goal.loop-b-init
loop-b-init c =
    omega (arith, shown_length c.args.title.now c.requires)
