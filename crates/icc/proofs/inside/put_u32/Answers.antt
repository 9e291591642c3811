-- `put_u32` meets its contract: the number's bytes, stored at once, are the definition's. Assumes nothing.
use mathlib.Core.Path.{◌∙◌, refl}
use native.Mathlib.Omega.{arith}
use Rattle.icc.proofs.Numbers.{be_bytes32}
use Rattle.icc.proofs.Stores.{part_stored}
use Rattle.icc.specs.Bytes.{bytes32}
use Rattle.icc.proofs.inside.put_u32.Goals as goal

pub returns : goal.returns
unfolding bytes32
returns c =
    part_stored _ _ 4 _ _
    (c.copy_from_slice.ensures.after ∙ c.to_be_bytes.ensures ∙ be_bytes32 c.args.x (omega arith))
    refl (omega arith)
