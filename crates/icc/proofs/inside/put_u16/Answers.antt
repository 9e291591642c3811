-- `put_u16` meets its contract: the number's bytes, stored at once, are the definition's. Assumes nothing.
use mathlib.Core.Path.{◌∙◌, refl}
use native.Mathlib.Omega.{arith}
use Rattle.icc.proofs.Numbers.{be_bytes16}
use Rattle.icc.proofs.Stores.{part_stored}
use Rattle.icc.specs.Bytes.{bytes16}
use Rattle.icc.proofs.inside.put_u16.Goals as goal

pub returns : goal.returns
unfolding bytes16
returns c =
    part_stored _ _ 2 _ _
    (c.copy_from_slice.ensures.after ∙ c.to_be_bytes.ensures ∙ be_bytes16 c.args.x (omega arith))
    refl (omega arith)
