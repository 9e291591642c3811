-- `u16_at` meets its contract: std's number of the bytes is the definition's. Assumes nothing.
use borrow.Author.Rules.{rules}
use Rattle.icc.specs.Bytes.{be16}
use Rattle.icc.proofs.inside.u16_at.Goals as goal

pub returns : goal.returns
unfolding be16
returns c =
    search rules
