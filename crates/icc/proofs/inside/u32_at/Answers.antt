-- `u32_at` meets its contract: std's number of the bytes is the definition's. Assumes nothing.
use native.Mathlib.Omega.{arith}
use borrow.Author.Rules.{rules}
use Rattle.icc.specs.Bytes.{EightBits, be32}
use Rattle.icc.proofs.inside.u32_at.Goals as goal

-- The bytes of any tag that a call is lent are eight bits wide, by their type: what the laws on bytes ask for. [icc]
lent_eight : (c : goal.After-from_be_bytes) → EightBits c.args.tag.now
lent_eight c i = omega (arith, c.type_inv.tag i)

pub returns : goal.returns
unfolding be32
returns c =
    search rules
