-- `put_patterns` meets its contract: the loop stores the patterns after the first twelve bytes. Assumes nothing.
use native.Mathlib.Omega.{arith}
use Rattle.icc.proofs.Words.{four_bytes, storing_start, storing_more}
use Rattle.para_writer.proofs.put_patterns.Goals as goal

pub loop-k-init : goal.loop-k-init
loop-k-init c =
    storing_start four_bytes _ _ 12

pub loop-k-preserved : goal.loop-k-preserved
loop-k-preserved c =
    storing_more four_bytes c.loop-k.invariant c.requires (omega arith)
    c.put_u32.ensures
