-- `put_entries` meets its contract: the loop stores the entries after the first twelve bytes. Assumes nothing.
use native.Mathlib.Omega.{arith}
use Rattle.icc.proofs.Words.{two_bytes, storing_start, storing_more}
use Rattle.curv_writer.proofs.put_entries.Goals as goal

pub loop-i-init : goal.loop-i-init
loop-i-init c =
    storing_start two_bytes _ _ 12

pub loop-i-preserved : goal.loop-i-preserved
loop-i-preserved c =
    storing_more two_bytes c.loop-i.invariant c.requires (omega arith)
    c.put_u16.ensures
