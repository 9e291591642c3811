-- `read_curv` meets its contract: refused as the count is, then for the buffer's length, and filled otherwise. Assumes
-- nothing.
use native.Mathlib.Omega.{arith}
use Rattle.curv.proofs.Promises.{granted_count}
use Rattle.curv_reader.proofs.read_curv.Goals as goal

pub fill-requires : goal.fill-requires
fill-requires c =
    let g = granted_count c.args.tag.now _ c.count_entries.ensures _ c.in_ok-n.was in
    omega arith
