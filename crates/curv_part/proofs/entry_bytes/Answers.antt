-- `entry_bytes` meets its contract: it is refused as the count is, with an empty part; otherwise the tag's tested total
-- keeps the part within the tag. Assumes nothing.
use mathlib.Core.Path.{refl}
use native.Mathlib.Omega.{arith}
use Rattle.curv.proofs.Promises.{granted_count}
use Rattle.curv_part.proofs.entry_bytes.Goals as goal

pub tag_length-end-requires : goal.tag_length-end-requires
tag_length-end-requires c =
    (granted_count c.args.tag.now _ c.in-Ok.ensures _ refl).few

pub slice_bounds-result-end-in-Ok : goal.slice_bounds-result-end-in-Ok
slice_bounds-result-end-in-Ok c =
    let g = granted_count c.args.tag.now _ c.in-Ok.ensures _ refl in
    omega arith
