-- `read_parametric_curve` meets its contract: refused as the reading is, and otherwise unified from what it read.
-- Assumes nothing.
use Rattle.para.proofs.Promises.{granted_read}
use Rattle.para_curve.proofs.Promises.{curve_granted}
use Rattle.para_curve.proofs.read_parametric_curve.Goals as goal

pub curve_from-requires : goal.curve_from-requires
curve_from-requires c =
    (granted_read c.args.tag.now _ c.read_para.ensures _ _ c.in_ok-n.was).most

pub returns : goal.returns
returns c =
    curve_granted _ (granted_read c.args.tag.now _ c.read_para.ensures _ _ c.in_ok-n.was)
    c.curve_from.ensures
