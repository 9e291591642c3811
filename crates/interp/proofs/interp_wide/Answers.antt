-- `interp_wide` meets its contract: the place lies between two entries, and the steps are those that are defined.
-- Assumes nothing.
use lib.ListN.{length}
use lib.Ieee.{binary64}
use Rattle.interp.proofs.Place.{place_asks, upper_inside, lower_inside}
use Rattle.interp.proofs.Input.{inside_upto}
use Rattle.interp.proofs.Steps.{wide_gives}
use Rattle.interp.proofs.interp_wide.Goals as goal

pub ceil_f64-upper-requires : goal.ceil_f64-upper-requires
ceil_f64-upper-requires c =
    rw c.last.ensures.2
    (place_asks (length c.args.table.entries.now) c.args.table.tested binary64 c.args.x
    (inside_upto c.args.x c.requires))

pub floor_f64-lower-requires : goal.floor_f64-lower-requires
floor_f64-lower-requires c =
    rw c.last.ensures.2
    (place_asks (length c.args.table.entries.now) c.args.table.tested binary64 c.args.x
    (inside_upto c.args.x c.requires))

pub bounds-table-upper : goal.bounds-table-upper
bounds-table-upper c =
    upper_inside (length c.args.table.entries.now) c.args.table.tested binary64 c.args.x
    (inside_upto c.args.x c.requires) _ (rw c.last.ensures.2 at c.ceil_f64-upper.ensures)

pub bounds-table-lower : goal.bounds-table-lower
bounds-table-lower c =
    lower_inside (length c.args.table.entries.now) c.args.table.tested binary64 c.args.x
    (inside_upto c.args.x c.requires) _ (rw c.last.ensures.2 at c.floor_f64-lower.ensures)

pub returns : goal.returns
returns c =
    rw c.last.ensures.2
    (wide_gives c.args.table.entries.now c.args.x _ _
    (rw c.last.ensures.2 at c.ceil_f64-upper.ensures) (rw c.last.ensures.2 at c.floor_f64-lower.ensures))
