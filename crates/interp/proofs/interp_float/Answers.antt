-- `interp_float` meets its contract: the place lies between two entries, and the steps are those that are defined.
-- Assumes nothing.
use lib.ListN.{length}
use lib.Ieee.{binary32}
use Rattle.interp.proofs.Place.{some, last_exact, place_asks, upper_inside, lower_inside}
use Rattle.interp.proofs.Input.{read_upto}
use Rattle.interp.proofs.Steps.{float_gives}
use Rattle.interp.proofs.interp_float.Goals as goal

pub overflow_sub-value : goal.overflow_sub-value
overflow_sub-value c =
    some (length c.args.table.now) c.requires

pub int_to_float-value : goal.int_to_float-value
int_to_float-value c =
    last_exact (length c.args.table.now) c.requires binary32

pub ceil_f32-upper-requires : goal.ceil_f32-upper-requires
ceil_f32-upper-requires c =
    let n = length c.args.table.now in
    let y = c.unit.result in
    place_asks n c.requires binary32 y (read_upto c.args.x y c.unit.ensures)

pub floor_f32-lower-requires : goal.floor_f32-lower-requires
floor_f32-lower-requires c =
    let n = length c.args.table.now in
    let y = c.unit.result in
    place_asks n c.requires binary32 y (read_upto c.args.x y c.unit.ensures)

pub bounds-table-upper : goal.bounds-table-upper
bounds-table-upper c =
    let h = c.ceil_f32-upper in
    let n = length c.args.table.now in
    let y = c.unit.result in
    upper_inside n c.requires binary32 y (read_upto c.args.x y c.unit.ensures) h.result h.ensures

pub bounds-table-lower : goal.bounds-table-lower
bounds-table-lower c =
    let l = c.floor_f32-lower in
    let n = length c.args.table.now in
    let y = c.unit.result in
    lower_inside n c.requires binary32 y (read_upto c.args.x y c.unit.ensures) l.result l.ensures

pub returns : goal.returns
returns c =
    float_gives c.args.table.now c.args.x c.unit.result c.unit.ensures c.ceil_f32-upper.result
    c.floor_f32-lower.result c.ceil_f32-upper.ensures c.floor_f32-lower.ensures
