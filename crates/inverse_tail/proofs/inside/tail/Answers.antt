-- `tail` meets its contract: both cells lie in the table. Assumes nothing.
use Prim.Native.Nat.{◌-◌, ◌≤◌}
use native.Mathlib.Omega.{arith}
use lib.ListN.{length}
use lib.Ieee.{binary64}
use Rattle.table.proofs.Sizes.{within_low, within_high}
use Rattle.ieee.proofs.Range.{in_float_lem}
use Rattle.inverse_tail.proofs.Cells.{place_asks, cell0_inside, cell1_inside, tail_is}
use Rattle.inverse_tail.proofs.inside.tail.Goals as goal

pub overflow_sub-place : goal.overflow_sub-place
overflow_sub-place c =
    let some : 1 ≤ length c.args.table.now = within_low 1 65536 _ c.requires.table_sized in
    some

pub int_to_float-place : goal.int_to_float-place
int_to_float-place c =
    let few : length c.args.table.now ≤ 65536 = within_high 1 65536 _ c.requires.table_sized in
    let k : length c.args.table.now - 1 ≤ 65536 = omega (arith, few) in
    in_float_lem binary64 _ k

pub floor_f64-cell0-requires : goal.floor_f64-cell0-requires
floor_f64-cell0-requires c =
    let some : 1 ≤ length c.args.table.now = within_low 1 65536 _ c.requires.table_sized in
    let few : length c.args.table.now ≤ 65536 = within_high 1 65536 _ c.requires.table_sized in
    let small : c.args.x ≤ 65536 = omega arith in
    place_asks c.args.table.now c.args.x some few small

pub ceil_f64-cell1-requires : goal.ceil_f64-cell1-requires
ceil_f64-cell1-requires c =
    let some : 1 ≤ length c.args.table.now = within_low 1 65536 _ c.requires.table_sized in
    let few : length c.args.table.now ≤ 65536 = within_high 1 65536 _ c.requires.table_sized in
    let small : c.args.x ≤ 65536 = omega arith in
    place_asks c.args.table.now c.args.x some few small

pub between-requires : goal.between-requires
between-requires c =
    let some : 1 ≤ length c.args.table.now = within_low 1 65536 _ c.requires.table_sized in
    let few : length c.args.table.now ≤ 65536 = within_high 1 65536 _ c.requires.table_sized in
    let small : c.args.x ≤ 65536 = omega arith in
    record {
      few = few;
      inside0 =
          cell0_inside c.args.table.now c.args.x some few small c.floor_f64-cell0.ensures
          c.ceil_f64-cell1.ensures;
      inside1 =
          cell1_inside c.args.table.now c.args.x some few small c.floor_f64-cell0.ensures
          c.ceil_f64-cell1.ensures;
    }

pub returns : goal.returns
returns c =
    let some : 1 ≤ length c.args.table.now = within_low 1 65536 _ c.requires.table_sized in
    let few : length c.args.table.now ≤ 65536 = within_high 1 65536 _ c.requires.table_sized in
    let small : c.args.x ≤ 65536 = omega arith in
    tail_is c.args.table.now c.args.x some few small c.floor_f64-cell0.ensures
    c.ceil_f64-cell1.ensures c.args.v c.between.ensures
