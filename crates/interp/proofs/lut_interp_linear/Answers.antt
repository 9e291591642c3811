-- `lut_interp_linear` meets its promise, rung by rung; past them the table is empty, or has entries to weigh. Assumes
-- nothing.
use mathlib.Core.Path.{◌≡◌, ◌∙◌, sym}
use mathlib.Core.Bool.{true, false}
use lib.ListN.{length}
use Rattle.table.specs.Sizes.{not_above}
use Rattle.table.proofs.Choice.{holds}
use Rattle.interp.specs.Interp.{outside_unit}
use Rattle.interp.proofs.Steps.{empty_gives, linear_gives}
use Rattle.interp.proofs.Verdicts.{linear_granted, not_empty}
use Rattle.interp.proofs.lut_interp_linear.Goals as goal

pub returns-then-table-eq0 : goal.returns-then-table-eq0
returns-then-table-eq0 c =
    let short : not_above (length c.args.table.now) ≡ true = holds c.not_above.ensures c.if-not-not_above.false-raw in
    let inside : outside_unit c.args.x ≡ false = sym c.outside_unit.ensures ∙ c.if-outside_unit.false in
    let t = c.args.table.now in
    let r = c.nearest_f64_to_f32.result in
    linear_granted t c.args.x short r inside
    (empty_gives t c.args.x r c.if-table-eq0.true c.nearest_f64_to_f32.ensures)

pub invariant_of-table : goal.invariant_of-table
invariant_of-table c =
    let short : not_above (length c.args.table.now) ≡ true = holds c.not_above.ensures c.if-not-not_above.false-raw in
    let inside : outside_unit c.args.x ≡ false = sym c.outside_unit.ensures ∙ c.if-outside_unit.false in
    record { tested = not_empty c.args.table.now c.args.x short c.if-table-eq0.false }

pub returns : goal.returns
returns c =
    let short : not_above (length c.args.table.now) ≡ true = holds c.not_above.ensures c.if-not-not_above.false-raw in
    let inside : outside_unit c.args.x ≡ false = sym c.outside_unit.ensures ∙ c.if-outside_unit.false in
    let t = c.args.table.now in
    let y = c.interp_wide.result in
    linear_granted t c.args.x short _ inside (linear_gives t c.args.x y
    c.nearest_f64_to_f32-value.result c.if-table-eq0.false c.interp_wide.ensures c.nearest_f64_to_f32-value.ensures)
