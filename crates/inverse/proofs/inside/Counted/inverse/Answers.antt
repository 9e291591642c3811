-- `inverse` meets its contract on each way to an answer: before any search, with r ≤ l, at a hit, and by the f64 steps.
-- Assumes nothing.
use mathlib.Core.Path.{◌∙◌, refl, sym}
use native.Mathlib.Omega.{arith}
use Rattle.table.proofs.Sizes.{within_high}
use Rattle.inverse_start.proofs.Runs.{zeros_le, tops_le}
use Rattle.inverse.proofs.Whole.{Begun, begun_ready, at_once, crossed, hit_answer, missed_low, missed_answer}
use Rattle.inverse.proofs.inside.Counted.inverse.Goals as goal

pub returns-then-zero_at_once : goal.returns-then-zero_at_once
returns-then-zero_at_once c =
    at_once
    (record {
      zeros = c.args.self.now.zeros;
      tops = c.args.self.now.tops;
      left = refl;
      right = refl;
    }) c.args.self.now.table.tested c.args.v c.zero_at_once.ensures c.if-zero_at_once.true

pub first_left-l-requires : goal.first_left-l-requires
first_left-l-requires c =
    let few = within_high 1 65536 _ c.args.self.now.table.tested in
    omega (arith, zeros_le c.args.self.now.table.entries.now, c.args.self.now.zeros, few)

pub first_right-r-requires : goal.first_right-r-requires
first_right-r-requires c =
    let few = within_high 1 65536 _ c.args.self.now.table.tested in
    omega (arith, tops_le c.args.self.now.table.entries.now, c.args.self.now.tops, few)

pub returns-then-l-r : goal.returns-then-l-r
returns-then-l-r c =
    let begun : Begun c.args.self.now.table.entries.now
    c.args.self.now.z
    c.args.self.now.w c.first_left-l.result c.first_right-r.result = record {
      zeros = c.args.self.now.zeros;
      tops = c.args.self.now.tops;
      left = c.first_left-l.ensures;
      right = c.first_right-r.ensures;
    } in
    crossed begun c.args.self.now.table.tested _ c.zero_at_once.ensures c.if-zero_at_once.false
    c.if-l-r.true

pub search-requires : goal.search-requires
search-requires c =
    let begun : Begun c.args.self.now.table.entries.now
    c.args.self.now.z
    c.args.self.now.w c.first_left-l.result c.first_right-r.result = record {
      zeros = c.args.self.now.zeros;
      tops = c.args.self.now.tops;
      left = c.first_left-l.ensures;
      right = c.first_right-r.ensures;
    } in
    begun_ready begun c.args.self.now.table.tested c.args.v

pub tail-requires : goal.tail-requires
tail-requires c =
    let begun : Begun c.args.self.now.table.entries.now
    c.args.self.now.z
    c.args.self.now.w c.first_left-l.result c.first_right-r.result = record {
      zeros = c.args.self.now.zeros;
      tops = c.args.self.now.tops;
      left = c.first_left-l.ensures;
      right = c.first_right-r.ensures;
    } in
    record {
      table_sized = c.args.self.now.table.tested;
      above_zero =
          missed_low begun c.args.self.now.table.tested c.args.v c.zero_at_once.ensures c.if-zero_at_once.false
          c.in-Err.x c.if-l-r.false
          (sym c.in-Err.ensures);
    }

pub returns-in-Ok : goal.returns-in-Ok
returns-in-Ok c =
    let begun : Begun c.args.self.now.table.entries.now
    c.args.self.now.z
    c.args.self.now.w c.first_left-l.result c.first_right-r.result = record {
      zeros = c.args.self.now.zeros;
      tops = c.args.self.now.tops;
      left = c.first_left-l.ensures;
      right = c.first_right-r.ensures;
    } in
    hit_answer begun c.args.self.now.table.tested c.args.v c.zero_at_once.ensures c.if-zero_at_once.false
    c.in-Ok.p c.if-l-r.false
    (sym c.in-Ok.ensures)

pub returns-in-Err : goal.returns-in-Err
returns-in-Err c =
    let begun : Begun c.args.self.now.table.entries.now
    c.args.self.now.z
    c.args.self.now.w c.first_left-l.result c.first_right-r.result = record {
      zeros = c.args.self.now.zeros;
      tops = c.args.self.now.tops;
      left = c.first_left-l.ensures;
      right = c.first_right-r.ensures;
    } in
    c.tail.ensures
    ∙ missed_answer begun c.args.self.now.table.tested c.args.v c.zero_at_once.ensures
    c.if-zero_at_once.false c.in-Err.x c.if-l-r.false
    (sym c.in-Err.ensures)
