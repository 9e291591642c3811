-- `four_reaching` meets its contract: a step halves what is left of each search. Assumes nothing.
use native.Mathlib.Omega.{arith}
use Rattle.least.proofs.Tables.{searchable, searchable_few}
use Rattle.least_row.proofs.Abreast.{searching_start, searching_left, searching_room}
use Rattle.least_row.proofs.Abreast.{searching_more, searching_end}
use Rattle.least_row.proofs.four.four_reaching.Goals as goal

pub loop-left-init : goal.loop-left-init
loop-left-init c =
    searching_start (searchable c.args.table.size c.args.table.order c.top-left.ensures)

pub overflow_add-left : goal.overflow_add-left
overflow_add-left c =
    omega (
      arith,
      searching_left (searchable c.args.table.size c.args.table.order c.top-left.ensures)
          c.loop-left.invariant,
    )

pub all_closer-further-requires-clause-few : goal.all_closer-further-requires-clause-few
all_closer-further-requires-clause-few c =
    let l = c.loop-left.invariant in
    let few = searchable_few (searchable c.args.table.size c.args.table.order c.top-left.ensures) in
    omega (arith, c.top-left.ensures)

pub all_closer-further-requires-clause-within : goal.all_closer-further-requires-clause-within
all_closer-further-requires-clause-within c =
    let l = c.loop-left.invariant in
    let few = searchable_few (searchable c.args.table.size c.args.table.order c.top-left.ensures) in
    searching_room (searchable c.args.table.size c.args.table.order c.top-left.ensures) l (omega arith)

pub loop-left-preserved : goal.loop-left-preserved
loop-left-preserved c =
    searching_more (searchable c.args.table.size c.args.table.order c.top-left.ensures)
    c.loop-left.invariant (omega arith) c.all_closer-further.ensures

pub returns : goal.returns
returns c =
    searching_end (searchable c.args.table.size c.args.table.order c.top-left.ensures)
    c.loop-left.invariant (omega arith)
