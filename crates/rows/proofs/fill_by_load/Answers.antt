-- `fill_by_load` meets its contract: of 65,536 entries the lookup at a position is that entry. Assumes nothing.
use Rattle.std.proofs.Common.{rules}
use Rattle.lookup.proofs.LookupLaws.{looked_up_full}
use Rattle.rows.specs.Rows.{row_at}
use Rattle.rows.proofs.fill_by_load.Goals as goal

pub returns : goal.returns
returns c =
    rw (← c.requires.out_len)
    (c.fill.ensures (row_at c.args.baked.now c.args.positions.now)
    (λ i x h p. rw (looked_up_full c.args.baked.now c.requires.baked_len) (search rules)))
