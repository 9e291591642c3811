use Rattle.groat_answers.proofs.Held.{held_more, rest_less}
use Rattle.std.proofs.Common.{rules}
use Rattle.groat_answers.proofs.inside.hold.Goals as goal

pub loop-i-preserved : goal.loop-i-preserved
loop-i-preserved g c =
    let inv = c.loop-i.invariant in (
      search rules,
      search rules,
      held_more _ _ _ c.loop-i.i c.index-list-i.result c.meaning.result
          (search rules) (search rules) (search rules) inv.2 (search rules),
      rest_less c.loop-i.room c.args.room.now c.loop-i.i c.meaning.result inv.3,
    )
