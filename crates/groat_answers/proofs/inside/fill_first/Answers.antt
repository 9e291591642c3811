use Rattle.std.proofs.Common.{refl, ap, ◌++◌}
use Rattle.std.proofs.lemmas.List.{take_min, drop_min}
use Rattle.groat_answers.proofs.inside.fill_first.Goals as goal

pub returns : goal.returns
returns g c = (
  c.fill.new.arg2,
  record {
    shown = _;
    shows = rw c.min-n.ensures (take_min c.args.n c.args.room.now);
    left = _;
    met = c.fill.ensures;
    leaves = refl;
  },
  rw c.min-n.ensures (ap (λ z. c.fill.new.arg2 ++ z) (drop_min c.args.n c.args.room.now)),
)
