-- `curve` meets its contract: the rule's test, computed over the whole constant. Assumes nothing.
use mathlib.Core.Path.{refl}
use Rattle.house.proofs.Tested.{tested}
use Rattle.house.proofs.entries.curve.Goals as goal

pub returns : goal.returns
returns c =
    tested _ refl
