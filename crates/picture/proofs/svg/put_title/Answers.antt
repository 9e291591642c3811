-- `put_title` meets its contract: a title that is shown is at most 300 bytes long in XML. Assumes nothing.
use native.Mathlib.Omega.{arith}
use Rattle.picture.proofs.Escaping.{shown_room}
use Rattle.picture.proofs.svg.put_title.Goals as goal

pub put_escaped-requires : goal.put_escaped-requires
put_escaped-requires c =
    omega (arith, shown_room c.args.title.now c.requires.1)

pub returns : goal.returns
returns c =
    omega (arith, shown_room c.args.title.now c.requires.1)
