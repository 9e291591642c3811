-- `put_opening` meets its contract: two numbers stored are the opening. Assumes nothing.
use Rattle.icc.proofs.Stores.{opening_stored}
use Rattle.icc.proofs.inside.put_opening.Goals as goal

pub returns : goal.returns
returns c =
    rw (c.put_u32-2.ensures, c.put_u32.ensures) (opening_stored _ _)
