-- `put_head` meets its contract: two runs of stores make the first twelve bytes. Assumes nothing.
use Rattle.curv_writer.proofs.Written.{head_stored}
use Rattle.curv_writer.proofs.put_head.Goals as goal

pub returns : goal.returns
returns c =
    rw (c.put_u32.ensures, c.put_opening.ensures)
    (head_stored c.args.out.now c.args.n c.requires)
