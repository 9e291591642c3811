-- `put_head` meets its contract: three runs of stores make the first twelve bytes. Assumes nothing.
use Rattle.para_writer.proofs.Written.{head_stored}
use Rattle.para_writer.proofs.put_head.Goals as goal

pub returns : goal.returns
returns c =
    rw (c.put_u16-2.ensures, c.put_u16.ensures, c.put_opening.ensures)
    (head_stored c.args.out.now c.args.t c.requires)
