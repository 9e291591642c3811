-- `number_at` meets its contract: the four bytes where the tag has the number, and 0 otherwise. Assumes nothing.
use mathlib.Core.Path.{◌∙◌, sym, ap}
use borrow.Author.Tests.{lt-ltb}
use Rattle.para.specs.Signed.{signed_of}
use Rattle.para.specs.Tag.{raw_at}
use Rattle.para.proofs.Complement.{signed_machine, held}
use Rattle.para.proofs.number_at.Goals as goal

pub returns-then-k-n : goal.returns-then-k-n
unfolding raw_at
returns-then-k-n c =
    let machine = c.cast_signed.ensures ∙ sym (signed_machine c.u32_at.result c.u32_at.type_inv) in
    held c.cast_signed.type_inv (machine ∙ ap signed_of c.u32_at.ensures
    ∙ simp (lt-ltb _ _ c.if-k-n.true))
