-- `put_number` meets its contract: a number below 100,000 has one to five digits. Assumes nothing.
use borrow.Author.Rules.{rules}
use Rattle.std.proofs.lemmas.Fmt.{decimal_nonempty, length-decimal-le}
use Rattle.picture.proofs.text.Writer.put_number.Goals as goal

pub put-requires : goal.put-requires
put-requires c =
    search (rules, length-decimal-le 5)

pub returns : goal.returns
returns c =
    search (rules, length-decimal-le 5, decimal_nonempty)
