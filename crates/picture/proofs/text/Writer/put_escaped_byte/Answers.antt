-- `put_escaped_byte` meets its contract, case by case. Assumes nothing.
use native.Mathlib.Omega.{arith}
use Rattle.picture.proofs.Escaping.{width_and, width_less, width_more, width_plain}
use Rattle.picture.proofs.text.Writer.put_escaped_byte.Goals as goal

pub put-requires : goal.put-requires
put-requires c =
    omega (arith, width_and _ c.in-38.is)

pub returns-in-38 : goal.returns-in-38
returns-in-38 c =
    omega (arith, width_and _ c.in-38.is)

pub put-requires-in-60 : goal.put-requires-in-60
put-requires-in-60 c =
    omega (arith, width_less _ c.in-60.is)

pub returns-in-60 : goal.returns-in-60
returns-in-60 c =
    omega (arith, width_less _ c.in-60.is)

pub put-requires-in-62 : goal.put-requires-in-62
put-requires-in-62 c =
    omega (arith, width_more _ c.in-62.is)

pub returns-in-62 : goal.returns-in-62
returns-in-62 c =
    omega (arith, width_more _ c.in-62.is)

pub put_byte-requires : goal.put_byte-requires
put_byte-requires c =
    omega (arith, width_plain c.args.b (λ e. omega arith) (λ e. omega arith) (λ e. omega arith))

pub returns-in_default : goal.returns-in_default
returns-in_default c =
    omega (arith, width_plain c.args.b (λ e. omega arith) (λ e. omega arith) (λ e. omega arith))
