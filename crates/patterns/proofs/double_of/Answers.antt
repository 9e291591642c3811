-- `double_of` meets its contract: the test stops exactly the patterns of NaNs. Assumes nothing.
use mathlib.Core.Path.{◌∙◌, sym, subst}
use mathlib.Core.Bool.{Bool, not}
use Prim.Native.Nat.{◌%◌}
use lib.Arith.{le→nltb}
use lib.Dec.{T}
use lib.Ieee.{binary64}
use lib.Ieee.Bits.{nan_bits_above}
use Rattle.ieee.proofs.NoNan.{bits_nan, nan_pattern}
use Rattle.patterns.proofs.double_of.Goals as goal

pub returns-then-bits-gt9218868437227405312 : goal.returns-then-bits-gt9218868437227405312
returns-then-bits-gt9218868437227405312 c =
    bits_nan binary64 ∙ sym (nan_pattern binary64 c.args.bits c.if-bits-gt9218868437227405312.true)

pub float_from_bits-result : goal.float_from_bits-result
float_from_bits-result c =
    let b = c.args.bits in
    subst (λ (t : Bool). T (not t)) (sym (nan_bits_above binary64 b))
    (le→nltb 9218868437227405312 (b % 9223372036854775808) c.if-bits-gt9218868437227405312.false)
