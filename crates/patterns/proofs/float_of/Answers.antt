-- `float_of` meets its contract: the test stops exactly the patterns of NaNs. Assumes nothing.
use mathlib.Core.Path.{◌∙◌, sym, subst}
use mathlib.Core.Bool.{Bool, not}
use Prim.Native.Nat.{◌%◌}
use lib.Arith.{le→nltb}
use lib.Dec.{T}
use lib.Ieee.{binary32}
use lib.Ieee.Bits.{nan_bits_above}
use Rattle.ieee.proofs.NoNan.{bits_nan, nan_pattern}
use Rattle.patterns.proofs.float_of.Goals as goal

pub returns-then-bits-gt2139095040 : goal.returns-then-bits-gt2139095040
returns-then-bits-gt2139095040 c =
    bits_nan binary32 ∙ sym (nan_pattern binary32 c.args.bits c.if-bits-gt2139095040.true)

pub float_from_bits-result : goal.float_from_bits-result
float_from_bits-result c =
    let b = c.args.bits in
    subst (λ (t : Bool). T (not t)) (sym (nan_bits_above binary32 b))
    (le→nltb 2139095040 (b % 2147483648) c.if-bits-gt2139095040.false)
