-- `fill_passthrough` meets its contract: what is filled in is the rule's entry, and each index fits a float. Assumes
-- nothing.
use native.Mathlib.Omega.{arith}
use lib.ListN.{length}
use lib.Dec.{T}
use lib.IntN.{pos}
use Prim.Native.Nat.{◌≤◌}
use Rattle.std.proofs.Common.{rules}
use Rattle.passthrough.specs.Passed.{passed}
use lib.Ieee.{binary64, in_float}
use Rattle.table.proofs.Sizes.{within_low, within_high}
use Rattle.ieee.proofs.Range.{in_float_lem}
use Rattle.passthrough.proofs.Promises.{passed_gives}
use Rattle.passthrough.proofs.fill_passthrough.Goals as goal

pub overflow_sub-scale_value : goal.overflow_sub-scale_value
overflow_sub-scale_value c =
    omega (arith, within_low 2 65536 _ c.requires)

pub int_to_float-scale_value : goal.int_to_float-scale_value
int_to_float-scale_value c =
    in_float_lem binary64 _ (omega (arith, within_high 2 65536 _ c.requires))

pub fill-requires : goal.fill-requires
fill-requires c i h =
    let few : i ≤ 65536 = omega (arith, within_high 2 65536 _ c.requires) in
    let exact : T (in_float binary64 (pos i)) = in_float_lem binary64 i few in
    search (rules, exact)

pub returns : goal.returns
returns c =
    c.fill.ensures (passed (length c.args.output.now)) (λ i x h p. passed_gives _ i x (search rules))
