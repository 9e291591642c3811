-- `lookup_to` meets its contract: a position is within the steps of the table, and halves of its steps tell where they
-- land. Assumes nothing.
use mathlib.Core.Path.{◌∙◌, refl}
use Prim.Native.Nat.{◌*◌, ◌≤◌}
use native.Mathlib.Nat.{mul-le-mul_right}
use native.Mathlib.Omega.{arith}
use Rattle.lookup.proofs.Halves.{after_le, quotient_read}
use Rattle.lookup.proofs.LookupLaws.{looked_up_read}
use Rattle.lookup.proofs.inside.lookup_to.Goals as goal

pub entry-requires : goal.entry-requires
entry-requires c =
    let inside : c.wide.result * c.args.top ≤ c.args.top * 65535 =
    omega (arith, mul-le-mul_right c.args.top c.wide.ensures.1) in
    omega (arith, c.next_if-upper.ensures, after_le c.args.top _ c.requires.1 inside, c.requires.0)

pub returns : goal.returns
returns c =
    let inside : c.wide.result * c.args.top ≤ c.args.top * 65535 =
    omega (arith, mul-le-mul_right c.args.top c.wide.ensures.1) in
    let small : c.wide.result * c.args.top ≤ 65535 * 65535 = omega (arith, inside) in
    let sum_le : c.mix-sum.result ≤ 65535 * 4294967295 = omega (arith, small, c.mix-sum.ensures.1) in
    quotient_read _ _ c.requires.1 inside _ c.next_if-upper.ensures
    c.entry.ensures.0 c.entry-2.ensures.0 c.mix-sum.ensures.0 sum_le
    ∙ looked_up_read c.args.table.now _ _ c.requires.0 c.wide.ensures.0 refl
