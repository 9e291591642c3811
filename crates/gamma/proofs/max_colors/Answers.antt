-- `max_colors` meets its contract: 2 to a power of at most 16 does not wrap. Assumes nothing.
use mathlib.Core.Path.{◌≡◌, refl}
use Prim.Native.Nat.{◌*◌, ◌%◌, ◌^◌}
use native.Mathlib.Nat.{one-mul, mod-eq_of_lt}
use native.Mathlib.Omega.{arith}
use Rattle.gamma.proofs.Laws.{power_low, power_high}
use Rattle.gamma.proofs.max_colors.Goals as goal

pub returns : goal.returns
returns c =
    let shifted : 1 * 2 ^ c.args.depth % 2 ^ 64 ≡ 2 ^ c.args.depth =
    rw one-mul (mod-eq_of_lt (omega (arith, power_high c.args.depth c.requires.1))) in
    rw shifted (
      refl,
      omega (arith, power_low c.args.depth c.requires.0),
      omega (arith, power_high c.args.depth c.requires.1),
    )
