-- No digit is lost: the number's bits, as many as it has after its leading zeros, fit the digits. Assumes nothing.
use Rattle.std.proofs.Common.{◌*◌, ◌≤◌, arith}
use Rattle.std.proofs.Math.Pow.{pow_mono}
use Rattle.std.proofs.lemmas.Nat.{leading_length}
use Rattle.groat_lines.proofs.streams.hex_width.Goals as goal

pub returns-clause-whole : goal.returns-clause-whole
returns-clause-whole c =
    let length = leading_length 64 c.args.n c.ranges.n.fits in
    let bits = length.0 in
    let room : bits ≤ 4 * c.clamp.result = omega (arith, length.1, c.clamp.ensures, c.max.ensures) in
    omega (arith, length.2, pow_mono room)
