-- `fill_inverted` meets its contract: what is filled in is the inverse of what is asked, and each question is 16 bits
-- wide. Assumes nothing.
use mathlib.Core.Path.{◌≡◌}
use Prim.Native.Nat.{ℕ, ◌-◌, ◌≤◌, ◌<◌}
use native.Mathlib.Omega.{arith}
use lib.Dec.{T}
use lib.IntN.{pos}
use lib.ListN.{length}
use lib.Ieee.{binary64, in_float}
use Rattle.std.proofs.Common.{rules}
use Rattle.table.proofs.Sizes.{within_low, within_high}
use Rattle.ieee.proofs.Range.{in_float_lem}
use Rattle.rounding.specs.Cut.{FloorPromise}
use Rattle.invert.specs.Invert.{asked, inverted_at}
use Rattle.invert.proofs.Questions.{question, question_asks, question_small, question_asked}
use Rattle.invert.proofs.fill_inverted.Goals as goal

pub overflow_sub-scale : goal.overflow_sub-scale
overflow_sub-scale c =
    let two : 2 ≤ length c.args.out.now = within_low 2 65536 _ c.requires in
    omega (arith, two)

pub int_to_float-scale : goal.int_to_float-scale
int_to_float-scale c =
    let most : length c.args.out.now ≤ 65536 = within_high 2 65536 _ c.requires in
    let k : length c.args.out.now - 1 ≤ 65536 = omega (arith, most) in
    in_float_lem binary64 _ k

pub fill-requires : goal.fill-requires
fill-requires c i inside =
    let two : 2 ≤ length c.args.out.now = within_low 2 65536 _ c.requires in
    let most : length c.args.out.now ≤ 65536 = within_high 2 65536 _ c.requires in
    let few : i ≤ 65536 = omega (arith, inside, most) in
    let exact : T (in_float binary64 (pos i)) = in_float_lem binary64 i few in
    let asks = question_asks (length c.args.out.now) i two most inside in
    let small : (r : ℕ) → FloorPromise (question (length c.args.out.now) i two most inside) r → r < 65536 =
    λ r p. omega (arith, question_small (length c.args.out.now) i two most inside p) in
    search (rules, exact, asks, small)

pub returns : goal.returns
returns c =
    let two : 2 ≤ length c.args.out.now = within_low 2 65536 _ c.requires in
    let most : length c.args.out.now ≤ 65536 = within_high 2 65536 _ c.requires in
    let t = c.args.table.entries.now in
    let m = length c.args.out.now in
    c.fill.ensures (inverted_at t m)
    (λ i x inside p.
    let asked_so : (r : ℕ) → FloorPromise (question m i two most inside) r → r ≡ asked m i =
    λ r f. question_asked m i two most inside f in
    search (rules, asked_so, c.of-counted.ensures))
