-- `nearest_f64_to_f32` meets its promise: the pattern is the sign's bit and what `magnitude` makes of the two fields,
-- which are x's own. Assumes nothing.
use borrow.Author.Tests.{le-leb, lt-leb}
use mathlib.Core.Path.{sym, subst}
use mathlib.Core.Bool.{true, false, not}
use Prim.Native.Nat.{ℕ}
use native.Mathlib.Nat.{zero-add}
use lib.Dec.{T}
use lib.Ieee.{binary32, binary64, fits, nan_bits, of_bits, to_bits}
use Rattle.ieee.proofs.Tests.{not_nan}
use Rattle.rounding.specs.Nearest.{NarrowPromise}
use Rattle.rounding.proofs.Narrow.{fields_asked, narrowed, narrow_nan, no_nan_pattern}
use Rattle.rounding.proofs.nearest_f64_to_f32.Goals as goal

pub returns-then-x : goal.returns-then-x
returns-then-x c =
    narrow_nan c.args.x c.if-x.true

pub float_to_bits-bits : goal.float_to_bits-bits
float_to_bits-bits c =
    not_nan c.args.x c.if-x.false

pub magnitude-pattern-requires-clause-no_nan : goal.magnitude-pattern-requires-clause-no_nan
magnitude-pattern-requires-clause-no_nan c =
    let held : T (fits binary64 c.args.x) = subst T (sym c.well_formed.0.1) tt in
    (fields_asked c.args.x held c.if-x.false).1.1

pub float_from_bits-result : goal.float_from_bits-result
float_from_bits-result c =
    no_nan_pattern true c.magnitude-pattern.result c.magnitude-pattern.ensures.in_range

pub returns-then-bits-ge9223372036854775808 : goal.returns-then-bits-ge9223372036854775808
returns-then-bits-ge9223372036854775808 c =
    let held : T (fits binary64 c.args.x) = subst T (sym c.well_formed.0.1) tt in
    let x = c.args.x in
    narrowed x held c.if-x.false true c.magnitude-pattern.result
    (le-leb 9223372036854775808 (to_bits binary64 x) c.if-bits-ge9223372036854775808.true)
    c.magnitude-pattern.ensures.nearest

pub float_from_bits-result-2 : goal.float_from_bits-result-2
float_from_bits-result-2 c =
    let m = c.magnitude-pattern.result in
    subst (λ (z : ℕ). T (not (nan_bits binary32 z))) (zero-add m)
    (no_nan_pattern false m c.magnitude-pattern.ensures.in_range)

pub returns : goal.returns
returns c =
    let held : T (fits binary64 c.args.x) = subst T (sym c.well_formed.0.1) tt in
    let x = c.args.x in
    let m = c.magnitude-pattern.result in
    subst (λ (z : ℕ). NarrowPromise x (of_bits binary32 z)) (zero-add m)
    (narrowed x held c.if-x.false false m
    (lt-leb 9223372036854775808 (to_bits binary64 x) c.if-bits-ge9223372036854775808.false)
    c.magnitude-pattern.ensures.nearest)
