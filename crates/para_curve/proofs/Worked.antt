-- Worked examples, by computation: tags read as curves. Assumes nothing.
use mathlib.Core.Path.{refl}
use mathlib.Core.List.{[], ◌∷◌}
use lib.Ieee.{binary32, of_bits, round, neg, div}
use Rattle.std.specs.Prelude.{Ok, Err}
use Rattle.table.specs.Fill.{tabulated}
use Rattle.table.specs.declared.Refusal.TheVariants.{TagLength}
use Rattle.icc.specs.Bytes.{be16, be32}
use Rattle.rounding.specs.Nearest.{ratio}
use Rattle.parametric.specs.Unify.{unified}
use Rattle.para.specs.Signed.{signed_of}
use Rattle.para.specs.Tag.{count_of, raw_at}
use Rattle.para.specs.Promises.{tag_verdict}
use Rattle.para.proofs.Worked.{begun, three}
use Rattle.para_curve.specs.Promises.{CurvePromise}

-- Read as a curve: 2, 1 and -0.5, and so d = 0.5. A number that no f32 holds is rounded to the even one of its two
-- nearest.
three_curve : CurvePromise three (Ok (record {
  g = of_bits binary32 0x4000_0000;
  a = of_bits binary32 0x3f80_0000;
  b = of_bits binary32 0xbf00_0000;
  c = of_bits binary32 0;
  d = of_bits binary32 0x3f00_0000;
  e = of_bits binary32 0;
  f = of_bits binary32 0;
}))
unfolding tag_verdict be16 be32 count_of raw_at signed_of tabulated unified ratio of_bits round neg div
three_curve = record { number = refl; value = refl }

tied_curve : CurvePromise (begun 0 (1 ∷ 0 ∷ 0 ∷ 1 ∷ [])) (Ok (record {
  g = of_bits binary32 0x4380_0000;
  a = of_bits binary32 0x3f80_0000;
  b = of_bits binary32 0;
  c = of_bits binary32 0;
  d = of_bits binary32 0;
  e = of_bits binary32 0;
  f = of_bits binary32 0;
}))
unfolding tag_verdict be16 be32 count_of raw_at signed_of tabulated unified ratio of_bits round
tied_curve = record { number = refl; value = refl }

refused_curve : CurvePromise [] (Err TagLength)
unfolding tag_verdict
refused_curve = record { number = refl; value = refl }
