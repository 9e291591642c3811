-- A parametric curve unified from 1, 3, 4, 5 or 7 parameters, as document 01 has it. Assumes nothing.
use Rattle.std.specs.Prelude.{ℕ, Bool, true, List, length, get_or, eqb, Float}
use Rattle.std.specs.Float.{nan, binary32}
use Rattle.std.specs.Float.Ieee.{neg, div}
use Rattle.table.specs.Choice.{pick}
use Rattle.ieee.specs.Range.{nought, one}
use Rattle.parametric.specs.declared.ParametricCurve.{ParametricCurve}

-- d = -b/a, an f32 step: an infinity or a NaN where a is 0
abbrev pub crossing : Float → Float → Float
crossing a b = div binary32 (neg b) a

-- one gives a = 1, the rest 0
abbrev pub of_one : Float → ParametricCurve
of_one g = record { g = g; a = one; b = nought; c = nought; d = nought; e = nought; f = nought }

-- three set c = 0, d = -b/a and e = f = 0
abbrev pub of_three : Float → Float → Float → ParametricCurve
of_three g a b = record { g = g; a = a; b = b; c = nought; d = crossing a b; e = nought; f = nought }

-- four set c = 0, d = -b/a, and e = f = its last
abbrev pub of_four : Float → Float → Float → Float → ParametricCurve
of_four g a b last = record { g = g; a = a; b = b; c = nought; d = crossing a b; e = last; f = last }

-- five set e = f = 0
abbrev pub of_five : Float → Float → Float → Float → Float → ParametricCurve
of_five g a b c d = record { g = g; a = a; b = b; c = c; d = d; e = nought; f = nought }

-- the parameter at k
abbrev pub parameter : List Float → ℕ → Float
parameter l k = get_or l k nan

-- and seven are the curve's own
abbrev pub of_seven : List Float → ParametricCurve
of_seven l = record {
  g = parameter l 0;
  a = parameter l 1;
  b = parameter l 2;
  c = parameter l 3;
  d = parameter l 4;
  e = parameter l 5;
  f = parameter l 6;
}

-- 1, 3, 4, 5 or 7
unfoldable pub counted : ℕ → Bool
counted n = pick (eqb n 1) true (pick (eqb n 3) true (pick (eqb n 4) true (pick (eqb n 5) true (eqb n 7))))

-- the curve of a list of so many
unfoldable pub unified : List Float → ParametricCurve
unified l =
    pick (eqb (length l) 1) (of_one (parameter l 0))
    (pick (eqb (length l) 3) (of_three (parameter l 0) (parameter l 1) (parameter l 2))
    (pick (eqb (length l) 4) (of_four (parameter l 0) (parameter l 1) (parameter l 2) (parameter l 3))
    (pick (eqb (length l) 5) (of_five (parameter l 0) (parameter l 1) (parameter l 2) (parameter l 3) (parameter l 4))
    (of_seven l))))
