-- The f32 nearest to an f64 and to a fixed-point number, ties to even: the kit's `round` of the exact value. Assumes
-- nothing.
use Rattle.std.specs.Prelude.{◌≡◌, ℕ, suc, ◌*◌, true, false, ℤ, pos, negsuc, Float}
use Rattle.std.specs.Float.{nan, inf, fin, binary32}
use Rattle.std.specs.Float.Ieee.{up, down, round}
use Rattle.std.specs.Float.Ieee.Exact.{HasValue}

-- x as f32: a NaN is a NaN, an infinity the same infinity, and the number m * 2 ^ e the f32 nearest to it
unfoldable pub narrow : Float → Float
narrow nan = nan
narrow (inf s) = inf s
narrow (fin s m e) = round binary32 s (m * up e) (down e)

-- the f32 nearest to z / d
unfoldable pub ratio : ℤ → ℕ → Float
ratio (pos n) d = round binary32 false n d
ratio (negsuc n) d = round binary32 true (suc n) d

pub record NarrowPromise (x r : Float) : Type 0 where
  pub value : r ≡ narrow x

-- x / 256, and exactly that
pub record U8Fixed8Promise (x : ℕ) (r : Float) : Type 0 where
  pub value : r ≡ ratio (pos x) 256
  pub exact : HasValue r false x 256

-- the f32 nearest to x / 65536
pub record S15Fixed16Promise (x : ℤ) (r : Float) : Type 0 where
  pub value : r ≡ ratio x 65536
