-- Document 01's "Numbers on both sides", in its order: each is the answer that the public promise names. The laws
-- `..-one` say that the promise names no other. Assumes nothing.
use Rattle.std.specs.Prelude.{ℕ, [], ◌∷◌, Result, Ok, Err}
use Rattle.table.specs.declared.Drive.{Drive}
use Rattle.table.specs.declared.Density.{Density}
use Rattle.table.specs.declared.Refusal.TheVariants.{AboveLast}
use Rattle.table.specs.declared.Refusal.{Refusal}
use Rattle.lookup.specs.Promises.{LookupPromise}
use Rattle.gamma.specs.Promises.{GammaPromise}
use Rattle.curve.specs.Promises.{sitting_on, StartPromise}
use Rattle.least.specs.Promises.{LeastPromise}
use Rattle.inverse.specs.Promises.{InversePromise}

abbrev pub drive : ℕ → Drive
drive p = record { 0 = p }

abbrev pub density : ℕ → Density
density v = record { 0 = v }

abbrev pub sample : ℕ → Result Density Refusal
sample v = Ok (density v)

abbrev pub position : ℕ → Result Drive Refusal
position p = Ok (drive p)

pub record Thirteen : Type 0 where
  -- [0, 65535], position 12345: lookup 12345
  pub case_1 : LookupPromise (0 ∷ 65535 ∷ []) (drive 12345) (sample 12345)
  -- [1000]: lookup 1000 at 65535
  pub case_2 : LookupPromise (1000 ∷ []) (drive 65535) (sample 1000)
  -- [0, 100, 65535]: lookup 99 at 32767
  pub case_3 : LookupPromise (0 ∷ 100 ∷ 65535 ∷ []) (drive 32767) (sample 99)
  -- the same: 100 at 32768
  pub case_4 : LookupPromise (0 ∷ 100 ∷ 65535 ∷ []) (drive 32768) (sample 100)
  -- [65535, 0]: lookup 65534 at 1
  pub case_5 : LookupPromise (65535 ∷ 0 ∷ []) (drive 1) (sample 65534)
  -- [0, 100, 65535]: lut_inverse_interp16 of 0 is 255
  pub case_6 : InversePromise (0 ∷ 100 ∷ 65535 ∷ []) (density 0) (position 255)
  -- the same table: least input of 0 is 0
  pub case_7 : LeastPromise (0 ∷ 100 ∷ 65535 ∷ []) (density 0) (position 0)
  -- least input of 100 is 32768
  pub case_8 : LeastPromise (0 ∷ 100 ∷ 65535 ∷ []) (density 100) (position 32768)
  -- least input of 65534 is 65535
  pub case_9 : LeastPromise (0 ∷ 100 ∷ 65535 ∷ []) (density 65534) (position 65535)
  -- [10, 20]: least input of 21 is refusal 5
  pub case_10 : LeastPromise (10 ∷ 20 ∷ []) (density 21) (Err AboveLast)
  -- [65535, 65535]: lut_inverse_interp16 of 7 is 0
  pub case_11 : InversePromise (65535 ∷ 65535 ∷ []) (density 7) (position 0)
  -- [0, 65535], N = 2, depth 10, input 1: gamma lookup 1024
  pub case_12 : GammaPromise (0 ∷ 65535 ∷ []) 2 10 1 (Ok 1024)
  -- start with 3 entries, whatever they hold: 0, 32768, 65535
  pub case_13 : (a b c : ℕ) → StartPromise (sitting_on (a ∷ b ∷ c ∷ [])) (Ok tt) (sitting_on (0 ∷ 32768 ∷ 65535 ∷ []))
