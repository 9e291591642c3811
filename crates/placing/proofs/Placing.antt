-- Density is drawn up and drive across: the ends of both scales, and that neither is ever drawn the other way round.
-- Assumes nothing.
use mathlib.Core.Path.{◌≡◌, ◌∙◌, refl, sym, ap}
use mathlib.Core.Bool.{true}
use mathlib.Core.List.{List}
use Prim.Native.Nat.{ℕ, ◌≤◌, ◌<◌}
use native.Mathlib.Omega.{arith}
use lib.ListN.{length}
use Rattle.std.specs.Prelude.{Result, Ok, Err}
use Rattle.table.specs.Sizes.{sized}
use Rattle.table.specs.Answers.{value_of_looked}
use Rattle.table.specs.declared.Drive.{Drive}
use Rattle.table.specs.declared.Density.{Density}
use Rattle.table.specs.declared.Refusal.{Refusal}
use Rattle.lookup.specs.Lookup.{looked_up}
use Rattle.lookup.specs.Promises.{LookupPromise}
use Rattle.placing.specs.Place.{density_at, row_of, column_of, drive_of, down_of}

-- the density drawn is the lookup's
pub density_is : (t : List ℕ) (p : ℕ) → sized (length t) ≡ true → density_at t p ≡ looked_up t p
unfolding density_at
density_is t p h = simp h

-- whether it is granted or refused
pub density_granted : {t : List ℕ} {p : Drive} {r : Result Density Refusal} (d : Density) → LookupPromise t p r
    → r ≡ Ok d
    → d.0 ≡ density_at t p.0
unfolding density_at
density_granted d a e = ap value_of_looked (sym e) ∙ a.value

pub density_refused : {t : List ℕ} {p : Drive} {r : Result Density Refusal} (why : Refusal) → LookupPromise t p r
    → r ≡ Err why → 0 ≡ density_at t p.0
unfolding density_at
density_refused why a e = ap value_of_looked (sym e) ∙ a.value

-- the top row is 65535's and the bottom row 0's, and a row is not above a higher density's
pub row_top : row_of 65535 ≡ 0
row_top = refl

pub row_bottom : row_of 0 ≡ 19
row_bottom = refl

pub row_falls : (d e : ℕ) → d ≤ e → row_of e ≤ row_of d
row_falls d e h = omega arith

-- the first column shows drive 0 and the last drive 65535, a later column a later drive, and each a drive of its own
pub drive_first : drive_of 0 ≡ 0
drive_first = refl

pub drive_last : drive_of 63 ≡ 65535
drive_last = refl

pub drive_rises : (c e : ℕ) → c < e → drive_of c < drive_of e
drive_rises c e h = omega arith

pub column_of_drive : (c : ℕ) → c < 64 → column_of (drive_of c) ≡ c
column_of_drive c h = omega arith

-- in the svg 65535 is at the top and 0 at the bottom, and a higher density is higher up
pub down_top : down_of 65535 ≡ 0
down_top = refl

pub down_bottom : down_of 0 ≡ 65535
down_bottom = refl

pub down_falls : (d e : ℕ) → d < e → e ≤ 65535 → down_of e < down_of d
down_falls d e h w = omega arith
