-- The promise can be met (`lookup_some`) and names one answer, for a refused call too; and what it tells whoever knows
-- the table's length. Assumes nothing.
use mathlib.Core.Path.{◌≡◌, ◌∙◌, sym}
use mathlib.Core.Bool.{true, false}
use mathlib.Core.List.{List}
use Prim.Native.Nat.{ℕ}
use lib.ListN.{length}
use Rattle.std.specs.Prelude.{Result, Ok, Err}
use Rattle.table.specs.Sizes.{sized}
use Rattle.table.specs.declared.Drive.{Drive}
use Rattle.table.specs.declared.Refusal.TheVariants.{TableLength}
use Rattle.table.specs.declared.Density.{Density}
use Rattle.table.specs.declared.Refusal.{Refusal}
use Rattle.table.proofs.Answers.{same_looked, looked_by, looked_number, looked_value}
use Rattle.lookup.specs.Lookup.{looked_up}
use Rattle.lookup.specs.Promises.{lookup_verdict, LookupPromise}

-- The promise can be kept. [lookup::lut_interp_linear16]
pub lookup_some : (t : List ℕ) (p : Drive) → LookupPromise t p (looked_by (lookup_verdict t) (looked_up t p.0))
lookup_some t p = record { number = looked_number (lookup_verdict t) _; value = looked_value (lookup_verdict t) _ }

pub lookup_one : {t : List ℕ} {p : Drive} {r s : Result Density Refusal} → LookupPromise t p r
    → LookupPromise t p s → r ≡ s
lookup_one {t} {p} {r} {s} a b = same_looked r s (a.number ∙ sym b.number) (a.value ∙ sym b.value)

-- A table of 1 to 65,536 entries is looked up. [lookup::lut_interp_linear16]
pub lookup_granted : {t : List ℕ} {p : Drive} {r : Result Density Refusal} → sized (length t) ≡ true
    → LookupPromise t p r
    → r ≡ Ok (record { 0 = looked_up t p.0 })
lookup_granted {t} {p} {r} h a =
    same_looked r (Ok (record { 0 = looked_up t p.0 })) (a.number ∙ simp h) (a.value ∙ simp h)

-- A table of no entry or more than 65,536 is refused with 1. [lookup::lut_interp_linear16]
pub lookup_refused : {t : List ℕ} {p : Drive} {r : Result Density Refusal} → sized (length t) ≡ false
    → LookupPromise t p r
    → r ≡ Err TableLength
lookup_refused {t} {p} {r} h a = same_looked r (Err TableLength) (a.number ∙ simp h) (a.value ∙ simp h)
