-- The promise names one answer, for refused calls too; and what it tells whoever knows the table's length. Assumes
-- nothing.
use mathlib.Core.Path.{◌≡◌, ◌∙◌, sym, ap}
use mathlib.Core.Bool.{true, false}
use mathlib.Core.List.{List}
use Prim.Native.Nat.{ℕ}
use lib.ListN.{length}
use Rattle.std.specs.Prelude.{Result, Ok, Err}
use Rattle.table.specs.Sizes.{sized}
use Rattle.table.specs.declared.Density.{Density}
use Rattle.table.specs.declared.Drive.{Drive}
use Rattle.table.specs.declared.Refusal.TheVariants.{TableLength}
use Rattle.table.specs.declared.Refusal.{Refusal}
use Rattle.table.proofs.Answers.{same_sought}
use Rattle.lookup.specs.Lookup.{looked_up}
use Rattle.lookup.specs.Promises.{LookupPromise}
use Rattle.lookup.proofs.Promises.{lookup_granted}
use Rattle.inverse_start.specs.Start.{leading_zeros, trailing_tops, zero_at_once, left_of, right_of}
use Rattle.inverse.specs.Inverse.{searched, inverted}
use Rattle.inverse.specs.Promises.{InversePromise}
use Rattle.inverse.proofs.Whole.{hit_looks_up}

pub inverse_one : {t : List ℕ} {v : Density} {r s : Result Drive Refusal} → InversePromise t v r
    → InversePromise t v s → r ≡ s
inverse_one {t} {v} {r} {s} a b = same_sought r s (a.number ∙ sym b.number) (a.value ∙ sym b.value)

-- In a table of 1 to 65,536 entries every value has an answer, the defined one. [inverse::lut_inverse_interp16]
pub inverse_granted : {t : List ℕ} {v : Density} {r : Result Drive Refusal} → sized (length t) ≡ true
    → InversePromise t v r
    → r ≡ Ok (record { 0 = inverted t v.0 })
inverse_granted {t} {v} {r} h a =
    same_sought r (Ok (record { 0 = inverted t v.0 })) (a.number ∙ simp h) (a.value ∙ simp h)

-- A table of no entry or more than 65,536 is refused with 1. [inverse::lut_inverse_interp16]
pub inverse_refused : {t : List ℕ} {v : Density} {r : Result Drive Refusal} → sized (length t) ≡ false
    → InversePromise t v r
    → r ≡ Err TableLength
inverse_refused {t} {v} {r} h a = same_sought r (Err TableLength) (a.number ∙ simp h) (a.value ∙ simp h)

-- Where the search leaves at a hit, the lookup at the answer is the value that was asked.
-- [inverse::lut_inverse_interp16]
pub hit_back : {t : List ℕ} {v : Density} {p : Drive} {s : Result Density Refusal} → sized (length t) ≡ true
    → zero_at_once v.0 (leading_zeros t) (trailing_tops t) ≡ false
    → (q : ℕ) → searched t v.0 (left_of t) (right_of t) ≡ Ok q
    → InversePromise t v (Ok p) → LookupPromise t p s → s ≡ Ok v
hit_back {t} {v} {p} {s} h e q f a b =
    let there : p.0 ≡ inverted t v.0 = a.value ∙ simp h in
    lookup_granted h b
    ∙ ap (λ (n : ℕ). Ok (record { 0 = n })) (ap (looked_up t) there ∙ hit_looks_up t h v.0 q e f)
