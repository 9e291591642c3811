-- A refused answer has 0 in every field but the refusal's number. Assumes nothing.
use Prim.Native.Nat.{ℕ}
use mathlib.Core.Path.{◌≡◌, refl, sym, ap, ◌∙◌}
use mathlib.Core.Bool.{false}
use mathlib.Core.List.{List}
use mathlib.Core.Logic.{◌⊎◌, inl, inr, ⊎_elim}
use denote.Ref.{Bor}
use Rattle.std.specs.Prelude.{Bool, true, Result, Ok, Err, Float}
use Rattle.table.specs.declared.Density.{Density}
use Rattle.table.specs.declared.Drive.{Drive}
use Rattle.table.specs.declared.Refusal.{Refusal}
use Rattle.ieee.specs.Range.{nought}
use Rattle.parametric.specs.Promises.{no_curve}
use Rattle.parametric.specs.declared.ParametricCurve.{ParametricCurve}
use Rattle.monotonic.specs.declared.Monotonic.{Monotonic}
use Rattle.para.specs.Answers.{no_numbers}
use Rattle.para.specs.declared.Numbers.{Numbers}
use Rattle.plain_answers.specs.declared.Sample.{Sample}
use Rattle.plain_answers.specs.declared.Position.{Position}
use Rattle.plain_answers.specs.declared.Code.{Code}
use Rattle.plain_answers.specs.declared.Real.{Real}
use Rattle.plain_answers.specs.declared.Parametric.{Parametric}
use Rattle.plain_answers.specs.declared.Monotony.{Monotony}
use Rattle.plain_answers.specs.declared.Degeneration.{Degeneration}
use Rattle.plain_answers.specs.declared.Count.{Count}
use Rattle.brassgroat.specs.declared.curv_tags.Part.{Part}
use Rattle.plain_answers.specs.declared.Para.{Para}
use Rattle.brassgroat.specs.Carried.{Carried, PartCarried}
use Rattle.plain_answers.specs.Answers.{as_sample, as_position, as_code, as_real, as_parametric, as_monotony}
use Rattle.plain_answers.specs.Answers.{as_degeneration}
use Rattle.plain_answers.specs.Answers.{as_count, as_para}
use Rattle.brassgroat.proofs.Parts.{part_refused}
use Rattle.brassgroat.proofs.One.{part_carried_one}

-- Where each answer of the library is either granted or has nothing in its other places, so it is with what crosses.
module _ {L R : Type 0} {places : L → R} {promise : L → Type 0} {r : R} (number : R → ℕ) (bare : ℕ → R)
    (each : (l : L) → (number (places l) ≡ 0) ⊎ (places l ≡ bare (number (places l)))) where
  -- Where each answer of a kind is granted or bare, a refused one is bare: its number, and 0 in every other place.
  -- [brassgroat]
  pub bare_refused : Carried places promise r → (number r ≡ 0 → ⊥) → r ≡ bare (number r)
  bare_refused c some =
      ⊎_elim
      (λ e. absurd (some (ap number c.same ∙ e)))
      (λ e. c.same ∙ e ∙ ap (λ (x : R). bare (number x)) (sym c.same))
      (each c.answer)

-- Of a Result it is enough that every granted answer has no number, and every refused one is bare.
module _ {A R : Type 0} {places : Result A Refusal → R} {promise : Result A Refusal → Type 0} {r : R} (number : R → ℕ)
    (bare : ℕ → R) (granted : (a : A) → number (places (Ok a)) ≡ 0)
    (refused : (why : Refusal) → places (Err why) ≡ bare (number (places (Err why)))) where
  result_refused : Carried places promise r → (number r ≡ 0 → ⊥) → r ≡ bare (number r)
  result_refused = bare_refused number bare each
    where
      each : (l : Result A Refusal) → (number (places l) ≡ 0) ⊎ (places l ≡ bare (number (places l)))
      each (Ok a) = inl (granted a)
      each (Err why) = inr (refused why)

-- What is left of each kind of answer.
abbrev pub bare_sample : ℕ → Sample
bare_sample n = record { refusal = n; density = record { 0 = 0 } }

abbrev pub bare_position : ℕ → Position
bare_position n = record { refusal = n; drive = record { 0 = 0 } }

abbrev pub bare_code : ℕ → Code
bare_code n = record { refusal = n; code = 0 }

abbrev pub bare_real : ℕ → Real
bare_real n = record { refusal = n; value = nought }

abbrev pub bare_parametric : ℕ → Parametric
bare_parametric n = record { refusal = n; curve = no_curve }

abbrev pub bare_monotony : ℕ → Monotony
bare_monotony n = record { refusal = n; yes = false; violations = 0 }

abbrev pub bare_degeneration : ℕ → Degeneration
bare_degeneration n = record { refusal = n; yes = false }

abbrev pub bare_count : ℕ → Count
bare_count n = record { refusal = n; entries = 0 }

abbrev pub bare_para : ℕ → Para
bare_para n = record { refusal = n; count = 0; numbers = no_numbers }

-- A refused sample has 0 in every other place. [brassgroat]
pub sample_refused : {promise : Result Density Refusal → Type 0} {r : Sample} → Carried as_sample promise r
    → (r.refusal ≡ 0 → ⊥)
    → r ≡ bare_sample r.refusal
sample_refused = result_refused (λ (x : Sample). x.refusal) bare_sample (λ a. refl) (λ why. refl)

-- A refused position has 0 in every other place. [brassgroat]
pub position_refused : {promise : Result Drive Refusal → Type 0} {r : Position} → Carried as_position promise r
    → (r.refusal ≡ 0 → ⊥)
    → r ≡ bare_position r.refusal
position_refused = result_refused (λ (x : Position). x.refusal) bare_position (λ a. refl) (λ why. refl)

-- A refused code has 0 in every other place. [brassgroat]
pub code_refused : {promise : Result ℕ Refusal → Type 0} {r : Code} → Carried as_code promise r → (r.refusal ≡ 0 → ⊥)
    → r ≡ bare_code r.refusal
code_refused = result_refused (λ (x : Code). x.refusal) bare_code (λ a. refl) (λ why. refl)

-- A refused float has 0 in every other place. [brassgroat]
pub real_refused : {promise : Result Float Refusal → Type 0} {r : Real} → Carried as_real promise r
    → (r.refusal ≡ 0 → ⊥)
    → r ≡ bare_real r.refusal
real_refused = result_refused (λ (x : Real). x.refusal) bare_real (λ a. refl) (λ why. refl)

-- A refused curve has 0 in every other place. [brassgroat]
pub parametric_refused : {promise : Result ParametricCurve Refusal → Type 0} {r : Parametric}
    → Carried as_parametric promise r
    → (r.refusal ≡ 0 → ⊥) → r ≡ bare_parametric r.refusal
parametric_refused = result_refused (λ (x : Parametric). x.refusal) bare_parametric (λ a. refl) (λ why. refl)

-- A refused verdict on monotony has 0 in every other place. [brassgroat]
pub monotony_refused : {promise : Result Monotonic Refusal → Type 0} {r : Monotony} → Carried as_monotony promise r
    → (r.refusal ≡ 0 → ⊥) → r ≡ bare_monotony r.refusal
monotony_refused = result_refused (λ (x : Monotony). x.refusal) bare_monotony (λ a. refl) (λ why. refl)

-- A refused verdict on degeneration has 0 in every other place. [brassgroat]
pub degeneration_refused : {promise : Result Bool Refusal → Type 0} {r : Degeneration}
    → Carried as_degeneration promise r
    → (r.refusal ≡ 0 → ⊥) → r ≡ bare_degeneration r.refusal
degeneration_refused = result_refused (λ (x : Degeneration). x.refusal) bare_degeneration (λ a. refl) (λ why. refl)

-- A refused count has 0 in every other place. [brassgroat]
pub count_refused : {promise : Result ℕ Refusal → Type 0} {r : Count} → Carried as_count promise r → (r.refusal ≡ 0 → ⊥)
    → r ≡ bare_count r.refusal
count_refused = result_refused (λ (x : Count). x.refusal) bare_count (λ a. refl) (λ why. refl)

-- A refused para tag has 0 in every other place. [brassgroat]
pub para_refused : {promise : Result (ℕ × Numbers) Refusal → Type 0} {r : Para} → Carried as_para promise r
    → (r.refusal ≡ 0 → ⊥)
    → r ≡ bare_para r.refusal
para_refused = result_refused (λ (x : Para). x.refusal) bare_para (λ a. refl) (λ why. refl)

-- A refused part of a tag has 0 in every other place. [brassgroat]
pub part_bare : {tag : Bor (List ℕ)} {r : Part} → PartCarried tag r → (r.refusal ≡ 0 → ⊥)
    → r ≡ record { refusal = r.refusal; start = 0; len = 0 }
part_bare c some = part_carried_one c (part_refused c.kept some)
