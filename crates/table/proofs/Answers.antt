-- An answer's number and value tell the whole answer, so a promise of both names one answer; and the answer that a
-- call's tests lead to. Assumes nothing.
use mathlib.Core.Path.{◌≡◌, ◌∙◌, refl, sym, ap}
use Prim.Native.Nat.{ℕ}
use native.Mathlib.Omega.{arith}
use Rattle.std.specs.Prelude.{Result, Ok, Err}
use Rattle.table.specs.Refusals.{Verdict, granted, refused, number_in, if_granted}
use Rattle.table.specs.Answers.{number_of_answer, value_of_looked, value_of_sought}
use Rattle.table.specs.declared.Density.{Density}
use Rattle.table.specs.declared.Drive.{Drive}
use Rattle.table.specs.declared.Refusal.{Refusal}
use Rattle.table.proofs.Refusals.{same_refusal, number_above, same_verdict}

-- An answer is known by its number, and by a value that tells what a granted call gives. [table]
pub same_answer : {A B : Type 0} (value : Result A Refusal → B)
    → ((a b : A) → value (Ok a) ≡ value (Ok b) → a ≡ b)
    → (r s : Result A Refusal) → number_of_answer r ≡ number_of_answer s → value r ≡ value s → r ≡ s
same_answer value tells (Ok a) (Ok b) e v = ap Ok (tells a b v)
same_answer value tells (Ok a) (Err b) e v = absurd (omega (arith, number_above b))
same_answer value tells (Err a) (Ok b) e v = absurd (omega (arith, number_above a))
same_answer value tells (Err a) (Err b) e v = ap Err (same_refusal a b e)

-- An answer that has no value is known by its number. [table]
pub same_done : (r s : Result (Unit {0}) Refusal) → number_of_answer r ≡ number_of_answer s → r ≡ s
same_done r s e = same_answer number_of_answer (λ a b v. refl) r s e e

-- A looked-up answer is known by its number and its value. [table]
pub same_looked : (r s : Result Density Refusal) → number_of_answer r ≡ number_of_answer s
    → value_of_looked r ≡ value_of_looked s
    → r ≡ s
same_looked = same_answer value_of_looked (λ a b v. ap (λ (n : ℕ). record { 0 = n }) v)

-- A sought answer is known by its number and its value. [table]
pub same_sought : (r s : Result Drive Refusal) → number_of_answer r ≡ number_of_answer s
    → value_of_sought r ≡ value_of_sought s
    → r ≡ s
same_sought = same_answer value_of_sought (λ a b v. ap (λ (n : ℕ). record { 0 = n }) v)

-- what a call that is to give x answers by its tests
abbrev pub answer_by : {A : Type 0} → Verdict → A → Result A Refusal
answer_by granted x = Ok x
answer_by (refused why) x = Err why

pub answer_number : {A : Type 0} (w : Verdict) (x : A) → number_of_answer (answer_by w x) ≡ number_in w
answer_number granted x = refl
answer_number (refused why) x = refl

-- the value of that answer, where a refused call has none of its own
pub answer_value : {A B : Type 0} (value : Result A Refusal → B) (none : B) → ((why : Refusal) → value (Err why) ≡ none)
    → (w : Verdict) (x : A) → value (answer_by w x) ≡ if_granted w (value (Ok x)) none
answer_value value none e granted x = refl
answer_value value none e (refused why) x = e why

-- what one that only does something answers
abbrev pub done_by : Verdict → Result (Unit {0}) Refusal
done_by w = answer_by w tt

pub done_number : (w : Verdict) → number_of_answer (done_by w) ≡ number_in w
done_number w = answer_number w tt

pub done_is : {r : Result (Unit {0}) Refusal} (w : Verdict) → number_of_answer r ≡ number_in w → r ≡ done_by w
done_is {r} w e = same_done r (done_by w) (e ∙ sym (done_number w))

-- and what its answer tells of them
pub done_granted : (w : Verdict) → number_of_answer (done_by granted) ≡ number_in w → w ≡ granted
done_granted w e = same_verdict w granted (sym e)

pub done_refused : (w : Verdict) (why : Refusal) → number_of_answer (done_by (refused why)) ≡ number_in w
    → w ≡ refused why
done_refused w why e = same_verdict w (refused why) (sym e)

-- what a call that gives a sample answers by its tests and the sample x
abbrev pub looked_by : Verdict → ℕ → Result Density Refusal
looked_by w x = answer_by w (record { 0 = x })

pub looked_number : (w : Verdict) (x : ℕ) → number_of_answer (looked_by w x) ≡ number_in w
looked_number w x = answer_number w _

pub looked_value : (w : Verdict) (x : ℕ) → value_of_looked (looked_by w x) ≡ if_granted w x 0
looked_value w x = answer_value value_of_looked 0 (λ why. refl) w _

-- what a call that seeks a position answers by its tests and the position p
abbrev pub sought_by : Verdict → ℕ → Result Drive Refusal
sought_by w p = answer_by w (record { 0 = p })

pub sought_number : (w : Verdict) (p : ℕ) → number_of_answer (sought_by w p) ≡ number_in w
sought_number w p = answer_number w _

pub sought_value : (w : Verdict) (p : ℕ) → value_of_sought (sought_by w p) ≡ if_granted w p 0
sought_value w p = answer_value value_of_sought 0 (λ why. refl) w _

pub sought_is : {r : Result Drive Refusal} (w : Verdict) (p : ℕ) → number_of_answer r ≡ number_in w
    → value_of_sought r ≡ if_granted w p 0
    → r ≡ sought_by w p
sought_is {r} w p n v = same_sought r (sought_by w p) (n ∙ sym (sought_number w p)) (v ∙ sym (sought_value w p))
