-- How a count's promise is met, case by case; what an answer that keeps it tells; and that it names one answer. Assumes
-- nothing.
use mathlib.Core.Path.{◌≡◌, ◌∙◌, sym, ap}
use mathlib.Core.List.{List}
use Prim.Native.Nat.{ℕ, ◌+◌, ◌*◌, ◌≤◌}
use native.Mathlib.Omega.{arith}
use lib.ListN.{length}
use Rattle.std.specs.Prelude.{Result, Ok, Err}
use Rattle.table.specs.Refusals.{Verdict, granted, refused, number_in, if_granted}
use Rattle.table.specs.Answers.{number_of_answer}
use Rattle.table.specs.declared.Refusal.{Refusal}
use Rattle.table.proofs.Refusals.{same_verdict}
use Rattle.table.proofs.Answers.{same_answer}
use Rattle.curv.specs.Answers.{value_of_counted}
use Rattle.curv.specs.Tag.{count_of}
use Rattle.curv.specs.Promises.{tag_verdict, CountPromise}
use Rattle.curv.proofs.Checks.{readable, total_room}

-- a verdict's number and what it gives, both from the verdict itself
pub verdict_number : {v w : Verdict} → v ≡ w → number_in w ≡ number_in v
verdict_number e = ap number_in (sym e)

pub verdict_gives : {A : Type 0} {v w : Verdict} (given otherwise : A) → v ≡ w
    → if_granted w given otherwise ≡ if_granted v given otherwise
verdict_gives given otherwise e = ap (λ (v : Verdict). if_granted v given otherwise) (sym e)

-- a tag that is granted, and has n entries
pub record Granted (b : List ℕ) (n : ℕ) : Type 0 where
  pub verdict : tag_verdict b ≡ granted
  pub count : count_of b ≡ n
  pub few : n ≤ 65536
  pub room : 12 + 2 * n ≤ length b

module _ (b : List ℕ) where
  -- Where the tests refuse the tag, that refusal keeps the promise. [curv::count_entries]
  pub count_refused : (why : Refusal) → tag_verdict b ≡ refused why → CountPromise b (Err why)
  count_refused why e = record { number = verdict_number e; value = verdict_gives (count_of b) 0 e }

  -- Where the tests pass, the tag's count keeps the promise. [curv::count_entries]
  pub count_granted : (n : ℕ) → tag_verdict b ≡ granted → n ≡ count_of b → CountPromise b (Ok n)
  count_granted n e c = record { number = verdict_number e; value = c ∙ verdict_gives (count_of b) 0 e }

  -- what the answer r of a count tells
  module _ (r : Result ℕ Refusal) (p : CountPromise b r) where
    -- An answered refusal is the one that the tests come to. [curv::count_entries]
    pub refused_count : (why : Refusal) → r ≡ Err why → tag_verdict b ≡ refused why
    refused_count why e = sym (same_verdict (refused why) (tag_verdict b) (ap number_of_answer (sym e) ∙ p.number))

    -- An answered count is the tag's, and the tag has passed the tests. [curv::count_entries]
    pub granted_count : (n : ℕ) → r ≡ Ok n → Granted b n
    granted_count n e =
        let g : tag_verdict b ≡ granted =
        sym (same_verdict granted (tag_verdict b) (ap number_of_answer (sym e) ∙ p.number)) in
        let c : count_of b ≡ n = verdict_gives (count_of b) 0 g ∙ sym p.value ∙ ap value_of_counted e in
        let ok = readable b g in
        record {
          verdict = g;
          count = c;
          few = omega arith;
          room = omega (arith, total_room (count_of b) (length b) ok.whole);
        }

-- The promise names one answer.
same_counted : (r s : Result ℕ Refusal) → number_of_answer r ≡ number_of_answer s
    → value_of_counted r ≡ value_of_counted s → r ≡ s
same_counted = same_answer value_of_counted (λ m n v. v)

pub count_one : {b : List ℕ} {r s : Result ℕ Refusal} → CountPromise b r → CountPromise b s → r ≡ s
count_one {b} {r} {s} p q = same_counted r s (p.number ∙ sym q.number) (p.value ∙ sym q.value)
