-- How a reading's promise is met, case by case; what an answer that keeps it tells; and that it names one answer.
-- Assumes nothing.
use mathlib.Core.Path.{◌≡◌, ◌∙◌, sym, ap}
use mathlib.Core.List.{List}
use Prim.Native.Nat.{ℕ, ◌≤◌}
use native.Mathlib.Omega.{arith}
use Rattle.std.specs.Prelude.{Result, Ok, Err}
use Rattle.table.specs.Refusals.{granted, refused}
use Rattle.table.specs.Answers.{number_of_answer}
use Rattle.table.specs.declared.Refusal.{Refusal}
use Rattle.table.proofs.Refusals.{same_verdict}
use Rattle.table.proofs.Answers.{same_answer}
use Rattle.para.specs.declared.Numbers.{Numbers}
use Rattle.para.specs.Answers.{count_of_read, numbers_of_read}
use Rattle.para.specs.Tag.{type_of, count_of, used, raw_at, numbers_of}
use Rattle.para.specs.Promises.{tag_verdict, ReadPromise}
use Rattle.para.proofs.Counts.{count_most}
use Rattle.para.proofs.Checks.{readable}

-- a tag that is granted, and has the n numbers m
pub record Granted (b : List ℕ) (n : ℕ) (m : Numbers) : Type 0 where
  pub verdict : tag_verdict b ≡ granted
  pub known : type_of b ≤ 4
  pub count : n ≡ count_of (type_of b)
  pub numbers : m ≡ numbers_of b
  pub most : n ≤ 7

module _ (b : List ℕ) where
  -- Where the tests refuse the tag, that refusal keeps the promise. [para::read_para]
  pub read_refused : (why : Refusal) → tag_verdict b ≡ refused why → ReadPromise b (Err why)
  read_refused why e = record { number = simp e; count = simp e; numbers = simp e }

  -- Where the tests pass, the tag's count and its numbers keep the promise. [para::read_para]
  pub read_granted : {n : ℕ} {m : Numbers} → tag_verdict b ≡ granted → n ≡ count_of (type_of b) → m ≡ used n (raw_at b)
      → ReadPromise b (Ok (n, m))
  unfolding numbers_of
  read_granted e count v =
      record { number = simp e; count = simp e count; numbers = simp e (v ∙ ap (λ (n : ℕ). used n (raw_at b)) count) }

  -- what the answer r of a reading tells
  module _ (r : Result (ℕ × Numbers) Refusal) (p : ReadPromise b r) where
    -- An answered refusal is the one that the tests come to. [para::read_para]
    pub refused_read : (why : Refusal) → r ≡ Err why → tag_verdict b ≡ refused why
    refused_read why e = sym (same_verdict (refused why) (tag_verdict b) (ap number_of_answer (sym e) ∙ p.number))

    -- Answered numbers are the tag's, and the tag has passed the tests. [para::read_para]
    pub granted_read : (n : ℕ) (m : Numbers) → r ≡ Ok (n, m) → Granted b n m
    granted_read n m e =
        let g : tag_verdict b ≡ granted =
        sym (same_verdict granted (tag_verdict b) (ap number_of_answer (sym e) ∙ p.number)) in
        let c : n ≡ count_of (type_of b) = ap count_of_read (sym e) ∙ simp g at p.count in
        let v : m ≡ numbers_of b = ap numbers_of_read (sym e) ∙ simp g at p.numbers in
        let ok = readable b g in
        record {
          verdict = g;
          known = ok.known;
          count = c;
          numbers = v;
          most = omega (arith, count_most (type_of b) ok.known);
        }

-- The promise names one answer.
same_read : (r s : Result (ℕ × Numbers) Refusal) → number_of_answer r ≡ number_of_answer s
    → count_of_read r ≡ count_of_read s
    → numbers_of_read r ≡ numbers_of_read s → r ≡ s
same_read r s e c v =
    same_answer (λ (q : Result (ℕ × Numbers) Refusal). (count_of_read q, numbers_of_read q)) (λ a b p. p) r s e
    (λ i. (c i, v i))

pub read_one : {b : List ℕ} {r s : Result (ℕ × Numbers) Refusal} → ReadPromise b r → ReadPromise b s → r ≡ s
read_one {b} {r} {s} p q =
    same_read r s (p.number ∙ sym q.number) (p.count ∙ sym q.count) (p.numbers ∙ sym q.numbers)
