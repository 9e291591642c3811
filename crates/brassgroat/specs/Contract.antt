-- When a contract names one answer. The contract is the export's own, as the checker reads it from the source: `Post`
-- in the function's module `Reads`, which takes the lifetimes, the parameters, the answer, and the parameters at the
-- exit. Assumes nothing.
use Rattle.std.specs.Prelude.{◌≡◌}
use Rattle.std.specs.Borrow.{MutBor}

module _ {K A R E : Type 0} (Post : K → A → R → E → Type 0) where
  -- Two answers that keep it are one.
  abbrev pub OneAnswer : Type 0
  OneAnswer = (κs : K) (a : A) (r s : R) (e f : E) → Post κs a r e → Post κs a s f → r ≡ s

  -- And so are two later states of each buffer that is lent for writing: of one,
  abbrev pub OneAnswerAndBuffer : {S : Type 0} → (E → S) → Type 0
  OneAnswerAndBuffer buffer =
      (κs : K) (a : A) (r s : R) (e f : E) → Post κs a r e → Post κs a s f → (r ≡ s) × (buffer e ≡ buffer f)

  -- of two,
  abbrev pub OneAnswerAndTwo : {S T : Type 0} → (E → S) → (E → T) → Type 0
  OneAnswerAndTwo one two =
      (κs : K) (a : A) (r s : R) (e f : E) → Post κs a r e → Post κs a s f →
      (r ≡ s) × (one e ≡ one f) × (two e ≡ two f)

  -- and of three.
  abbrev pub OneAnswerAndThree : {S T U : Type 0} → (E → S) → (E → T) → (E → U) → Type 0
  OneAnswerAndThree one two three =
      (κs : K) (a : A) (r s : R) (e f : E) → Post κs a r e → Post κs a s f →
      (r ≡ s) × (one e ≡ one f) × (two e ≡ two f) × (three e ≡ three f)

-- What the first, second or third parameter holds at the exit.
abbrev pub first : {S E : Type 0} → MutBor S × E → S
first e = e.0.now

abbrev pub second : {P S E : Type 0} → P × (MutBor S × E) → S
second e = e.1.0.now

abbrev pub third : {P Q S E : Type 0} → P × (Q × (MutBor S × E)) → S
third e = e.1.1.0.now
