-- What a reading promises: when it is refused and by which number, and its values. Assumes nothing.
use Rattle.std.specs.Prelude.{ℕ, ◌≡◌, List, length, leb, eqb, Result}
use Rattle.table.specs.Refusals.{Verdict, granted, rung, number_in, if_granted}
use Rattle.table.specs.Answers.{number_of_answer}
use Rattle.table.specs.declared.Refusal.TheVariants.{TagLength, WrongSignature, ReservedNotZero, FunctionType}
use Rattle.table.specs.declared.Refusal.{Refusal}
use Rattle.icc.specs.Opening.{signature_of, reserved_of}
use Rattle.para.specs.Answers.{count_of_read, numbers_of_read, no_numbers}
use Rattle.para.specs.Tag.{signature, type_of, reserved_after, count_of, tag_length, numbers_of}
use Rattle.para.specs.declared.Numbers.{Numbers}

-- The tag's own checks, which every call that reads a tag makes: fewer than 12 bytes, 8; a wrong signature, 9; a
-- reserved byte that is not zero, among bytes 4 to 7 or 10 and 11, 10; a function type above 4, 11; a wrong total, 8.
unfoldable pub tag_verdict : List ℕ → Verdict
tag_verdict b =
    rung (leb 12 (length b)) TagLength
    (rung (eqb (signature_of b) signature) WrongSignature
    (rung (eqb (reserved_of b) 0) ReservedNotZero
    (rung (eqb (reserved_after b) 0) ReservedNotZero
    (rung (leb (type_of b) 4) FunctionType
    (rung (eqb (length b) (tag_length (count_of (type_of b)))) TagLength
    granted)))))

-- Reading a tag: how many numbers it has, and seven raw ones, those that its type does not use being 0.
pub record ReadPromise (b : List ℕ) (r : Result (ℕ × Numbers) Refusal) : Type 0 where
  pub number : number_of_answer r ≡ number_in (tag_verdict b)
  pub count : count_of_read r ≡ if_granted (tag_verdict b) (count_of (type_of b)) 0
  pub numbers : numbers_of_read r ≡ if_granted (tag_verdict b) (numbers_of b) no_numbers
