-- What a count promises: when it is refused and by which number, and its value. Assumes nothing.
use Rattle.std.specs.Prelude.{ℕ, ◌≡◌, List, length, leb, eqb, Result}
use Rattle.table.specs.Sizes.{not_above}
use Rattle.table.specs.Refusals.{Verdict, granted, rung, number_in, if_granted}
use Rattle.table.specs.Answers.{number_of_answer}
use Rattle.table.specs.declared.Refusal.TheVariants.{TableLength, TagLength, WrongSignature, ReservedNotZero}
use Rattle.table.specs.declared.Refusal.{Refusal}
use Rattle.icc.specs.Opening.{signature_of, reserved_of}
use Rattle.curv.specs.Answers.{value_of_counted}
use Rattle.curv.specs.Tag.{signature, count_of, total}

-- The tag's own checks, which every call that reads a tag makes: fewer than 12 bytes, 8; a wrong signature, 9; a
-- reserved byte that is not zero, 10; a count above 65,536, 1, whatever the total is; a wrong total, 8.
unfoldable pub tag_verdict : List ℕ → Verdict
tag_verdict b =
    rung (leb 12 (length b)) TagLength
    (rung (eqb (signature_of b) signature) WrongSignature
    (rung (eqb (reserved_of b) 0) ReservedNotZero
    (rung (not_above (count_of b)) TableLength
    (rung (total (count_of b) (length b)) TagLength
    granted))))

-- Counting a tag's entries: refused as the tag is.
pub record CountPromise (b : List ℕ) (r : Result ℕ Refusal) : Type 0 where
  pub number : number_of_answer r ≡ number_in (tag_verdict b)
  pub value : value_of_counted r ≡ if_granted (tag_verdict b) (count_of b) 0
