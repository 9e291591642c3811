-- How a promise of the library becomes one of the face. Assumes nothing.
use Rattle.std.specs.Prelude.{ℕ, ◌≡◌, List, length}
use Rattle.std.specs.Borrow.{Bor}
use Rattle.curv_part.specs.Promises.{PartPromise, past}
use Rattle.brassgroat.specs.declared.curv_tags.Part.{Part}

-- What crosses is `places` of an answer of the library that keeps the library's promise.
pub record Carried {L R : Type 0} (places : L → R) (promise : L → Type 0) (r : R) : Type 0 where
  pub answer : L
  pub kept : promise answer
  pub same : r ≡ places answer

-- The part of a tag crosses as the number of the refusal, how many bytes after the tag's start the library's part lies,
-- and its length.
pub record PartCarried (tag : Bor (List ℕ)) (r : Part) : Type 0 where
  pub part : Bor (List ℕ)
  pub kept : PartPromise tag part r.refusal
  pub start : part.ref_ptr ≡ past r.start tag.ref_ptr
  pub len : r.len ≡ length part.now
