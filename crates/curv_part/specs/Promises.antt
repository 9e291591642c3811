-- What `entry_bytes` promises: which part of the tag it hands back, where it lies, and the number beside it. Assumes
-- nothing.
use Rattle.std.specs.Prelude.{ℕ, ◌+◌, ◌*◌, ◌≡◌, List, [], take, drop}
use Rattle.std.specs.Borrow.{Bor}
use Rattle.table.specs.Refusals.{number_in, if_granted}
use Rattle.curv.specs.Tag.{count_of}
use Rattle.curv.specs.Promises.{tag_verdict}

-- the bytes of a tag's entries: 12 to 12 + 2n, by the count
abbrev pub part_of : List ℕ → List ℕ
part_of b = take (2 * count_of b) (drop 12 b)

-- the place k bytes after another
abbrev pub past : ℕ → ℕ × ℕ → ℕ × ℕ
past k p = (p.0, k + p.1)

-- The bytes of a tag's entries, as that part of the tag: refused as the tag is. The part lies in the tag itself, twelve
-- bytes after its start, and is no copy; refused, it is empty, and lies at the tag's start. The number stands in the
-- place beside it.
pub record PartPromise (tag part : Bor (List ℕ)) (why' : ℕ) : Type 0 where
  pub number : why' ≡ number_in (tag_verdict tag.now)
  pub bytes : part.now ≡ if_granted (tag_verdict tag.now) (part_of tag.now) []
  pub place : part.ref_ptr ≡ if_granted (tag_verdict tag.now) (past 12 tag.ref_ptr) tag.ref_ptr
