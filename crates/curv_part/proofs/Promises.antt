-- Which part of a tag the bytes of its entries are; how the promise is met; and that it names one part. Assumes
-- nothing.
use mathlib.Core.Path.{◌≡◌, ◌∙◌, sym, ap}
use mathlib.Core.List.{List, []}
use Prim.Native.Nat.{ℕ, ◌+◌, ◌*◌, ◌≤◌, ◌<◌}
use native.Mathlib.Nat.{add_assoc}
use native.Mathlib.Omega.{arith}
use denote.Ref.{Bor}
use lib.ListN.{length, get_or, drop, length-drop}
use lib.Seq.{length-take-le, get_or-take, get_or-drop}
use Rattle.table.specs.Refusals.{Verdict, granted, number_in, if_granted}
use Rattle.icc.specs.Bytes.{be16}
use Rattle.curv.specs.Tag.{count_of, entry_at, tag_length}
use Rattle.curv.specs.Promises.{tag_verdict}
use Rattle.curv.proofs.Promises.{verdict_number, verdict_gives}
use Rattle.curv_part.specs.Promises.{part_of, past, PartPromise}

-- The part of a tag that its total leaves room for: two bytes for each entry, which are that entry.
module _ (b : List ℕ) where
  -- The part of a tag that is long enough has two bytes for each entry. [curv_part::entry_bytes]
  pub length_part : tag_length (count_of b) ≤ length b → length (part_of b) ≡ 2 * count_of b
  length_part h = length-take-le (2 * count_of b) (drop 12 b) (simp length-drop (omega arith))

  in_part : (k : ℕ) → k < 2 * count_of b → get_or (part_of b) k 0 ≡ get_or b (12 + k) 0
  in_part k h = get_or-take (2 * count_of b) (drop 12 b) k 0 h ∙ get_or-drop 12 b k 0

  -- Entry i of the tag is the 16-bit number at byte 2i of the part. [curv_part::entry_bytes]
  pub part_entry : (i : ℕ) → i < count_of b → be16 (part_of b) (2 * i) ≡ entry_at b i
  unfolding be16 entry_at
  part_entry i h =
      omega (
        arith,
        in_part (2 * i) (omega arith),
        in_part (2 * i + 1) (omega arith),
        ap (λ (k : ℕ). get_or b k 0) (sym (add_assoc 12 (2 * i) 1)),
      )

-- The part, by the verdict v on the tag.
pub part_meets : (tag part : Bor (List ℕ)) (why' : ℕ) (v : Verdict) → tag_verdict tag.now ≡ v → why' ≡ number_in v
    → part.now ≡ if_granted v (part_of tag.now) [] → part.ref_ptr ≡ if_granted v (past 12 tag.ref_ptr) tag.ref_ptr
    → PartPromise tag part why'
part_meets tag part why' v e n l p = record {
  number = n ∙ verdict_number e;
  bytes = l ∙ verdict_gives (part_of tag.now) [] e;
  place = p ∙ verdict_gives (past 12 tag.ref_ptr) tag.ref_ptr e;
}

-- Of a tag that passes the tests the number is 0, and the part is its entries' bytes, from its byte 12 on.
-- [curv_part::entry_bytes]
pub granted_part : {tag part : Bor (List ℕ)} {why' : ℕ} → tag_verdict tag.now ≡ granted → PartPromise tag part why'
    → (why' ≡ 0) × (part.now ≡ part_of tag.now) × (part.ref_ptr ≡ past 12 tag.ref_ptr)
granted_part {tag} e p = (
  p.number ∙ sym (verdict_number e),
  p.bytes ∙ sym (verdict_gives (part_of tag.now) [] e),
  p.place ∙ sym (verdict_gives (past 12 tag.ref_ptr) tag.ref_ptr e),
)

-- The promise names one part and one number.
pub part_one : {tag part other : Bor (List ℕ)} {why' why'' : ℕ} → PartPromise tag part why'
    → PartPromise tag other why''
    → (why' ≡ why'') × (part.now ≡ other.now) × (part.ref_ptr ≡ other.ref_ptr)
part_one p q = (p.number ∙ sym q.number, p.bytes ∙ sym q.bytes, p.place ∙ sym q.place)
