-- The bytes that are written for a table: the stores that make the first twelve, and what the tests say of the whole.
-- Assumes nothing.
use mathlib.Core.Path.{◌≡◌, ◌∙◌, refl, ap}
use mathlib.Core.List.{List, ◌++◌, append_assoc}
use Prim.Native.Nat.{ℕ, ◌+◌, ◌≤◌}
use native.Mathlib.Omega.{arith}
use lib.ListN.{length, take, length-append}
use lib.Seq.{sets, length-sets}
use lib.Dec.{lit<}
use Rattle.table.specs.Order.{SixteenBits}
use Rattle.icc.specs.Bytes.{EightBits, bytes16, bytes32}
use Rattle.icc.specs.Opening.{signature_of, reserved_of, opening}
use Rattle.icc.proofs.Numbers.{length_bytes32, be32_bytes}
use Rattle.icc.proofs.Opening.{length_opening, opening_signed, opening_zeros}
use Rattle.icc.proofs.Stores.{take_sets, take_opening}
use Rattle.icc.proofs.Words.{two_bytes, length_words}
use Rattle.icc.proofs.Widths.{eight_append, eight_bytes16, eight_bytes32, eight_words, eight_opening}
use Rattle.curv.specs.Tag.{signature, count_of, tag_length}
use Rattle.curv.proofs.Checks.{Readable, total_right}
use Rattle.curv_writer.specs.Written.{head, bytes_of, tag_of}

pub length_head : (n : ℕ) → length (head n) ≡ 12
unfolding head
length_head n = omega (arith, length-append (opening signature) (bytes32 n), length_opening signature, length_bytes32 n)

-- the first twelve bytes, by two runs of stores
pub head_stored : (l : List ℕ) (n : ℕ) → 12 ≤ length l
    → take 12 (sets (sets l 0 (opening signature)) 8 (bytes32 n)) ≡ head n
unfolding head
head_stored l n h =
    let eight = opening signature in
    let four : 8 + length (bytes32 n) ≡ 12 = omega (arith, length_bytes32 n) in
    take_sets (sets l 0 eight) 8 (bytes32 n) 12 four (omega (arith, length-sets l 0 eight))
    ∙ ap (λ (k : List ℕ). k ++ bytes32 n) (take_opening l signature (omega arith))

-- What is written passes the tests, and holds as many entries as the table.
module _ (t : List ℕ) where
  -- A table's tag has 12 bytes and two for each entry. [curv_writer::write_curv]
  pub length_tag : length (tag_of t) ≡ tag_length (length t)
  length_tag =
      omega (arith, length-append (head (length t)) (bytes_of t), length_head (length t), length_words two_bytes t)

  in_three : tag_of t ≡ opening signature ++ (bytes32 (length t) ++ bytes_of t)
  unfolding head
  in_three = append_assoc (opening signature) (bytes32 (length t)) (bytes_of t)

  pub tag_signed : signature_of (tag_of t) ≡ signature
  tag_signed = rw in_three (opening_signed signature (bytes32 (length t) ++ bytes_of t))

  pub tag_zeros : reserved_of (tag_of t) ≡ 0
  tag_zeros = rw in_three (opening_zeros signature (bytes32 (length t) ++ bytes_of t))

  pub tag_count : count_of (tag_of t) ≡ length t
  tag_count = rw in_three (be32_bytes (opening signature) 8 (length t) (bytes_of t) (length_opening signature))

  -- The tag of at most 65,536 entries passes the five tests. [curv_writer::write_curv]
  pub tag_readable : length t ≤ 65536 → Readable (tag_of t)
  tag_readable h =
      let n = tag_count in
      record {
        twelve = omega (arith, length_tag);
        signed = tag_signed;
        zeros = tag_zeros;
        few = omega arith;
        whole = rw (tag_count, length_tag) (total_right (length t) (tag_length (length t)) refl);
      }

  -- Its bytes are eight bits wide, if the entries are 16.
  pub tag_eight : length t ≤ 65536 → SixteenBits t → EightBits (tag_of t)
  tag_eight h wide =
      rw in_three
      (eight_append (opening signature) (bytes32 (length t) ++ bytes_of t) (eight_opening signature (lit< tt))
      (eight_append (bytes32 (length t)) (bytes_of t)
      (eight_bytes32 (length t) (omega arith))
      (eight_words bytes16 65536 eight_bytes16 t wide)))
