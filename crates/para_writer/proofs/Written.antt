-- The bytes that are written for a type and seven numbers: the stores that make them, and what the tests and the
-- readings say of them. Assumes nothing.
use mathlib.Core.Path.{◌≡◌, ◌∙◌, refl, ap}
use mathlib.Core.Logic.{⊎_elim}
use mathlib.Core.List.{List, ◌++◌}
use Prim.Native.Nat.{ℕ, ◌≤◌, ◌<◌}
use native.Mathlib.Omega.{arith}
use lib.ListN.{length, get_or, take, length-append, get_or-map, get_or-eq_default}
use lib.Seq.{sets, length-sets, length-take-le, get_or-take}
use lib.IntN.{pos}
use lib.Dec.{lit<}
use Rattle.table.proofs.Choice.{below?}
use Rattle.icc.specs.Bytes.{EightBits, bytes16, bytes32}
use Rattle.icc.specs.Words.{in_turn}
use Rattle.icc.specs.Opening.{signature_of, reserved_of, opening}
use Rattle.icc.proofs.Numbers.{be16_bytes}
use Rattle.icc.proofs.Opening.{opening_signed, opening_zeros}
use Rattle.icc.proofs.Stores.{take_sets, take_opening}
use Rattle.icc.proofs.Words.{four_bytes, length_words, word_back}
use Rattle.icc.proofs.Widths.{eight_append, eight_bytes16, eight_bytes32, eight_words, eight_opening}
use Rattle.para.specs.declared.Numbers.{Numbers}
use Rattle.para.specs.Signed.{signed_of}
use Rattle.para.specs.Tag.{signature, type_of, reserved_after, count_of, tag_length, listed, placed, SignedBits, used}
use Rattle.para.specs.Tag.{raw_at}
use Rattle.para.proofs.Counts.{count_most}
use Rattle.para.proofs.Places.{used_same}
use Rattle.para.proofs.Checks.{Readable}
use Rattle.para_writer.specs.Written.{pattern_of, head, patterns, tag_of}
use Rattle.para_writer.proofs.Complement.{signed_pattern, pattern_below}

pub length_head : (t : ℕ) → length (head t) ≡ 12
unfolding head bytes16 bytes32
length_head t = refl

-- the first twelve bytes, by three runs of stores
pub head_stored : (l : List ℕ) (t : ℕ) → 12 ≤ length l
    → take 12 (sets (sets (sets l 0 (opening signature)) 8 (bytes16 t)) 10 (bytes16 0)) ≡ head t
unfolding head bytes16 bytes32
head_stored l t h =
    let once = sets l 0 (opening signature) in
    let twice = sets once 8 (bytes16 t) in
    let first : length once ≡ length l = length-sets l 0 (opening signature) in
    let second : length twice ≡ length once = length-sets once 8 (bytes16 t) in
    take_sets twice 10 (bytes16 0) 12 refl (omega arith)
    ∙ ap (λ (k : List ℕ). k ++ bytes16 0) (take_sets once 8 (bytes16 t) 10 refl (omega arith))
    ∙ ap (λ (k : List ℕ). (k ++ bytes16 t) ++ bytes16 0) (take_opening l signature (omega arith))

-- What is written passes the tests, and holds the type and its numbers.
module _ (t : ℕ) (m : Numbers) (known : t ≤ 4) where
  abbrev counted_out : List ℕ
  counted_out = take (count_of t) (patterns m)

  length_counted_out : length counted_out ≡ count_of t
  length_counted_out = length-take-le (count_of t) (patterns m) (count_most t known)

  -- The tag of a type up to 4 has 12 bytes and four for each number. [para_writer::write_para]
  pub length_tag : length (tag_of t m) ≡ tag_length (count_of t)
  length_tag =
      omega (
        arith,
        length-append (head t) (in_turn bytes32 counted_out),
        length_head t,
        length_words four_bytes counted_out,
        length_counted_out,
      )

  tag_signed : signature_of (tag_of t m) ≡ signature
  unfolding head bytes16 bytes32
  tag_signed = opening_signed signature (bytes16 t ++ (bytes16 0 ++ in_turn bytes32 counted_out))

  tag_zeros : reserved_of (tag_of t m) ≡ 0
  unfolding head bytes16 bytes32
  tag_zeros = opening_zeros signature (bytes16 t ++ (bytes16 0 ++ in_turn bytes32 counted_out))

  tag_after : reserved_after (tag_of t m) ≡ 0
  unfolding head bytes16 bytes32
  tag_after = be16_bytes (opening signature ++ bytes16 t) 10 0 (in_turn bytes32 counted_out) refl

  -- The tag's type is the one that was written. [para_writer::write_para]
  pub tag_type : type_of (tag_of t m) ≡ t
  unfolding head bytes16 bytes32
  tag_type = be16_bytes (opening signature) 8 t (bytes16 0 ++ in_turn bytes32 counted_out) refl

  -- The tag of a type up to 4 passes the six tests. [para_writer::write_para]
  pub tag_readable : Readable (tag_of t m)
  tag_readable = record {
    opened = record { twelve = omega (arith, length_tag); signed = tag_signed; zeros = tag_zeros; after = tag_after };
    known = omega (arith, tag_type);
    whole = rw (tag_type, length_tag) refl;
  }

  module _ (wide : SignedBits m) where
    tag_raw : (k : ℕ) → k < count_of t → raw_at (tag_of t m) k ≡ placed m k
    unfolding raw_at pattern_of
    tag_raw k h =
        ap signed_of
        (word_back four_bytes counted_out (head t) 12 k (length_head t) (omega (arith, length_counted_out))
        ∙ get_or-take (count_of t) (patterns m) k 0 h
        ∙ get_or-map pattern_of (listed m) k (pos 0))
        ∙ signed_pattern (placed m k) (wide k)

    -- The numbers that are read of the tag are those that were written, as many as the type uses.
    -- [para_writer::write_para]
    pub tag_numbers : used (count_of t) (raw_at (tag_of t m)) ≡ used (count_of t) (placed m)
    tag_numbers = used_same (count_of t) (raw_at (tag_of t m)) (placed m) tag_raw

    -- and its bytes are eight bits wide
    pattern_fits : (k : ℕ) → get_or (patterns m) k 0 < 0x1_0000_0000
    unfolding pattern_of
    pattern_fits k = rw (get_or-map pattern_of (listed m) k (pos 0)) (pattern_below (placed m k) (wide k))

    counted_out_fits : (k : ℕ) → get_or counted_out k 0 < 0x1_0000_0000
    counted_out_fits k =
        ⊎_elim
        (λ (h : k < count_of t). rw (get_or-take (count_of t) (patterns m) k 0 h) (pattern_fits k))
        (λ (h : count_of t ≤ k).
        rw (get_or-eq_default counted_out 0 {n = k} (omega (arith, length_counted_out))) (lit< tt))
        (below? k (count_of t))

    pub tag_eight : EightBits (tag_of t m)
    unfolding head
    tag_eight =
        eight_append (head t) (in_turn bytes32 counted_out)
        (eight_append (opening signature) (bytes16 t ++ bytes16 0) (eight_opening signature (lit< tt))
        (eight_append (bytes16 t) (bytes16 0) (eight_bytes16 t (omega arith)) (eight_bytes16 0 (lit< tt))))
        (eight_words bytes32 0x1_0000_0000 eight_bytes32 counted_out counted_out_fits)
