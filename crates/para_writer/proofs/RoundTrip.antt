-- What is written reads back the same, and tag bytes that are read are written back the same: of any calls that keep
-- the promises. Assumes nothing.
use mathlib.Core.Path.{◌≡◌, ◌∙◌, refl, sym, ap}
use mathlib.Core.List.{List, ◌++◌}
use Prim.Native.Nat.{ℕ, ◌+◌, ◌*◌, ◌≤◌, ◌<◌}
use native.Mathlib.Omega.{arith}
use lib.ListN.{length, take, drop}
use lib.Seq.{take-add, take_all, drop-drop}
use Rattle.std.specs.Prelude.{Result, Ok}
use Rattle.table.specs.Fill.{tabulated}
use Rattle.table.specs.Refusals.{Verdict, granted, refused, number_in}
use Rattle.table.specs.declared.Refusal.{Refusal}
use Rattle.table.proofs.Fill.{tabulated_same}
use Rattle.icc.specs.Bytes.{EightBits, be32, bytes16, bytes32}
use Rattle.icc.specs.Words.{in_turn}
use Rattle.icc.specs.Opening.{opening}
use Rattle.icc.proofs.Numbers.{bytes_be16, below16, be32_halves}
use Rattle.icc.proofs.Opening.{opens}
use Rattle.icc.proofs.Words.{four_bytes, words_kept}
use Rattle.para.specs.declared.Numbers.{Numbers}
use Rattle.para.specs.Tag.{signature, type_of, count_of, tag_length, placed, SignedBits, used, raw_at, numbers_of}
use Rattle.para.specs.Promises.{tag_verdict, ReadPromise}
use Rattle.para.proofs.Complement.{signed_wide}
use Rattle.para.proofs.Counts.{count_most, same_type}
use Rattle.para.proofs.Places.{first_used, used_wide}
use Rattle.para.proofs.Checks.{Readable, readable, grants}
use Rattle.para.proofs.Promises.{read_granted, granted_read, read_one}
use Rattle.para_writer.specs.Written.{pattern_of, head, patterns, tag_of}
use Rattle.para_writer.specs.Promises.{write_verdict, WritePromise}
use Rattle.para_writer.proofs.Complement.{pattern_signed}
use Rattle.para_writer.proofs.Written.{tag_type, tag_readable, tag_numbers, tag_eight}
use Rattle.para_writer.proofs.Promises.{write_granted, granted_write, write_one}

below32 : (b : List ℕ) → EightBits b → (i : ℕ) → be32 b i < 0x1_0000_0000
below32 b w i = omega (arith, be32_halves b i, below16 b w i, below16 b w (i + 2))

-- The numbers of a tag are 32 bits wide. [para::read_para]
pub numbers_wide : (b : List ℕ) → EightBits b → SignedBits (numbers_of b)
unfolding numbers_of raw_at
numbers_wide b w =
    used_wide (count_of (type_of b)) (raw_at b) (λ k. signed_wide (be32 b (12 + 4 * k)) (below32 b w (12 + 4 * k)))

-- What is written reads back as its count and its numbers, those that were ignored as 0. [para_writer::write_para,
-- para::read_para]
pub written_reads : {t : ℕ} {m : Numbers} {out tag : List ℕ} {r : Result (ℕ × Numbers) Refusal} → SignedBits m
    → WritePromise t m out (Ok tt) tag → ReadPromise tag r
    → r ≡ Ok (count_of t, used (count_of t) (placed m))
written_reads {t} {m} {out} {tag} wide written p =
    let g = granted_write t m out written in
    let stated : tag ≡ tag_of t m = g.1 in
    let verdict : tag_verdict tag ≡ granted = rw stated (grants (tag_of t m) (tag_readable t m g.0)) in
    let count : count_of t ≡ count_of (type_of tag) = rw stated (ap count_of (sym (tag_type t m g.0))) in
    let numbers : used (count_of t) (placed m) ≡ used (count_of t) (raw_at tag) =
    rw stated (sym (tag_numbers t m g.0 wide)) in
    read_one p (read_granted tag verdict count numbers)

-- The first twelve bytes of a tag that passes the tests are those of its type,
module _ (b : List ℕ) (w : EightBits b) (ok : Readable b) where
  head_read : head (type_of b) ≡ take 12 b
  unfolding head
  head_read =
      let twelve = ok.opened.twelve in
      let type : bytes16 (type_of b) ++ bytes16 0 ≡ take 4 (drop 8 b)
      = ap (λ (l : List ℕ). l ++ bytes16 0) (bytes_be16 b w 8 (omega arith))
      ∙ ap (λ (l : List ℕ). take 2 (drop 8 b) ++ l)
      (ap bytes16 (sym ok.opened.after) ∙ bytes_be16 b w 10 (omega arith))
      ∙ ap (λ (l : List ℕ). take 2 (drop 8 b) ++ take 2 l) (sym (drop-drop 2 8 b))
      ∙ sym (take-add 2 2 (drop 8 b)) in
      ap (λ (l : List ℕ). opening signature ++ l) type
      ∙ ap (λ (l : List ℕ). l ++ take 4 (drop 8 b))
      (sym (opens signature b w (omega arith) ok.opened.signed ok.opened.zeros))
      ∙ sym (take-add 8 4 b)

  -- the patterns of its numbers are its own,
  patterns_read : take (count_of (type_of b)) (patterns (numbers_of b))
      ≡ tabulated (λ k. be32 b (12 + 4 * k)) (count_of (type_of b))
  unfolding numbers_of raw_at
  patterns_read =
      let n = count_of (type_of b) in
      first_used pattern_of n (raw_at b) (count_most (type_of b) ok.known)
      ∙ tabulated_same (λ k. pattern_of (raw_at b k)) (λ k. be32 b (12 + 4 * k)) n
      (λ k h. pattern_signed (be32 b (12 + 4 * k)) (below32 b w (12 + 4 * k)))

  -- A tag that passes the tests is what is written for its type and its numbers. [para::read_para]
  pub tag_rewritten : tag_of (type_of b) (numbers_of b) ≡ b
  tag_rewritten =
      let n = count_of (type_of b) in
      let whole : length b ≡ tag_length n = ok.whole in
      ap (λ (l : List ℕ). l ++ in_turn bytes32 (take n (patterns (numbers_of b)))) head_read
      ∙ ap (λ (l : List ℕ). take 12 b ++ in_turn bytes32 l) patterns_read
      ∙ ap (λ (l : List ℕ). take 12 b ++ l) (words_kept four_bytes b w 12 n (omega arith))
      ∙ sym (take-add 12 (4 * n) b)
      ∙ take_all (12 + 4 * n) b (omega arith)

-- Tag bytes that are read are written back the same: by the type that has as many numbers, into a buffer of their
-- length. [para_writer::write_para, para::read_para]
pub read_writes : {b buffer b' : List ℕ} {n t : ℕ} {m : Numbers} {r : Result (Unit {0}) Refusal} → EightBits b
    → ReadPromise b (Ok (n, m))
    → t ≤ 4 → count_of t ≡ n → length buffer ≡ length b → WritePromise t m buffer r b'
    → (r ≡ Ok tt) × (b' ≡ b)
read_writes {b} {buffer} {n = n} {t = t} {m = m} w read known count e p =
    let g = granted_read b (Ok (n, m)) read n m refl in
    let ok : Readable b = readable b g.verdict in
    let type : t ≡ type_of b = same_type known ok.known (count ∙ g.count) in
    let room : length buffer ≡ tag_length (count_of t)
    = e ∙ ok.whole ∙ ap (λ (u : ℕ). tag_length (count_of u)) (sym type) in
    let s = write_one p (write_granted t m buffer known room refl) in
    (s.0, s.1 ∙ ap (λ (u : ℕ). tag_of u m) type ∙ ap (tag_of (type_of b)) g.numbers ∙ tag_rewritten b w ok)

-- What is written for numbers of 32 bits is bytes, eight bits wide. [para_writer::write_para]
pub written_eight : {t : ℕ} {m : Numbers} {out tag : List ℕ}
    → SignedBits m → WritePromise t m out (Ok tt) tag → EightBits tag
written_eight {t} {m} {out} wide written =
    let g = granted_write t m out written in
    rw g.1 (tag_eight t m g.0 wide)

-- Of numbers of 32 bits a write, whatever it answers, leaves bytes where bytes were. [para_writer::write_para]
pub write_keeps_eight : {t : ℕ} {m : Numbers} {out out' : List ℕ} {r : Result (Unit {0}) Refusal}
    → SignedBits m → EightBits out → WritePromise t m out r out' → EightBits out'
write_keeps_eight {t} {m} {out} {out'} wide eight p = go (write_verdict t out) refl
  where
    go : (v : Verdict) → write_verdict t out ≡ v → EightBits out'
    go granted e =
        written_eight {t = t} {m = m} {out = out} wide (record { number = ap number_in (sym e); after = p.after })
    go (refused why) e = rw (simp e at p.after) eight

-- What was written is read, and written again the same. Nothing is asked of its bytes: a write leaves what
-- `read_writes` asks for. [para_writer::write_para]
pub written_rewrites : {t u n : ℕ} {m m' : Numbers} {out tag again tag' : List ℕ} {r : Result (Unit {0}) Refusal}
    → SignedBits m
    → WritePromise t m out (Ok tt) tag → ReadPromise tag (Ok (n, m'))
    → u ≤ 4 → count_of u ≡ n → length again ≡ length tag → WritePromise u m' again r tag'
    → (r ≡ Ok tt) × (tag' ≡ tag)
written_rewrites wide written read known count room p = read_writes (written_eight wide written) read known count room p
