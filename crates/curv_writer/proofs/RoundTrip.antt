-- What is written reads back the same, and tag bytes that are read are written back the same: of any calls that keep
-- the promises. Assumes nothing.
use mathlib.Core.Path.{◌≡◌, ◌∙◌, refl, sym, ap}
use mathlib.Core.List.{List, ◌++◌}
use Prim.Native.Nat.{ℕ, ◌+◌, ◌*◌, ◌≤◌}
use native.Mathlib.Omega.{arith}
use denote.Ref.{Bor}
use lib.ListN.{length, take, drop}
use lib.Seq.{take-add, take_all, drop_at}
use Rattle.std.specs.Prelude.{Result, Ok}
use Rattle.table.specs.Refusals.{Verdict, granted, refused, number_in}
use Rattle.table.specs.Order.{SixteenBits}
use Rattle.table.specs.Fill.{tabulated}
use Rattle.table.specs.declared.Refusal.{Refusal}
use Rattle.table.proofs.Fill.{length_tabulated}
use Rattle.icc.specs.Bytes.{EightBits}
use Rattle.icc.proofs.Numbers.{bytes_be32}
use Rattle.icc.specs.Opening.{opening}
use Rattle.icc.proofs.Opening.{opens}
use Rattle.icc.proofs.Words.{two_bytes, length_words, words_back, words_kept}
use Rattle.curv.specs.Tag.{signature, count_of, entry_at, entries_of, tag_length}
use Rattle.curv.specs.Promises.{tag_verdict, CountPromise}
use Rattle.curv_reader.specs.Promises.{ReadPromise}
use Rattle.curv_part.specs.Promises.{part_of, PartPromise}
use Rattle.curv.proofs.Checks.{Readable, readable, grants, total_exact, total_room}
use Rattle.curv.proofs.Promises.{count_one, count_granted}
use Rattle.curv_reader.proofs.Promises.{granted_read, read_one, read_granted}
use Rattle.curv_part.proofs.Promises.{granted_part}
use Rattle.curv_writer.specs.Written.{head, bytes_of, tag_of}
use Rattle.curv_writer.specs.Promises.{write_verdict, WritePromise}
use Rattle.curv_writer.proofs.Written.{length_head, tag_count, tag_readable, tag_eight}
use Rattle.curv_writer.proofs.Promises.{granted_write, write_one, write_granted}

-- The bytes of a tag's part are those of the entries that are read. [curv_part::entry_bytes]
pub part_entries : (b : List ℕ) → EightBits b → Readable b → part_of b ≡ bytes_of (entries_of b)
unfolding entry_at
part_entries b w r = sym (words_kept two_bytes b w 12 (count_of b) (total_room (count_of b) (length b) r.whole))

-- the first twelve bytes of a tag that passes the tests are those of its count
head_read : (b : List ℕ) → EightBits b → Readable b → head (count_of b) ≡ take 12 b
unfolding head
head_read b w r =
    let twelve = r.twelve in
    sym (
    take-add 8 4 b
    ∙ ap (λ (l : List ℕ). l ++ take 4 (drop 8 b)) (opens signature b w (omega arith) r.signed r.zeros)
    ∙ ap (λ (l : List ℕ). opening signature ++ l) (sym (bytes_be32 b w 8 twelve))
    )

-- A tag that passes the tests is what is written for its entries. [curv_reader::read_curv]
pub tag_rewritten : (b : List ℕ) → EightBits b → Readable b → tag_of (entries_of b) ≡ b
tag_rewritten b w r =
    let n = count_of b in
    let all : length b ≤ 12 + 2 * n = omega (arith, total_exact n (length b) r.whole) in
    ap (λ (k : ℕ). head k ++ bytes_of (entries_of b)) (length_tabulated (entry_at b) n)
    ∙ ap (λ (l : List ℕ). l ++ bytes_of (entries_of b)) (head_read b w r)
    ∙ ap (λ (l : List ℕ). take 12 b ++ l) (sym (part_entries b w r))
    ∙ sym (take-add 12 (2 * n) b)
    ∙ take_all (12 + 2 * n) b all

-- What is written is counted, read and handed back as what it was written from.
module _ {t out tag : List ℕ} (written : WritePromise t out (Ok tt) tag) where
  tag_stated : tag ≡ tag_of t
  tag_stated = (granted_write t out written).2

  granted_stated : tag_verdict tag ≡ granted
  granted_stated = rw tag_stated (grants (tag_of t) (tag_readable t (granted_write t out written).0))

  count_stated : count_of tag ≡ length t
  count_stated = rw tag_stated (tag_count t)

  entries_stated : entries_of tag ≡ t
  unfolding entry_at
  entries_stated = rw (count_stated, tag_stated) (words_back two_bytes (head (length t)) t 12 (length_head (length t)))

  part_stated : part_of tag ≡ bytes_of t
  part_stated =
      rw (count_stated, tag_stated, drop_at (head (length t)) (bytes_of t) 12 (length_head (length t)))
      (take_all (2 * length t) (bytes_of t) (omega (arith, length_words two_bytes t)))

  -- A written tag counts as the table's length. [curv_writer::write_curv, curv::count_entries]
  pub written_counts : {r : Result ℕ Refusal} → CountPromise tag r → r ≡ Ok (length t)
  written_counts p = count_one p (count_granted tag (length t) granted_stated (sym count_stated))

  -- A written tag reads as the table, into a buffer of its length. [curv_writer::write_curv, curv_reader::read_curv]
  pub written_reads : {buffer t' : List ℕ} {r : Result (Unit {0}) Refusal} → length buffer ≡ length t
      → ReadPromise tag buffer r t'
      → (r ≡ Ok tt) × (t' ≡ t)
  written_reads {buffer} e p =
      let n : length buffer ≡ count_of tag = e ∙ sym count_stated in
      let s = read_one p (read_granted tag buffer _ granted_stated n refl) in
      (s.0, s.1 ∙ ap (tabulated (entry_at tag)) n ∙ entries_stated)

  -- The part of a written tag is the bytes of the table's entries. [curv_writer::write_curv, curv_part::entry_bytes]
  pub written_part : {lent part : Bor (List ℕ)} {why' : ℕ} → lent.now ≡ tag → PartPromise lent part why'
      → (why' ≡ 0) × (part.now ≡ bytes_of t)
  written_part {lent} e p =
      let g = granted_part (rw e granted_stated) p in
      (g.0, g.1 ∙ ap part_of e ∙ part_stated)

-- Tag bytes that are read are written back the same, into a buffer of their length. [curv_writer::write_curv,
-- curv_reader::read_curv]
pub read_writes : {b out t buffer b' : List ℕ} {r : Result (Unit {0}) Refusal} → EightBits b
    → ReadPromise b out (Ok tt) t
    → length buffer ≡ length b → WritePromise t buffer r b'
    → (r ≡ Ok tt) × (b' ≡ b)
read_writes {b} {out} {t} {buffer} w read e p =
    let g = granted_read b out read in
    let ok : Readable b = readable b g.0 in
    let long : length t ≡ count_of b = ap length g.2 ∙ length_tabulated (entry_at b) (count_of b) in
    let few : length t ≤ 65536 = omega (arith, ok.few) in
    let room : length buffer ≡ tag_length (length t) = omega (arith, total_exact (count_of b) (length b) ok.whole) in
    let s = write_one p (write_granted t buffer _ few room refl) in
    (s.0, s.1 ∙ ap tag_of g.2 ∙ tag_rewritten b w ok)

-- What is written for 16-bit entries is bytes, eight bits wide. [curv_writer::write_curv]
pub written_eight : {t out tag : List ℕ} → SixteenBits t → WritePromise t out (Ok tt) tag → EightBits tag
written_eight {t} {out} wide written =
    let g = granted_write t out written in
    rw g.2 (tag_eight t g.0 wide)

-- Of 16-bit entries a write, whatever it answers, leaves bytes where bytes were. [curv_writer::write_curv]
pub write_keeps_eight : {t out out' : List ℕ} {r : Result (Unit {0}) Refusal}
    → SixteenBits t → EightBits out → WritePromise t out r out' → EightBits out'
write_keeps_eight {t} {out} {out'} wide eight p = go (write_verdict t out) refl
  where
    go : (v : Verdict) → write_verdict t out ≡ v → EightBits out'
    go granted e = written_eight {t = t} {out = out} wide (record { number = ap number_in (sym e); after = p.after })
    go (refused why) e = rw (simp e at p.after) eight

-- What was written is read, and written again the same. Nothing is asked of its bytes: a write leaves what
-- `read_writes` asks for. [curv_writer::write_curv]
pub written_rewrites : {t out tag buffer t' again tag' : List ℕ} {q r : Result (Unit {0}) Refusal} → SixteenBits t
    → WritePromise t out (Ok tt) tag
    → length buffer ≡ length t → ReadPromise tag buffer q t' → length again ≡ length tag → WritePromise t' again r tag'
    → (r ≡ Ok tt) × (tag' ≡ tag)
written_rewrites {tag = tag} {buffer = buffer} {t' = t'} wide written e read room p =
    let yes : ReadPromise tag buffer (Ok tt) t' = rw (written_reads written e read).0 at read in
    read_writes (written_eight wide written) yes room p
