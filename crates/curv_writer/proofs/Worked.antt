-- Worked examples, by computation: tables written, and each refusal; and that above 65,536 entries no total helps a
-- tag. Assumes nothing.
use mathlib.Core.Path.{◌≡◌, refl}
use mathlib.Core.List.{List, [], ◌∷◌}
use Prim.Native.Nat.{ℕ, ◌<◌}
use native.Mathlib.Omega.{arith}
use lib.ListN.{length, replicate}
use Rattle.std.specs.Prelude.{Result, Ok, Err}
use Rattle.table.specs.declared.Refusal.TheVariants.{TableLength, OutputLength}
use Rattle.table.specs.declared.Refusal.{Refusal}
use Rattle.icc.specs.Bytes.{bytes16, bytes32}
use Rattle.icc.specs.Words.{in_turn}
use Rattle.curv.specs.Promises.{CountPromise}
use Rattle.curv.proofs.Checks.{many}
use Rattle.curv.proofs.Promises.{count_refused}
use Rattle.curv.proofs.Worked.{none, two, two_eight}
use Rattle.curv_reader.proofs.Worked.{two_read}
use Rattle.curv_writer.specs.Written.{head, tag_of}
use Rattle.curv_writer.specs.Promises.{WritePromise}
use Rattle.curv_writer.proofs.Promises.{write_many}
use Rattle.curv_writer.proofs.RoundTrip.{read_writes}
use Rattle.curv_writer.proofs.Written.{length_tag, tag_signed, tag_zeros, tag_count}

two_written : WritePromise (4660 ∷ 65534 ∷ []) (replicate 16 7) (Ok tt) two
unfolding head in_turn bytes16 bytes32
two_written = record { number = refl; after = refl }

none_written : WritePromise [] (replicate 12 7) (Ok tt) none
unfolding head in_turn bytes32
none_written = record { number = refl; after = refl }

-- Above 65,536 entries no total helps, and no table is written.
many_counted : (t : List ℕ) → 65536 < length t → CountPromise (tag_of t) (Err TableLength)
many_counted t h =
    count_refused (tag_of t) TableLength
    (many (tag_of t) (omega (arith, length_tag t)) (tag_signed t) (tag_zeros t) (omega (arith, tag_count t)))

many_written : (t out : List ℕ) → 65536 < length t → WritePromise t out (Err TableLength) out
many_written t out h = write_many t out h

-- The worked tag, which is read, is written back byte for byte, by any call that keeps the promise.
two_back : {buffer b' : List ℕ} {r : Result (Unit {0}) Refusal} → length buffer ≡ 16
    → WritePromise (4660 ∷ 65534 ∷ []) buffer r b'
    → (r ≡ Ok tt) × (b' ≡ two)
two_back e p = read_writes two_eight two_read e p

misfit_written : WritePromise (4660 ∷ []) (7 ∷ []) (Err OutputLength) (7 ∷ [])
misfit_written = record { number = refl; after = refl }
