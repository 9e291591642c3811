-- Worked examples, by computation: tags written, with numbers below 0, and each refusal. Assumes nothing.
use mathlib.Core.Path.{◌≡◌, refl}
use mathlib.Core.List.{List, [], ◌∷◌}
use Prim.Native.Nat.{ℕ}
use lib.ListN.{length, replicate}
use lib.Dec.{lit≤}
use lib.IntN.{pos, negsuc}
use Rattle.std.specs.Prelude.{Result, Ok, Err}
use Rattle.table.specs.declared.Refusal.TheVariants.{OutputLength, FunctionType}
use Rattle.table.specs.declared.Refusal.{Refusal}
use Rattle.icc.specs.Bytes.{bytes16, bytes32}
use Rattle.icc.specs.Words.{in_turn}
use Rattle.para.specs.declared.Numbers.{Numbers}
use Rattle.para.specs.Tag.{count_of}
use Rattle.para.proofs.Worked.{raw, five, seven, seven_raw, seven_eight, seven_read}
use Rattle.para_writer.specs.Written.{pattern_of, head}
use Rattle.para_writer.specs.Promises.{WritePromise}
use Rattle.para_writer.proofs.RoundTrip.{read_writes}

-- A number that the type does not use is ignored.
five_written : WritePromise 3 (raw (pos 157286) (pos 62119) (pos 3417) (pos 5072) (pos 2651) (pos 7) (negsuc 7))
    (replicate 32 7) (Ok tt) five
unfolding count_of head in_turn bytes16 bytes32 pattern_of
five_written = record { number = refl; after = refl }

seven_written : WritePromise 4 seven_raw (replicate 40 7) (Ok tt) seven
unfolding count_of head in_turn bytes16 bytes32 pattern_of
seven_written = record { number = refl; after = refl }

-- The same tag, which is read, is written back byte for byte, by any call that keeps the promise.
seven_back : {buffer b' : List ℕ} {r : Result (Unit {0}) Refusal} → length buffer ≡ 40
    → WritePromise 4 seven_raw buffer r b'
    → (r ≡ Ok tt) × (b' ≡ seven)
unfolding count_of
seven_back e p = read_writes seven_eight seven_read (lit≤ tt) refl e p

-- Each refusal: the buffer stays as it was lent.
untyped_written : (m : Numbers) → WritePromise 5 m (7 ∷ []) (Err FunctionType) (7 ∷ [])
untyped_written m = record { number = refl; after = refl }

misfit_written : (m : Numbers) → WritePromise 0 m (replicate 20 7) (Err OutputLength) (replicate 20 7)
unfolding count_of
misfit_written m = record { number = refl; after = refl }
