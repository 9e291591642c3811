-- Worked examples, by computation: tags of no, one and two entries read, and each refusal, with the order of the
-- refusals. Assumes nothing.
use mathlib.Core.Path.{refl}
use mathlib.Core.List.{[], ◌∷◌}
use Rattle.std.specs.Prelude.{Ok, Err}
use Rattle.table.specs.Fill.{tabulated}
use Rattle.table.specs.declared.Refusal.TheVariants.{TableLength, OutputLength, TagLength, WrongSignature}
use Rattle.table.specs.declared.Refusal.TheVariants.{ReservedNotZero}
use Rattle.icc.specs.Bytes.{be16, be32}
use Rattle.curv.specs.Tag.{entry_at, total}
use Rattle.curv.specs.Promises.{tag_verdict}
use Rattle.curv.proofs.Worked.{begun, none, one, two}
use Rattle.curv_reader.specs.Promises.{ReadPromise}

none_read : ReadPromise none [] (Ok tt) []
unfolding tag_verdict total be32 tabulated
none_read = record { number = refl; after = refl }

one_read : ReadPromise one (7 ∷ []) (Ok tt) (563 ∷ [])
unfolding tag_verdict total be16 be32 entry_at tabulated
one_read = record { number = refl; after = refl }

pub two_read : ReadPromise two (7 ∷ 7 ∷ []) (Ok tt) (4660 ∷ 65534 ∷ [])
unfolding tag_verdict total be16 be32 entry_at tabulated
two_read = record { number = refl; after = refl }

-- Each refusal of a read; the buffer stays as it was lent.
short : ReadPromise
    (0x63 ∷ 0x75 ∷ 0x72 ∷ 0x76 ∷ 0 ∷ 0 ∷ 0 ∷ 0 ∷ 0 ∷ 0 ∷ 0 ∷ []) (7 ∷ []) (Err TagLength) (7 ∷ [])
unfolding tag_verdict be32
short = record { number = refl; after = refl }

unsigned : ReadPromise (0x63 ∷ 0x75 ∷ 0x72 ∷ 0x77 ∷ 0 ∷ 0 ∷ 0 ∷ 1 ∷ 0 ∷ 0 ∷ 0 ∷ 0 ∷ []) []
    (Err WrongSignature) []
unfolding tag_verdict be32
unsigned = record { number = refl; after = refl }

unreserved : ReadPromise (0x63 ∷ 0x75 ∷ 0x72 ∷ 0x76 ∷ 0 ∷ 0 ∷ 0 ∷ 1 ∷ 0 ∷ 1 ∷ 0 ∷ 1 ∷ []) []
    (Err ReservedNotZero) []
unfolding tag_verdict be32
unreserved = record { number = refl; after = refl }

-- a count of 65,537 is refused by its number, though the total is wrong too
too_many : ReadPromise (begun (0 ∷ 1 ∷ 0 ∷ 1 ∷ [])) (7 ∷ []) (Err TableLength) (7 ∷ [])
unfolding tag_verdict be32
too_many = record { number = refl; after = refl }

-- a byte more than the count asks for is refused by the total, though the buffer is wrong too
too_long : ReadPromise (begun (0 ∷ 0 ∷ 0 ∷ 1 ∷ 2 ∷ 51 ∷ 0 ∷ [])) [] (Err TagLength) []
unfolding tag_verdict total be32
too_long = record { number = refl; after = refl }

misfit : ReadPromise two (7 ∷ []) (Err OutputLength) (7 ∷ [])
unfolding tag_verdict total be32
misfit = record { number = refl; after = refl }
