-- Worked examples, by computation: tags of no, one and two entries; the last is eight bits wide, and two are counted.
-- Assumes nothing.
use mathlib.Core.Path.{refl}
use mathlib.Core.List.{List, [], ◌∷◌}
use Prim.Native.Nat.{ℕ}
use Rattle.std.specs.Prelude.{Ok}
use Rattle.icc.specs.Bytes.{EightBits, be32}
use Rattle.icc.proofs.Widths.{eight_tested}
use Rattle.curv.specs.Tag.{total}
use Rattle.curv.specs.Promises.{tag_verdict, CountPromise}

-- the first eight bytes of a curv tag, and three whole ones
abbrev pub begun : List ℕ → List ℕ
begun l = 0x63 ∷ 0x75 ∷ 0x72 ∷ 0x76 ∷ 0 ∷ 0 ∷ 0 ∷ 0 ∷ l

abbrev pub none : List ℕ
none = begun (0 ∷ 0 ∷ 0 ∷ 0 ∷ [])

abbrev pub one : List ℕ
one = begun (0 ∷ 0 ∷ 0 ∷ 1 ∷ 2 ∷ 51 ∷ [])

abbrev pub two : List ℕ
two = begun (0 ∷ 0 ∷ 0 ∷ 2 ∷ 18 ∷ 52 ∷ 255 ∷ 254 ∷ [])

pub two_eight : EightBits two
two_eight = eight_tested two refl

none_counted : CountPromise none (Ok 0)
unfolding tag_verdict total be32
none_counted = record { number = refl; value = refl }

two_counted : CountPromise two (Ok 2)
unfolding tag_verdict total be32
two_counted = record { number = refl; value = refl }
