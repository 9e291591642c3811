-- Worked examples, by computation: a tag of each type read, with numbers below 0; and each refusal, with the order of
-- the refusals. Assumes nothing.
use mathlib.Core.Path.{refl}
use mathlib.Core.List.{List, [], ◌∷◌}
use Prim.Native.Nat.{ℕ}
use lib.IntN.{ℤ, pos, negsuc}
use Rattle.std.specs.Prelude.{Ok, Err}
use Rattle.table.specs.declared.Refusal.TheVariants.{TagLength, WrongSignature, ReservedNotZero, FunctionType}
use Rattle.icc.specs.Bytes.{EightBits, be16, be32}
use Rattle.icc.proofs.Widths.{eight_tested}
use Rattle.para.specs.declared.Numbers.{Numbers}
use Rattle.para.specs.Signed.{signed_of}
use Rattle.para.specs.Tag.{count_of, raw_at, numbers_of}
use Rattle.para.specs.Promises.{tag_verdict, ReadPromise}

abbrev pub raw : ℤ → ℤ → ℤ → ℤ → ℤ → ℤ → ℤ → Numbers
raw g a b c d e f = record { g = g; a = a; b = b; c = c; d = d; e = e; f = f }

-- the first twelve bytes of a para tag of type t, and a whole tag of each type
abbrev pub begun : ℕ → List ℕ → List ℕ
begun t l = 112 ∷ 97 ∷ 114 ∷ 97 ∷ 0 ∷ 0 ∷ 0 ∷ 0 ∷ 0 ∷ t ∷ 0 ∷ 0 ∷ l

abbrev one : List ℕ
one = begun 0 (0 ∷ 2 ∷ 51 ∷ 51 ∷ [])

abbrev pub three : List ℕ
three = begun 1 (0 ∷ 2 ∷ 0 ∷ 0 ∷ 0 ∷ 1 ∷ 0 ∷ 0 ∷ 255 ∷ 255 ∷ 128 ∷ 0 ∷ [])

abbrev four : List ℕ
four = begun 2 (0 ∷ 2 ∷ 0 ∷ 0 ∷ 0 ∷ 1 ∷ 0 ∷ 0 ∷ 255 ∷ 255 ∷ 255 ∷ 255 ∷ 128 ∷ 0 ∷ 0 ∷ 0 ∷ [])

-- (sRGB's)
abbrev pub five : List ℕ
five = begun 3 (0 ∷ 2 ∷ 102 ∷ 102 ∷ 0 ∷ 0 ∷ 242 ∷ 167 ∷ 0 ∷ 0 ∷ 13 ∷ 89 ∷ 0 ∷ 0 ∷ 19 ∷ 208 ∷ 0 ∷ 0 ∷ 10 ∷ 91 ∷ [])

abbrev seventh : List ℕ
seventh = 255 ∷ 254 ∷ 0 ∷ 0 ∷ []

abbrev pub seven : List ℕ
seven =
    begun 4
    (0 ∷ 0 ∷ 0 ∷ 1 ∷ 0 ∷ 0 ∷ 1 ∷ 0 ∷ 0 ∷ 1 ∷ 0 ∷ 0 ∷ 1 ∷ 0 ∷ 0 ∷ 0 ∷ 127 ∷ 255 ∷ 255 ∷ 255 ∷ 128 ∷ 0 ∷ 0 ∷ 1 ∷ seventh)

-- the last one's numbers (`negsuc n` is -(n + 1)), and its bytes, which are eight bits wide
abbrev pub seven_raw : Numbers
seven_raw = raw (pos 1) (pos 256) (pos 65536) (pos 16777216) (pos 2147483647) (negsuc 2147483646) (negsuc 131071)

pub seven_eight : EightBits seven
seven_eight = eight_tested seven refl

-- A tag of each type read.
one_read : ReadPromise one (Ok (1, raw (pos 144179) (pos 0) (pos 0) (pos 0) (pos 0) (pos 0) (pos 0)))
unfolding tag_verdict be16 be32 count_of numbers_of raw_at signed_of
one_read = record { number = refl; count = refl; numbers = refl }

three_read : ReadPromise three
    (Ok (3, raw (pos 131072) (pos 65536) (negsuc 32767) (pos 0) (pos 0) (pos 0) (pos 0)))
unfolding tag_verdict be16 be32 count_of numbers_of raw_at signed_of
three_read = record { number = refl; count = refl; numbers = refl }

four_read : ReadPromise four
    (Ok (4, raw (pos 131072) (pos 65536) (negsuc 0) (negsuc 2147483647) (pos 0) (pos 0) (pos 0)))
unfolding tag_verdict be16 be32 count_of numbers_of raw_at signed_of
four_read = record { number = refl; count = refl; numbers = refl }

five_read : ReadPromise five
    (Ok (5, raw (pos 157286) (pos 62119) (pos 3417) (pos 5072) (pos 2651) (pos 0) (pos 0)))
unfolding tag_verdict be16 be32 count_of numbers_of raw_at signed_of
five_read = record { number = refl; count = refl; numbers = refl }

pub seven_read : ReadPromise seven (Ok (7, seven_raw))
unfolding tag_verdict be16 be32 count_of numbers_of raw_at signed_of
seven_read = record { number = refl; count = refl; numbers = refl }

-- Each refusal of a reading, the earlier one where two apply.
short : ReadPromise (112 ∷ 97 ∷ 114 ∷ 97 ∷ 0 ∷ 0 ∷ 0 ∷ 0 ∷ 0 ∷ 0 ∷ 0 ∷ []) (Err TagLength)
unfolding tag_verdict be16 be32
short = record { number = refl; count = refl; numbers = refl }

unsigned : ReadPromise (99 ∷ 117 ∷ 114 ∷ 118 ∷ 0 ∷ 0 ∷ 0 ∷ 1 ∷ 0 ∷ 0 ∷ 0 ∷ 0 ∷ []) (Err WrongSignature)
unfolding tag_verdict be16 be32
unsigned = record { number = refl; count = refl; numbers = refl }

unreserved : ReadPromise (112 ∷ 97 ∷ 114 ∷ 97 ∷ 0 ∷ 0 ∷ 0 ∷ 1 ∷ 0 ∷ 5 ∷ 0 ∷ 0 ∷ []) (Err ReservedNotZero)
unfolding tag_verdict be16 be32
unreserved = record { number = refl; count = refl; numbers = refl }

unreserved_tenth : ReadPromise (112 ∷ 97 ∷ 114 ∷ 97 ∷ 0 ∷ 0 ∷ 0 ∷ 0 ∷ 0 ∷ 5 ∷ 1 ∷ 0 ∷ []) (Err ReservedNotZero)
unfolding tag_verdict be16 be32
unreserved_tenth = record { number = refl; count = refl; numbers = refl }

unreserved_eleventh : ReadPromise
    (112 ∷ 97 ∷ 114 ∷ 97 ∷ 0 ∷ 0 ∷ 0 ∷ 0 ∷ 0 ∷ 5 ∷ 0 ∷ 1 ∷ []) (Err ReservedNotZero)
unfolding tag_verdict be16 be32
unreserved_eleventh = record { number = refl; count = refl; numbers = refl }

untyped : ReadPromise (begun 5 []) (Err FunctionType)
unfolding tag_verdict be16 be32
untyped = record { number = refl; count = refl; numbers = refl }

-- 256, and not 1
untyped_high : ReadPromise (112 ∷ 97 ∷ 114 ∷ 97 ∷ 0 ∷ 0 ∷ 0 ∷ 0 ∷ 1 ∷ 0 ∷ 0 ∷ 0 ∷ []) (Err FunctionType)
unfolding tag_verdict be16 be32
untyped_high = record { number = refl; count = refl; numbers = refl }

too_short : ReadPromise (begun 0 (0 ∷ 2 ∷ 51 ∷ [])) (Err TagLength)
unfolding tag_verdict be16 be32 count_of
too_short = record { number = refl; count = refl; numbers = refl }

too_long : ReadPromise (begun 0 (0 ∷ 2 ∷ 51 ∷ 51 ∷ 0 ∷ 0 ∷ 0 ∷ 0 ∷ [])) (Err TagLength)
unfolding tag_verdict be16 be32 count_of
too_long = record { number = refl; count = refl; numbers = refl }
