-- Which bytes are eight bits wide: those of a number that they have room for, those of numbers one after the other, and
-- a list that passes the test. Assumes nothing.
use mathlib.Core.Path.{◌≡◌}
use mathlib.Core.Bool.{Bool, true}
use mathlib.Core.List.{List, [], ◌∷◌, ◌++◌}
use Prim.Native.Nat.{ℕ, zero, suc, ◌/◌, ◌%◌, ◌<◌}
use native.Mathlib.Omega.{arith}
use borrow.Author.Tests.{ltb-true}
use lib.ListN.{get_or}
use lib.Dec.{ltb, lit<}
use Rattle.table.specs.Choice.{both}
use Rattle.table.proofs.Choice.{both_left, both_right}
use Rattle.icc.specs.Bytes.{EightBits, bytes16, bytes32}
use Rattle.icc.specs.Words.{in_turn}
use Rattle.icc.specs.Opening.{opening}
use Rattle.icc.proofs.Numbers.{bytes32_halves}

-- no bytes, one more in front, and two parts
eight_none : EightBits []
eight_none i = lit< tt

eight_more : (x : ℕ) (l : List ℕ) → x < 256 → EightBits l → EightBits (x ∷ l)
eight_more x l h w zero = h
eight_more x l h w (suc i) = w i

pub eight_append : (a b : List ℕ) → EightBits a → EightBits b → EightBits (a ++ b)
eight_append [] b v w = w
eight_append (x ∷ a) b v w = eight_more x (a ++ b) (v 0) (eight_append a b (λ i. v (suc i)) w)

-- The bytes of a number below 2^16 are eight bits wide. [icc]
pub eight_bytes16 : (x : ℕ) → x < 65536 → EightBits (bytes16 x)
unfolding bytes16
eight_bytes16 x h = eight_more (x / 256) (x % 256 ∷ []) (omega arith) (eight_more (x % 256) [] (omega arith) eight_none)

-- The bytes of a number below 2^32 are eight bits wide. [icc]
pub eight_bytes32 : (x : ℕ) → x < 0x1_0000_0000 → EightBits (bytes32 x)
eight_bytes32 x h =
    rw (bytes32_halves x)
    (eight_append (bytes16 (x / 65536)) (bytes16 (x % 65536))
    (eight_bytes16 (x / 65536) (omega arith))
    (eight_bytes16 (x % 65536) (omega arith)))

-- The bytes of numbers in turn are eight bits wide, if those of every number below a limit are, and all are below it.
-- [icc]
pub eight_words : (bytes : ℕ → List ℕ) (limit : ℕ) → ((x : ℕ) → x < limit → EightBits (bytes x))
    → (l : List ℕ) → ((i : ℕ) → get_or l i 0 < limit) → EightBits (in_turn bytes l)
unfolding in_turn
eight_words bytes limit each [] w = eight_none
eight_words bytes limit each (x ∷ l) w =
    eight_append (bytes x) (in_turn bytes l) (each x (w 0)) (eight_words bytes limit each l (λ i. w (suc i)))

-- So are the bytes of an opening.
pub eight_opening : (s : ℕ) → s < 0x1_0000_0000 → EightBits (opening s)
eight_opening s h = eight_append (bytes32 s) (bytes32 0) (eight_bytes32 s h) (eight_bytes32 0 (lit< tt))

-- the test on each byte of a list
abbrev pub eight_bits : List ℕ → Bool
eight_bits [] = true
eight_bits (x ∷ l) = both (ltb x 256) (eight_bits l)

-- A list that passes the test is eight bits wide. [icc]
pub eight_tested : (l : List ℕ) → eight_bits l ≡ true → EightBits l
eight_tested [] e = eight_none
eight_tested (x ∷ l) e =
    eight_more x l
    (ltb-true x 256 (both_left (ltb x 256) (eight_bits l) e))
    (eight_tested l (both_right (ltb x 256) (eight_bits l) e))
