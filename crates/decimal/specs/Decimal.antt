-- Decimal numbers by their digits, and what a number comes to where it stands: itself, one above the largest there, or
-- wrong. Assumes nothing.
use Rattle.std.specs.Prelude.{ℕ, ◌+◌, ◌-◌, ◌*◌, ◌≤◌, ◌<◌, Bool, true, false, ◌≡◌, ltb, leb, eqb}
use Rattle.table.specs.Choice.{pick}
use Rattle.decimal.specs.declared.Natural.{Natural}
use Rattle.decimal.specs.declared.Sum.{Sum}

-- whether a byte is a digit
abbrev pub is_digit : ℕ → Bool
is_digit byte = pick (ltb byte 48) false (leb byte 57)

-- whether a number has a digit
abbrev pub has_digit : Natural → Bool
has_digit Natural.NoDigit = false
has_digit (Natural.Exact v) = true
has_digit Natural.Edge = true
has_digit Natural.Above = true

-- n stands for the number x: 0 without a digit; below 2^64 it holds x itself; else it says whether x is 2^64 or more
abbrev pub Stands : Natural → ℕ → Type 0
Stands Natural.NoDigit x = x ≡ 0
Stands (Natural.Exact v) x = v ≡ x
Stands Natural.Edge x = x ≡ 18446744073709551616
Stands Natural.Above x = 18446744073709551616 < x

-- r stands for n's number with one digit more,
pub record GrowsBy (n : Natural) (digit : ℕ) (r : Natural) : Type 0 where
  pub more : (x : ℕ) → Stands n x → Stands r (x * 10 + digit)

-- which is written by its byte
pub record Grows (n : Natural) (byte : ℕ) (r : Natural) : Type 0 where
  pub more : (x : ℕ) → Stands n x → 48 ≤ byte → byte ≤ 57 → Stands r (x * 10 + (byte - 48))

-- what x comes to in a place whose largest number is m
abbrev pub comes_to : ℕ → ℕ → Sum
comes_to m x = pick (leb x m) (Sum.Suits x) (pick (eqb x (m + 1)) Sum.OneAbove Sum.Wrong)

pub record Comes (n : Natural) (m : ℕ) (r : Sum) : Type 0 where
  pub none : has_digit n ≡ false → r ≡ Sum.Wrong
  pub some : has_digit n ≡ true → (x : ℕ) → Stands n x → r ≡ comes_to m x

-- the code of -x and of x among the numbers of 32 bits, which is 2^31 more
abbrev pub code_of : Bool → ℕ → Sum
code_of true x = pick (leb x 2147483648) (Sum.Suits (2147483648 - x)) Sum.Wrong
code_of false x = pick (ltb x 2147483648) (Sum.Suits (2147483648 + x)) (pick (eqb x 2147483648) Sum.OneAbove Sum.Wrong)

pub record ComesCoded (n : Natural) (minus : Bool) (r : Sum) : Type 0 where
  pub none : has_digit n ≡ false → r ≡ Sum.Wrong
  pub some : has_digit n ≡ true → (x : ℕ) → Stands n x → r ≡ code_of minus x
