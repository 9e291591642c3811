-- The test that a number is from low to high, and the two inequalities that it stands for, each from the other. Assumes
-- nothing.
use mathlib.Core.Path.{◌≡◌}
use mathlib.Core.Bool.{true, false}
use Prim.Native.Nat.{ℕ, ◌≤◌, ◌<◌}
use borrow.Author.Tests.{leb-true, le-leb, lt-leb}
use lib.Dec.{leb}
use Rattle.table.specs.Sizes.{within}
use Rattle.table.proofs.Choice.{both_left, both_right}

module _ (low high n : ℕ) where
  -- What passes the test is at least the low bound. [table::within, table::sized, table::spanned]
  pub within_low : within low high n ≡ true → low ≤ n
  unfolding within
  within_low e = leb-true low n (both_left (leb low n) (leb n high) e)

  -- What passes the test is at most the high bound. [table::within, table::sized, table::spanned]
  pub within_high : within low high n ≡ true → n ≤ high
  unfolding within
  within_high e = leb-true n high (both_right (leb low n) (leb n high) e)

  -- What is from the low to the high bound passes the test. [table::within, table::sized, table::spanned]
  pub is_within : low ≤ n → n ≤ high → within low high n ≡ true
  unfolding within
  is_within l h = simp (le-leb low n l, le-leb n high h)

  -- What is below the low bound fails the test. [table::within, table::sized, table::spanned]
  pub below_within : n < low → within low high n ≡ false
  unfolding within
  below_within l = simp (lt-leb low n l)

  -- past the first comparison the second decides
  pub within_is : low ≤ n → within low high n ≡ leb n high
  unfolding within
  within_is l = simp (le-leb low n l)
