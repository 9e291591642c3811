-- A record says what it was made of, and when it goes with a table. Assumes nothing.
use mathlib.Core.Path.{◌≡◌, refl}
use mathlib.Core.Bool.{true, false}
use mathlib.Core.List.{List, [], ◌∷◌}
use Prim.Native.Nat.{ℕ, ◌≤◌, ◌<◌}
use native.Mathlib.Omega.{arith}
use borrow.Author.Tests.{lt-ltb, le-ltb, eq-eqb, ne_eqb, ltb-true}
use lib.ListN.{length, get_or}
use Rattle.table.specs.Order.{not_below_left, not_above_right, suits}
use Rattle.table.proofs.Choice.{both_left}
use Rattle.nudge_log.specs.Records.{word, new_of, old_of, index_of, goes_with}

module _ (i old new : ℕ) (o : old < 65536) (n : new < 65536) where
  -- A word's index is the one that it was made of. [nudge_log]
  pub index_word : index_of (word i old new) ≡ i
  index_word = omega arith

  -- A word's old entry is the one that it was made of. [nudge_log]
  pub old_word : old_of (word i old new) ≡ old
  old_word = omega arith

  -- A word's new entry is the one that it was made of. [nudge_log]
  pub new_word : new_of (word i old new) ≡ new
  new_word = omega arith

-- A word's new entry is 16 bits wide, whatever the word. [nudge_log]
pub new_narrow : (w : ℕ) → new_of w < 65536
new_narrow w = omega arith

-- A word's old entry is 16 bits wide, whatever the word. [nudge_log]
pub old_narrow : (w : ℕ) → old_of w < 65536
old_narrow w = omega arith

-- The three tests of a record that goes with a table, one after the other.
module _ (t : List ℕ) (w : ℕ) where
  pub goes_beyond : length t ≤ index_of w → goes_with t w ≡ false
  unfolding goes_with
  goes_beyond h = simp (le-ltb _ _ h)

  pub goes_other : index_of w < length t → (get_or t (index_of w) 0 ≡ new_of w → ⊥) → goes_with t w ≡ false
  unfolding goes_with
  goes_other h n = simp (lt-ltb _ _ h, ne_eqb _ _ n)

  pub goes_same : index_of w < length t → get_or t (index_of w) 0 ≡ new_of w
      → goes_with t w ≡ suits t (index_of w) (old_of w)
  unfolding goes_with
  goes_same h e = simp (lt-ltb _ _ h, eq-eqb _ _ e)

  -- A word that goes with a table has an index inside it. [nudge_log]
  pub goes_inside : goes_with t w ≡ true → index_of w < length t
  unfolding goes_with
  goes_inside e = ltb-true _ _ (both_left _ _ e)

-- Worked: between 10 and 30 an old entry of 31 does not fit, nor does one of 9; 30 and 10 do.
between : List ℕ
between = 10 ∷ 20 ∷ 30 ∷ []

above_right : goes_with between (word 1 31 20) ≡ false
unfolding goes_with not_below_left not_above_right between
above_right = refl

below_left : goes_with between (word 1 9 20) ≡ false
unfolding goes_with not_below_left not_above_right between
below_left = refl

as_right : goes_with between (word 1 30 20) ≡ true
unfolding goes_with not_below_left not_above_right between
as_right = refl

as_left : goes_with between (word 1 10 20) ≡ true
unfolding goes_with not_below_left not_above_right between
as_left = refl
