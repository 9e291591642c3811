-- The violations of a direction, counted between neighbours, and when a table is monotonic: 20 × violations < entries,
-- or fewer than 2 entries. Assumes nothing.
use Rattle.std.specs.Prelude.{ℕ, ◌+◌, ◌*◌, Bool, true, false, List, [], ◌∷◌, length, ltb}
use Rattle.table.specs.Choice.{pick}
use Rattle.monotonic.specs.declared.Direction.{Direction}
use Rattle.monotonic.specs.declared.Direction.TheVariants.{Rising, Falling}

-- what a test counts for, and what stands in the place for yes or no
abbrev pub yes_no : Bool → ℕ
yes_no true = 1
yes_no false = 0

-- the step from x to y is a violation: a fall where the direction is rising, a rise where it is falling
abbrev pub against : Direction → ℕ → ℕ → Bool
against Rising x y = ltb y x
against Falling x y = ltb x y

-- the violations from x to the first of the entries, and from each of them to the next
abbrev pub violations_from : Direction → ℕ → List ℕ → ℕ
violations_from d x [] = 0
violations_from d x (y ∷ l) = yes_no (against d x y) + violations_from d y l

-- the violations between neighbours
abbrev pub violations : Direction → List ℕ → ℕ
violations d [] = 0
violations d (x ∷ l) = violations_from d x l

-- yes if n < 2, else yes exactly if 20v < n
unfoldable pub few_enough : ℕ → ℕ → Bool
few_enough n v = pick (ltb n 2) true (ltb (20 * v) n)

abbrev pub monotonic : Direction → List ℕ → Bool
monotonic d t = few_enough (length t) (violations d t)
