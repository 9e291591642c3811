-- A nondecreasing table, as a test that computes and as a fact of every two entries; a table that may be worked on; and
-- an entry that fits between its neighbours. Assumes nothing.
use Rattle.std.specs.Prelude.{ℕ, ◌+◌, ◌-◌, ◌≤◌, ◌<◌, ◌≡◌, Bool, true, List, [], ◌∷◌, length, get_or, leb, ltb}
use Rattle.table.specs.Choice.{pick, both}
use Rattle.table.specs.Sizes.{sized}

-- the first entry is not below x, and no other is below the one before it
abbrev pub nondecreasing_from : ℕ → List ℕ → Bool
nondecreasing_from x [] = true
nondecreasing_from x (y ∷ l) = both (leb x y) (nondecreasing_from y l)

-- no entry is below the one before it
abbrev pub nondecreasing : List ℕ → Bool
nondecreasing [] = true
nondecreasing (x ∷ l) = nondecreasing_from x l

-- the same as a fact: of any two entries the later is not below the earlier
abbrev pub Nondecreasing : List ℕ → Type 0
Nondecreasing t = (i j : ℕ) → i ≤ j → j < length t → get_or t i 0 ≤ get_or t j 0

-- a table that may be worked on: it has 1 to 65,536 entries and is nondecreasing
pub record Passed (t : List ℕ) : Type 0 where
  pub size : sized (length t) ≡ true
  pub order : nondecreasing t ≡ true

abbrev pub last_entry : List ℕ → ℕ
last_entry t = get_or t (length t - 1) 0

-- every entry is 16 bits wide
abbrev pub SixteenBits : List ℕ → Type 0
SixteenBits t = (i : ℕ) → get_or t i 0 < 65536

-- x in place of entry i would not be below its left neighbour, where there is one
unfoldable pub not_below_left : List ℕ → ℕ → ℕ → Bool
not_below_left t i x = pick (ltb 0 i) (leb (get_or t (i - 1) 0) x) true

-- nor above its right neighbour, where there is one
unfoldable pub not_above_right : List ℕ → ℕ → ℕ → Bool
not_above_right t i x = pick (ltb (i + 1) (length t)) (leb x (get_or t (i + 1) 0)) true

-- neither below the left neighbour nor above the right one
abbrev pub suits : List ℕ → ℕ → ℕ → Bool
suits t i x = both (not_below_left t i x) (not_above_right t i x)
