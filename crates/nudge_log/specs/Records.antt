-- A log keeps each granted nudge as one number of 64 bits: what such a number says, and what a list of them does to a
-- table. Assumes nothing.
use Rattle.std.specs.Prelude.{ℕ, ◌+◌, ◌*◌, ◌/◌, ◌%◌, Bool, List, [], ◌∷◌, length, get_or, set, ltb, eqb}
use Rattle.table.specs.Choice.{both}
use Rattle.table.specs.Order.{suits}

-- how many nudges a log holds
abbrev pub places : ℕ
places = 63

-- the nudge of entry `index` from `old` to `new`: index·2^32 + old·2^16 + new; its top 16 bits are 0
abbrev pub word : ℕ → ℕ → ℕ → ℕ
word index old new = index * 4294967296 + old * 65536 + new

-- What any number says: its low 16 bits are the new entry, the next 16 the old one, and all above them is the index, so
-- that one whose top 16 bits are not 0 has an index beyond every table.
abbrev pub new_of : ℕ → ℕ
new_of w = w % 65536

abbrev pub old_of : ℕ → ℕ
old_of w = w / 65536 % 65536

abbrev pub index_of : ℕ → ℕ
index_of w = w / 4294967296

-- the table with one nudge done, and with it taken back
abbrev pub nudged : List ℕ → ℕ → List ℕ
nudged t w = set t (index_of w) (new_of w)

abbrev pub taken_back : List ℕ → ℕ → List ℕ
taken_back t w = set t (index_of w) (old_of w)

-- the table with a list of nudges done in order
unfoldable pub all_nudged : List ℕ → List ℕ → List ℕ
all_nudged t [] = t
all_nudged t (w ∷ ws) = all_nudged (nudged t w) ws

-- A record that goes with the table as its last nudge: its index is in the table, its new entry is the table's, and its
-- old entry would fit between the neighbours.
unfoldable pub goes_with : List ℕ → ℕ → Bool
goes_with t w =
    both (ltb (index_of w) (length t))
    (both (eqb (get_or t (index_of w) 0) (new_of w))
    (suits t (index_of w) (old_of w)))
