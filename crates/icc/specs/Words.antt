-- Numbers one after the other. Assumes nothing.
use Rattle.std.specs.Prelude.{ℕ, List, [], ◌∷◌, ◌++◌}

-- the bytes of each number in turn, `bytes` being those of one
unfoldable pub in_turn : (ℕ → List ℕ) → List ℕ → List ℕ
in_turn bytes [] = []
in_turn bytes (x ∷ l) = bytes x ++ in_turn bytes l
