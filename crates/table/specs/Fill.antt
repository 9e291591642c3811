-- A list given entry by entry: how a promise says what a filled buffer holds. Assumes nothing.
use Rattle.std.specs.Prelude.{ℕ, zero, suc, List, [], ◌∷◌, ◌++◌}

-- f 0, f 1 and so on, n of them
unfoldable pub tabulated : {A : Type 0} → (ℕ → A) → ℕ → List A
tabulated f zero = []
tabulated f (suc n) = tabulated f n ++ (f n ∷ [])
