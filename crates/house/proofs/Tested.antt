-- The rule at every entry of a table from one test that the checker computes, entry after entry. Assumes nothing.
use mathlib.Core.Path.{◌≡◌, subst}
use mathlib.Core.Bool.{Bool, true}
use mathlib.Core.List.{List, [], ◌∷◌}
use Prim.Native.Nat.{ℕ, zero, suc, ◌+◌, ◌-◌, ◌*◌, ◌<◌}
use native.Mathlib.Nat.{add-zero, zero-add, add-suc, suc-add, le_of_suc-le-suc, not-suc-le-zero}
use native.Mathlib.Omega.{arith}
use borrow.Author.Tests.{ltb-true, leb-true, eqb-true}
use lib.Dec.{ltb, leb, eqb}
use lib.ListN.{length, get_or}
use Rattle.table.specs.Choice.{both}
use Rattle.table.proofs.Choice.{both_left, both_right}
use Rattle.house.specs.House.{fifth, square, IsEntry, IsHouse}

-- the rule's two sides as tests; at n = 0 the second holds too, since 2·0 - 1 is 0 here
abbrev above? : ℕ → ℕ → Bool
above? i n = ltb (fifth i) (square (2 * n + 1))

abbrev below? : ℕ → ℕ → Bool
below? i n = leb (square (2 * n - 1)) (fifth i)

-- each entry meets the rule at its place, the first one's being i
abbrev every? : ℕ → List ℕ → Bool
every? i [] = true
every? i (n ∷ l) = both (both (above? i n) (below? i n)) (every? (suc i) l)

from_test : (i n : ℕ) → both (above? i n) (below? i n) ≡ true → IsEntry i n
from_test i n e =
    record {
      above = ltb-true _ _ (both_left (above? i n) (below? i n) e);
      below = λ h. leb-true _ _ (both_right (above? i n) (below? i n) e);
    }

from : (l : List ℕ) (i : ℕ) → every? i l ≡ true → (k : ℕ) → k < length l → IsEntry (i + k) (get_or l k 0)
from [] i e k h = absurd (not-suc-le-zero h)
from (n ∷ l) i e zero h = rw add-zero (from_test i n (both_left (both (above? i n) (below? i n)) (every? (suc i) l) e))
from (n ∷ l) i e (suc k) h =
    rw (add-suc, ← suc-add)
    (from l (suc i) (both_right (both (above? i n) (below? i n)) (every? (suc i) l) e) k (le_of_suc-le-suc h))

-- a table of 1,024 entries, each of which meets the rule
abbrev pub house? : List ℕ → Bool
house? t = both (eqb (length t) 1024) (every? 0 t)

pub tested : (t : List ℕ) → house? t ≡ true → IsHouse t
tested t e =
    let size : length t ≡ 1024 = eqb-true (length t) 1024 (both_left (eqb (length t) 1024) (every? 0 t) e) in
    record {
      size = size;
      rule = λ i h. subst (λ (k : ℕ). IsEntry k (get_or t i 0)) (zero-add i)
          (from t 0 (both_right (eqb (length t) 1024) (every? 0 t) e) i (omega arith));
    }
