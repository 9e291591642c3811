-- The search for the first entry that is not below v, between two indices of a nondecreasing table: every entry before
-- the lower index is below v, and the entry at the upper is not, unless v is above the last. Assumes nothing.
use Prim.Native.Nat.{ℕ, ◌+◌, ◌-◌, ◌/◌, ◌≤◌, ◌<◌, zero-le}
use mathlib.Core.Path.{◌≡◌, subst, sym}
use mathlib.Core.Logic.{⊎_elim}
use mathlib.Core.List.{List}
use native.Mathlib.Nat.{le_refl, le_trans, le_antisymm, lt_of_le_of_lt, not-suc-le-zero}
use native.Mathlib.Omega.{arith}
use lib.ListN.{get_or}
use Rattle.table.specs.Order.{last_entry}
use Rattle.table.proofs.Choice.{below?}
use Rattle.least.specs.Inside.{Searchable, FirstReaching, Cell}
use Rattle.least.proofs.Tables.{searchable_last, searchable_rises}

pub record Bracket (t : List ℕ) (top v low high : ℕ) : Type 0 where
  pub ordered : low ≤ high
  pub inside : high ≤ top
  before : (j : ℕ) → j < low → get_or t j 0 < v
  here : v ≤ last_entry t → v ≤ get_or t high 0

module _ {t : List ℕ} {top v : ℕ} (s : Searchable t top) where
  pub bracket_start : Bracket t top v 0 top
  bracket_start = record {
    ordered = zero-le;
    inside = le_refl top;
    before = λ j l. absurd (not-suc-le-zero l);
    here = λ r. omega (arith, searchable_last s);
  }

  module _ {low high : ℕ} (b : Bracket t top v low high) where
    bracket_up : (m : ℕ) → m < high → get_or t m 0 < v → Bracket t top v (m + 1) high
    bracket_up m l c = record {
      ordered = omega arith;
      inside = b.inside;
      before = λ j a. lt_of_le_of_lt (searchable_rises s j m (omega arith) (omega arith)) c;
      here = b.here;
    }

    -- down to an index that is not below one where v is reached
    bracket_down : (m h : ℕ) → low ≤ h → m ≤ h → h ≤ top → v ≤ get_or t m 0 → Bracket t top v low h
    bracket_down m h a l i c = record {
      ordered = a;
      inside = i;
      before = b.before;
      here = λ r. le_trans c (searchable_rises s m h l i);
    }

    -- the two have met
    pub bracket_end : high ≤ low → v ≤ last_entry t → FirstReaching t v low
    bracket_end h r =
        let met : high ≡ low = le_antisymm h b.ordered in
        record {
          inside = omega arith;
          before = b.before;
          here = subst (λ (i : ℕ). v ≤ get_or t i 0) met (b.here r);
        }

  -- A step that halves what is left: the lower index moves past the half where the last entry of that half is below v,
  -- and what is left is the other half, rounded down.
  module _ {low left : ℕ} (b : Bracket t top v low (low + left)) (p : 0 < left) where
    abbrev last : ℕ
    last = low + (left + 1) / 2 - 1

    pub bracket_half : {r : ℕ} → (get_or t last 0 < v → r ≡ low + (left + 1) / 2) → (v ≤ get_or t last 0 → r ≡ low)
        → Bracket t top v r (r + left / 2)
    bracket_half {r} up down = ⊎_elim below reached (below? (get_or t last 0) v)
      where
        below : get_or t last 0 < v → Bracket t top v r (r + left / 2)
        below l =
            let past : last + 1 ≡ r = omega (arith, up l) in
            let rest : low + left ≡ r + left / 2 = omega (arith, up l) in
            subst (λ (h : ℕ). Bracket t top v r h) rest
            (subst (λ (i : ℕ). Bracket t top v i (low + left)) past (bracket_up b last (omega arith) l))

        reached : v ≤ get_or t last 0 → Bracket t top v r (r + left / 2)
        reached l =
            subst (λ (i : ℕ). Bracket t top v i (i + left / 2)) (sym (down l))
            (bracket_down b last (low + left / 2) (omega arith) (omega arith) (omega (arith, b.inside)) l)

-- the entry found begins the table, or there is one before it that is below v
pub found_first : {t : List ℕ} {v i : ℕ} → FirstReaching t v i → i ≡ 0 → v ≤ get_or t 0 0
found_first {t} {v = v} f e = subst (λ (j : ℕ). v ≤ get_or t j 0) e f.here

pub found_cell : {t : List ℕ} {v i : ℕ} → FirstReaching t v i → 0 < i → Cell t v (i - 1)
found_cell {t} {v} {i} f p =
    let e : i ≡ i - 1 + 1 = omega arith in
    record {
      inside = omega arith;
      below = f.before (i - 1) (omega arith);
      reached = subst (λ (j : ℕ). v ≤ get_or t j 0) e f.here;
    }
