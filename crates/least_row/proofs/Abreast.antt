-- Four searches side by side, and the row that is written by them. Each search has a lower index of its own, and all
-- have as many entries to go: between the two the first entry that is not below the value is bracketed, and a step
-- halves what is left. Assumes nothing.
use Prim.Native.Nat.{ℕ, zero, suc, ◌+◌, ◌-◌, ◌*◌, ◌/◌, ◌≤◌, ◌<◌, zero-le}
use mathlib.Core.Path.{◌≡◌, ◌∙◌, refl, sym, ap, subst}
use mathlib.Core.Logic.{⊎_elim}
use mathlib.Core.List.{List, [], ◌∷◌}
use native.Mathlib.Omega.{arith}
use borrow.Author.Tests.{lt-ltb, le-ltb}
use lib.Dec.{ltb}
use lib.ListN.{length, get_or, set, length-set}
use Rattle.table.specs.Choice.{pick}
use Rattle.table.specs.Fill.{tabulated}
use Rattle.table.specs.Order.{last_entry}
use Rattle.table.proofs.Choice.{below?}
use Rattle.table.proofs.Fill.{length_tabulated, get_or_tabulated}
use Rattle.table.proofs.Fill.{Filling, filling_start, filling_more, filling_again, filling_done}
use Rattle.least.specs.Inside.{Searchable, FirstReaching}
use Rattle.least.proofs.Bracket.{Bracket, bracket_start, bracket_half, bracket_end}
use Rattle.least.proofs.Tables.{searchable_few}
use Rattle.least_row.specs.Promises.{least_row_at, least_row_of}

-- a step of the search for v: `half` entries past `low` where the last of them is below v, else `low`
abbrev closer : List ℕ → ℕ → ℕ → ℕ → ℕ
closer t v low half = pick (ltb (get_or t (low + half - 1) 0) v) (low + half) low

-- the same for the j-th of four values from the i-th on
abbrev pub closer_at : List ℕ → List ℕ → ℕ → List ℕ → ℕ → ℕ → ℕ
closer_at t values i low half j = closer t (get_or values (i + j) 0) (get_or low j 0) half

-- a step that goes back by the half where x is at least v, r being 1 there and else 0
module _ {x v r : ℕ} (half : ℕ) (none : x < v → r ≡ 0) (one : v ≤ x → r ≡ 1) where
  back_none : x < v → r * half ≡ 0
  back_none l = ap (λ (n : ℕ). n * half) (none l) ∙ omega arith

  back_half : v ≤ x → r * half ≡ half
  back_half l = ap (λ (n : ℕ). n * half) (one l) ∙ omega arith

  pub back_small : r * half ≤ half
  back_small = ⊎_elim (λ l. omega (arith, back_none l)) (λ l. omega (arith, back_half l)) (below? x v)

pub stepped : (t : List ℕ) (v low half : ℕ) {x r : ℕ} → x ≡ get_or t (low + half - 1) 0 → (x < v → r ≡ 0)
    → (v ≤ x → r ≡ 1) → low + half - r * half ≡ closer t v low half
stepped t v low half {x} {r} e none one = ⊎_elim below reached (below? x v)
  where
    below : x < v → low + half - r * half ≡ closer t v low half
    below l =
        let test = lt-ltb (get_or t (low + half - 1) 0) v (subst (λ (n : ℕ). n < v) e l) in
        simp test (omega (arith, back_none half none one l))

    reached : v ≤ x → low + half - r * half ≡ closer t v low half
    reached l =
        let test = le-ltb (get_or t (low + half - 1) 0) v (subst (λ (n : ℕ). v ≤ n) e l) in
        simp test (omega (arith, back_half half none one l))

pub record Searching (t : List ℕ) (top : ℕ) (values : List ℕ) (i : ℕ) (low : List ℕ) (left : ℕ) : Type 0 where
  pub four : length low ≡ 4
  each : (j : ℕ) → j < 4 → Bracket t top (get_or values (i + j) 0) (get_or low j 0) (get_or low j 0 + left)

module _ {t values : List ℕ} {top i : ℕ} (s : Searchable t top) where
  -- all begin with the table's first entry
  pub searching_start : Searching t top values i (0 ∷ 0 ∷ 0 ∷ 0 ∷ []) top
  searching_start = record { four = refl; each = λ j h. from_first j }
    where
      none : (j : ℕ) → ◌≡◌ {A = ℕ} (get_or (0 ∷ 0 ∷ 0 ∷ 0 ∷ []) j 0) 0
      none zero = refl
      none (suc zero) = refl
      none (suc (suc zero)) = refl
      none (suc (suc (suc zero))) = refl
      none (suc (suc (suc (suc j)))) = refl

      from_first : (j : ℕ) → Bracket t top (get_or values (i + j) 0) (get_or (0 ∷ 0 ∷ 0 ∷ 0 ∷ []) j 0)
          (get_or (0 ∷ 0 ∷ 0 ∷ 0 ∷ []) j 0 + top)
      from_first j =
          let whole : top ≡ 0 + top = omega arith in
          subst (λ (n : ℕ). Bracket t top (get_or values (i + j) 0) n (n + top)) (sym (none j))
          (subst (λ (h : ℕ). Bracket t top (get_or values (i + j) 0) 0 h) whole (bracket_start s))

  module _ {low : List ℕ} {left : ℕ} (b : Searching t top values i low left) where
    pub searching_left : left ≤ 65535
    searching_left = omega (arith, (b.each 0 (omega arith)).inside, searchable_few s)

    pub searching_room : 0 < left → (j : ℕ) → j < 4 → get_or low j 0 + (left + 1) / 2 ≤ length t
    searching_room p j h = omega (arith, (b.each j h).inside, s.last)

    pub searching_more : {further : List ℕ} → 0 < left
        → further ≡ tabulated (closer_at t values i low ((left + 1) / 2)) 4
        → Searching t top values i further (left / 2)
    searching_more {further} p e = record {
      four = ap length e ∙ length_tabulated (closer_at t values i low ((left + 1) / 2)) 4;
      each = λ j h.
          let at : get_or further j 0 ≡ closer_at t values i low ((left + 1) / 2) j =
          ap (λ (l : List ℕ). get_or l j 0) e
          ∙ get_or_tabulated (closer_at t values i low ((left + 1) / 2)) 4 j 0 h in
          bracket_half s (b.each j h) p
          (λ l. at ∙ simp (lt-ltb (get_or t (get_or low j 0 + (left + 1) / 2 - 1) 0) (get_or values (i + j) 0) l) refl)
          (λ l. at ∙ simp (le-ltb (get_or t (get_or low j 0 + (left + 1) / 2 - 1) 0) (get_or values (i + j) 0) l) refl);
    }

    pub searching_end : left ≤ 0 → (j : ℕ) → j < 4 → get_or values (i + j) 0 ≤ last_entry t
        → FirstReaching t (get_or values (i + j) 0) (get_or low j 0)
    searching_end z j h = bracket_end s (b.each j h) (omega arith)

-- a row, as long as the values, of which the first i places are written
pub record WrittenTo (t values : List ℕ) (i : ℕ) (out : List ℕ) : Type 0 where
  filling : Filling (least_row_at t values) out i out
  pub size : length out ≡ length values
  pub inside : i ≤ length values

module _ {t values : List ℕ} where
  pub written_start : {out : List ℕ} → length out ≡ length values → WrittenTo t values 0 out
  written_start {out} e =
      record { filling = filling_start (least_row_at t values) out; size = e; inside = zero-le }

  module _ {out : List ℕ} {i : ℕ} (w : WrittenTo t values i out) where
    pub written_at : {k : ℕ} → k ≡ i → WrittenTo t values k out
    written_at e = subst (λ (m : ℕ). WrittenTo t values m out) (sym e) w

    pub written_more : {x : ℕ} → i < length values → x ≡ least_row_at t values i
        → WrittenTo t values (i + 1) (set out i x)
    written_more {x} h e = record {
      filling =
          filling_again (least_row_at t values)
          (filling_more (least_row_at t values) w.filling (omega (arith, w.size)) e);
      size = length-set out i x ∙ w.size;
      inside = omega arith;
    }

    pub written_done : length values ≤ i → out ≡ least_row_of t values
    written_done h = filling_done (least_row_at t values) w.filling w.size h
