-- A list given entry by entry: its length, its entries, and a buffer on the way to it, one entry set at each step.
-- Assumes nothing.
use mathlib.Core.Path.{◌≡◌, ◌∙◌, refl, sym, ap}
use mathlib.Core.Logic.{⊎_elim}
use mathlib.Core.List.{List, [], ◌∷◌, ◌++◌, append_assoc, append-nil}
use Prim.Native.Nat.{ℕ, zero, suc, ◌+◌, ◌≤◌, ◌<◌, zero-le}
use native.Mathlib.Nat.{le_refl, not-suc-le-zero, le_of_suc-le-suc, eq-or-lt_of_le}
use native.Mathlib.Numerals.{add-one}
use native.Mathlib.Omega.{arith}
use lib.ListN.{length, get_or, set, drop, length-append, length-set, get_or-append}
use lib.Seq.{drop-cons, drop-length, drop_at, set_at, get_or_at}
use Rattle.table.specs.Fill.{tabulated}

module _ {A : Type 0} (f : ℕ → A) where
  -- The filled list of n has n entries. [table]
  pub length_tabulated : (n : ℕ) → length (tabulated f n) ≡ n
  unfolding tabulated
  length_tabulated zero = refl
  length_tabulated (suc n) = simp (length-append, length_tabulated n) (omega arith)

  -- Entry i of the filled list is f i. [table]
  pub get_or_tabulated : (n i : ℕ) (d : A) → i < n → get_or (tabulated f n) i d ≡ f i
  unfolding tabulated
  get_or_tabulated zero i d h = absurd (not-suc-le-zero h)
  get_or_tabulated (suc n) i d h =
      ⊎_elim
      (λ (e : i ≡ n). rw e (get_or_at (tabulated f n) (f n) [] d n (length_tabulated n)))
      (λ (l : i < n).
      get_or-append (tabulated f n) (f n ∷ []) d i (rw (length_tabulated n) l) ∙ get_or_tabulated n i d l)
      (eq-or-lt_of_le (le_of_suc-le-suc h))

  -- the buffer l once its first i entries are filled
  pub filled : ℕ → List A → List A
  filled i l = tabulated f i ++ drop i l

  filled_none : (l : List A) → filled 0 l ≡ l
  unfolding filled tabulated
  filled_none [] = refl
  filled_none (x ∷ l) = refl

  filled_more : (i : ℕ) (l : List A) → A → i < length l → set (filled i l) i (f i) ≡ filled (i + 1) l
  unfolding filled tabulated
  filled_more i l d h =
      rw (add-one, drop-cons l i d h)
      (set_at (tabulated f i) (get_or l i d) (drop (suc i) l) (f i) i (length_tabulated i)
      ∙ sym (append_assoc (tabulated f i) (f i ∷ []) (drop (suc i) l)))

  filled_all : (l : List A) → filled (length l) l ≡ tabulated f (length l)
  unfolding filled
  filled_all l = rw drop-length (append-nil (tabulated f (length l)))

  -- The invariant of a loop that fills a buffer from its first entry on: after i entries it holds the rule's, and
  -- beyond them what it held. A loop's proof needs these laws of it and nothing else.
  pub record Filling (old : List A) (i : ℕ) (buffer : List A) : Type 0 where
    pub inside : i ≤ length old
    pub size : length buffer ≡ length old
    pub holds : buffer ≡ filled i old

  pub filling_start : (old : List A) → Filling old 0 old
  filling_start old = record { inside = zero-le; size = refl; holds = sym (filled_none old) }

  module _ {old buffer : List A} {i : ℕ} (s : Filling old i buffer) where
    pub filling_more : {x : A} → i < length old → x ≡ f i → Filling old (i + 1) (set buffer i x)
    filling_more {x} h e = record {
      inside = omega arith;
      size = length-set buffer i x ∙ s.size;
      holds =
          ap (λ (l : List A). set l i x) s.holds
          ∙ ap (set (filled i old) i) e
          ∙ filled_more i old x h;
    }

    -- a loop that follows goes on from the buffer as it is
    pub filling_again : Filling buffer i buffer
    unfolding filled
    filling_again = record {
      inside = omega (arith, s.inside, s.size);
      size = refl;
      holds =
          s.holds
          ∙ ap (λ (l : List A). tabulated f i ++ l)
          (sym (ap (drop i) s.holds ∙ drop_at (tabulated f i) (drop i old) i (length_tabulated i)));
    }

    pub filling_done : {n : ℕ} → length old ≡ n → n ≤ i → buffer ≡ tabulated f n
    filling_done {n} e h =
        let here : i ≡ length old = omega arith in
        s.holds
        ∙ ap (λ (m : ℕ). filled m old) here
        ∙ filled_all old
        ∙ ap (tabulated f) e

-- two rules that agree below n give one list
pub tabulated_same : {A : Type 0} (f g : ℕ → A) (n : ℕ) → ((i : ℕ) → i < n → f i ≡ g i) → tabulated f n ≡ tabulated g n
unfolding tabulated
tabulated_same f g zero e = refl
tabulated_same f g (suc n) e = rw (tabulated_same f g n (λ i h. e i (omega arith)), e n (le_refl (suc n))) refl
