-- A text that is read from the front: what its byte i adds to what the bytes after it come to. Assumes nothing.
use mathlib.Core.Path.{◌≡◌, refl}
use mathlib.Core.List.{List}
use Prim.Native.Nat.{ℕ, ◌+◌, ◌≤◌, ◌<◌}
use native.Mathlib.Numerals.{add-one}
use lib.ListN.{length, get_or, drop, drop_of_length-le}
use lib.Seq.{drop-cons}
use Rattle.picture.specs.declared.title.Next.{Next}
use Rattle.picture.specs.Text.{total}
use Rattle.picture.specs.Title.{after, after_all}

module _ (l : List ℕ) (i : ℕ) where
  pub total_next : (f : ℕ → ℕ) → i < length l → total f (drop i l) ≡ f (get_or l i 0) + total f (drop (i + 1) l)
  total_next f h = rw (add-one, drop-cons l i 0 h) refl

  pub total_none : (f : ℕ → ℕ) → length l ≤ i → total f (drop i l) ≡ 0
  total_none f h = rw (drop_of_length-le l {i = i} h) refl

  pub after_next : (s : Next) → i < length l
      → after_all s (drop i l) ≡ after_all (after s (get_or l i 0)) (drop (i + 1) l)
  after_next s h = rw (add-one, drop-cons l i 0 h) refl

  pub after_none : (s : Next) → length l ≤ i → after_all s (drop i l) ≡ s
  after_none s h = rw (drop_of_length-le l {i = i} h) refl
