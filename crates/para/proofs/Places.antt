-- Seven numbers, place by place. Assumes nothing.
use mathlib.Core.Path.{◌≡◌, ◌∙◌, refl, sym, ap}
use mathlib.Core.Bool.{Bool, true, false}
use mathlib.Core.List.{List, [], ◌∷◌, map}
use Prim.Native.Nat.{ℕ, zero, suc, ◌≤◌, ◌<◌}
use native.Mathlib.Omega.{arith}
use borrow.Author.Tests.{ltb-true, lt-ltb}
use lib.ListN.{length, get_or, take, get_or-map}
use lib.Seq.{ext_get_or, get_or-take, length-take-le}
use lib.Dec.{ltb, lit<}
use lib.IntN.{ℤ, pos}
use lib.Signed.{mag}
use Rattle.table.specs.Choice.{pick}
use Rattle.table.specs.Fill.{tabulated}
use Rattle.table.proofs.Fill.{length_tabulated, get_or_tabulated}
use Rattle.para.specs.declared.Numbers.{Numbers}
use Rattle.para.specs.Tag.{seven, listed, placed, SignedBits, used_at, used}

-- seven numbers are those of their places
pub placed_seven : (at : ℕ → ℤ) (k : ℕ) → k < 7 → placed (seven at) k ≡ at k
unfolding tabulated
placed_seven at k h = get_or_tabulated at 7 k (pos 0) h

-- a list whose entries are made of another's, one by one, is that list mapped
pub mapped : {A B : Type 0} (make : A → B) (d : A) (e : B) (xs : List A) (ys : List B) → length ys ≡ length xs
    → ((i : ℕ) → i < length xs → get_or ys i e ≡ make (get_or xs i d)) → ys ≡ map make xs
mapped make d e [] [] long each = refl
mapped make d e [] (y ∷ ys) long each = absurd (omega arith)
mapped make d e (x ∷ xs) [] long each = absurd (omega arith)
mapped make d e (x ∷ xs) (y ∷ ys) long each =
    let first : y ≡ make x = each 0 (omega arith) in
    let rest : ys ≡ map make xs = mapped make d e xs ys (omega arith) (λ i h. each (suc i) (omega arith)) in
    λ i. first i ∷ rest i

-- seven numbers, one at a time
pub used_made : {g a b c d e f : ℤ} (n : ℕ) (at : ℕ → ℤ)
    → g ≡ used_at n at 0 → a ≡ used_at n at 1 → b ≡ used_at n at 2 → c ≡ used_at n at 3 → d ≡ used_at n at 4
    → e ≡ used_at n at 5 → f ≡ used_at n at 6
    → ◌≡◌ {A = Numbers} (record { g = g; a = a; b = b; c = c; d = d; e = e; f = f }) (used n at)
used_made n at p q r s t u v = λ i. record { g = p i; a = q i; b = r i; c = s i; d = t i; e = u i; f = v i }

-- of the first n numbers, whatever is made of each, and in that order
pub first_used : {A : Type 0} (make : ℤ → A) (n : ℕ) (at : ℕ → ℤ) → n ≤ 7
    → take n (map make (listed (used n at))) ≡ tabulated (λ k. make (at k)) n
first_used make n at h =
    let l = map make (listed (used n at)) in
    let long : length (take n l) ≡ n = length-take-le n l h in
    ext_get_or (make (pos 0)) (take n l) (tabulated (λ k. make (at k)) n)
    (long ∙ sym (length_tabulated (λ k. make (at k)) n)) (λ k below.
    let here : k < n = omega arith in
    get_or-take n l k (make (pos 0)) here
    ∙ get_or-map make (listed (used n at)) k (pos 0)
    ∙ ap make (placed_seven (used_at n at) k (omega arith) ∙ simp (lt-ltb k n here))
    ∙ sym (get_or_tabulated (λ k. make (at k)) n k (make (pos 0)) here))

-- two rules that agree at the first n places give the same numbers
pub used_same : (n : ℕ) (at other : ℕ → ℤ) → ((k : ℕ) → k < n → at k ≡ other k) → used n at ≡ used n other
used_same n at other e = λ i. seven (λ k. place k (ltb k n) refl i)
  where
    place : (k : ℕ) (t : Bool) → ltb k n ≡ t → pick t (at k) (pos 0) ≡ pick t (other k) (pos 0)
    place k true below = e k (ltb-true k n below)
    place k false above = refl

-- seven numbers of 32 bits are 32 bits wide at every place
pub each_wide : (m : Numbers) → mag m.g < 0x8000_0000 → mag m.a < 0x8000_0000 → mag m.b < 0x8000_0000
    → mag m.c < 0x8000_0000
    → mag m.d < 0x8000_0000 → mag m.e < 0x8000_0000 → mag m.f < 0x8000_0000 → SignedBits m
each_wide m p q r s t u v zero = p
each_wide m p q r s t u v (suc zero) = q
each_wide m p q r s t u v (suc (suc zero)) = r
each_wide m p q r s t u v (suc (suc (suc zero))) = s
each_wide m p q r s t u v (suc (suc (suc (suc zero)))) = t
each_wide m p q r s t u v (suc (suc (suc (suc (suc zero))))) = u
each_wide m p q r s t u v (suc (suc (suc (suc (suc (suc zero)))))) = v
each_wide m p q r s t u v (suc (suc (suc (suc (suc (suc (suc k))))))) = lit< tt

-- and so are those that are used, if all are
pub used_wide : (n : ℕ) (at : ℕ → ℤ) → ((k : ℕ) → mag (at k) < 0x8000_0000) → SignedBits (used n at)
used_wide n at w = each_wide (used n at) (place 0) (place 1) (place 2) (place 3) (place 4) (place 5) (place 6)
  where
    chosen : (t : Bool) (z : ℤ) → mag z < 0x8000_0000 → mag (pick t z (pos 0)) < 0x8000_0000
    chosen true z h = h
    chosen false z h = lit< tt

    place : (k : ℕ) → mag (used_at n at k) < 0x8000_0000
    place k = chosen (ltb k n) (at k) (w k)
