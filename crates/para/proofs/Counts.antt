-- How many numbers a function type has, by the five types. Assumes nothing.
use mathlib.Core.Path.{◌≡◌, ◌∙◌, refl, sym, ap}
use mathlib.Core.List.{[], ◌∷◌}
use Prim.Native.Nat.{ℕ, zero, suc, ◌≤◌}
use native.Mathlib.Omega.{arith}
use lib.ListN.{get_or}
use lib.Dec.{lit≤}
use Rattle.para.specs.Tag.{count_of}

-- what holds of each type up to 4
pub five : (P : ℕ → Type 0) → P 0 → P 1 → P 2 → P 3 → P 4 → (t : ℕ) → t ≤ 4 → P t
five P p q r s u zero h = p
five P p q r s u (suc zero) h = q
five P p q r s u (suc (suc zero)) h = r
five P p q r s u (suc (suc (suc zero))) h = s
five P p q r s u (suc (suc (suc (suc zero)))) h = u
five P p q r s u (suc (suc (suc (suc (suc t))))) h = absurd (omega arith)

-- the one that the first four are not
pub last_type : (t : ℕ) → t ≤ 4 → (t ≡ 0 → ⊥) → (t ≡ 1 → ⊥) → (t ≡ 2 → ⊥) → (t ≡ 3 → ⊥) → t ≡ 4
last_type =
    five (λ t. (t ≡ 0 → ⊥) → (t ≡ 1 → ⊥) → (t ≡ 2 → ⊥) → (t ≡ 3 → ⊥) → t ≡ 4)
    (λ p q r s. absurd (p refl))
    (λ p q r s. absurd (q refl))
    (λ p q r s. absurd (r refl))
    (λ p q r s. absurd (s refl))
    (λ p q r s. refl)

pub count_most : (t : ℕ) → t ≤ 4 → count_of t ≤ 7
unfolding count_of
count_most = five (λ t. count_of t ≤ 7) (lit≤ tt) (lit≤ tt) (lit≤ tt) (lit≤ tt) (lit≤ tt)

-- the type that has n
type_with : ℕ → ℕ
type_with n = get_or (0 ∷ 0 ∷ 0 ∷ 1 ∷ 2 ∷ 3 ∷ 0 ∷ 4 ∷ []) n 0

type_with_lem : (t : ℕ) → t ≤ 4 → type_with (count_of t) ≡ t
unfolding count_of type_with
type_with_lem = five (λ t. type_with (count_of t) ≡ t) refl refl refl refl refl

-- no two types have as many
pub same_type : {t u : ℕ} → t ≤ 4 → u ≤ 4 → count_of t ≡ count_of u → t ≡ u
same_type {t} {u} h k e = sym (type_with_lem t h) ∙ ap type_with e ∙ type_with_lem u k
