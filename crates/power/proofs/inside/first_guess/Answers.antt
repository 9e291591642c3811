-- `first_guess` meets its contract: it is a Newton step from 2^(m/2), where m is how many binary digits v has. Assumes
-- nothing.
use mathlib.Core.Path.{◌≡◌, refl, sym, ap, subst}
use Prim.Native.Nat.{ℕ, ◌+◌, ◌-◌, ◌*◌, ◌/◌, ◌%◌, ◌^◌, ◌≤◌, ◌<◌}
use native.Mathlib.Omega.{arith}
use lib.Count.{count_leading_zeros, leading_length}
use Rattle.power.specs.Inside.{NotBelowRoot}
use Rattle.power.proofs.Newton.{shifted_one, start_small, start_quotient, start_keeps}
use Rattle.power.proofs.inside.first_guess.Goals as goal

-- how far the code shifts
abbrev half : ℕ → ℕ
half v = (64 - count_leading_zeros 64 v) / 2

-- what the code has before its last division
abbrev sum : ℕ → ℕ
sum v = (1 * 2 ^ half v) % 2 ^ 64 + v / 2 ^ half v

digits : (v m : ℕ) → count_leading_zeros 64 v + m ≡ 64 → half v ≡ m / 2
digits v m e = ap (λ (k : ℕ). k / 2) (omega arith)

sum_is : (v m : ℕ) → count_leading_zeros 64 v + m ≡ 64 → sum v ≡ 2 ^ (m / 2) + v / 2 ^ (m / 2)
sum_is v m e = rw (digits v m e, shifted_one (m / 2) (omega arith)) refl

sum_small : (v : ℕ) → v < 2 ^ 64 → sum v < 2 ^ 64
sum_small v h =
    let l = leading_length 64 v h in
    let few : l.0 ≤ 64 = omega (arith, l.1) in
    omega (arith, sum_is v l.0 l.1, start_small v l.0 few l.2, start_quotient v l.0 few l.2)

keeps : (v : ℕ) → v < 2 ^ 64 → NotBelowRoot v (sum v / 2)
keeps v h =
    let l = leading_length 64 v h in
    let few : l.0 ≤ 64 = omega (arith, l.1) in
    subst (λ (k : ℕ). NotBelowRoot v (k / 2)) (sym (sum_is v l.0 l.1)) (start_keeps v l.0 few l.2)

pub overflow_add-result : goal.overflow_add-result
overflow_add-result c =
    record { fits = sum_small c.args.v c.ranges.v.fits }

pub returns : goal.returns
returns c =
    keeps c.args.v c.ranges.v.fits
