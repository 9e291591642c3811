-- Worked examples: document 01's least inputs, a value equal to the last entry, each refusal, and the laws on one
-- sitting's tables. The lookups in them come from the lookup's law on two weighed entries. Assumes nothing.
use mathlib.Core.Path.{◌≡◌, refl, sym, ap}
use mathlib.Core.Logic.{⊎_elim}
use mathlib.Core.List.{List, [], ◌∷◌}
use Prim.Native.Nat.{ℕ, suc, ◌+◌, ◌-◌, ◌*◌, ◌≤◌, ◌<◌, zero-le}
use native.Mathlib.Omega.{arith}
use lib.ListN.{length, get_or}
use lib.Dec.{lit<, lit≤}
use Rattle.std.specs.Prelude.{Result, Ok, Err}
use Rattle.table.specs.Sizes.{within}
use Rattle.table.specs.declared.Density.{Density}
use Rattle.table.specs.declared.Refusal.TheVariants.{TableLength, NotNondecreasing, AboveLast}
use Rattle.table.proofs.Choice.{below?}
use Rattle.lookup.specs.Lookup.{looked_up}
use Rattle.lookup.proofs.LookupLaws.{lookup_reaches}
use Rattle.curve.specs.Promises.{sitting_on}
use Rattle.nudge.specs.Calls.{Call, nudge}
use Rattle.nudge.proofs.Sitting.{turns_of, accept_begins, every_list_goes}
use Rattle.least.specs.Least.{least_of}
use Rattle.table.specs.Order.{Passed}
use Rattle.table.specs.Turns.{Throughout}
use Rattle.table.specs.declared.Drive.{Drive}
use Rattle.table.specs.declared.Refusal.{Refusal}
use Rattle.least.specs.Promises.{LeastPromise}
use Rattle.least.proofs.LeastLaws.{least_at}
use Rattle.least.proofs.Demand.{CurveObeys, sitting_obeys}
use Rattle.least.proofs.Tables.{table_rises}

density : ℕ → Density
density n = record { 0 = n }

at : ℕ → Result Drive Refusal
at p = Ok (record { 0 = p })

-- c entries passed and k steps towards the next: whether the lookup there is at least v, by the two entries
module _ (t : List ℕ) (p v c k : ℕ) (e : p * (length t - 1) ≡ c * 65535 + k) (h : k ≤ 65535) where
  reached : v * 65535 ≤ get_or t (c + 1) 0 * k + get_or t c 0 * (65535 - k) → v ≤ looked_up t p
  reached r = (lookup_reaches t p v c k e h).1 r

  missed : get_or t (c + 1) 0 * k + get_or t c 0 * (65535 - k) < v * 65535 → looked_up t p < v
  missed l =
      ⊎_elim (λ m. m) (λ r. absurd (omega (arith, (lookup_reaches t p v c k e h).0 r)))
      (below? (looked_up t p) v)

-- where the lookup is below v at q and at least v at the next position, that one is the least input
stands : {t : List ℕ} → Passed t → (v q : ℕ) → suc q ≤ 65535 → looked_up t q < v → v ≤ looked_up t (suc q)
    → least_of (looked_up t) v ≡ suc q
stands {t} s v q h l r =
    least_at (looked_up t) v (table_rises s) (suc q) h r
    (λ p e. let same : p ≡ q = omega arith in omega (arith, ap (looked_up t) same))

bent : List ℕ
bent = 0 ∷ 100 ∷ 65535 ∷ []

unfoldable pub short : List ℕ
short = 10 ∷ 20 ∷ []

bent_ok : Passed bent
unfolding bent within
bent_ok = record { size = refl; order = refl }

short_ok : Passed short
unfolding short within
short_ok = record { size = refl; order = refl }

bent_0 : least_of (looked_up bent) 0 ≡ 0
bent_0 = least_at (looked_up bent) 0 (table_rises bent_ok) 0 zero-le zero-le (λ q e. absurd (omega arith))

bent_100 : least_of (looked_up bent) 100 ≡ 32768
unfolding bent
bent_100 =
    stands bent_ok 100 32767 (lit≤ tt) (missed bent 32767 100 0 65534 refl (lit≤ tt) (lit< tt))
    (reached bent 32768 100 1 1 refl (lit≤ tt) (lit≤ tt))

bent_65534 : least_of (looked_up bent) 65534 ≡ 65535
unfolding bent
bent_65534 =
    stands bent_ok 65534 65534 (lit≤ tt) (missed bent 65534 65534 1 65533 refl (lit≤ tt) (lit< tt))
    (reached bent 65535 65534 1 65535 refl (lit≤ tt) (lit≤ tt))

-- the last entry itself is reached, at the last position
pub short_20 : least_of (looked_up short) 20 ≡ 65535
unfolding short
short_20 =
    stands short_ok 20 65534 (lit≤ tt) (missed short 65534 20 0 65534 refl (lit≤ tt) (lit< tt))
    (reached short 65535 20 0 65535 refl (lit≤ tt) (lit≤ tt))

least_of_0 : LeastPromise bent (density 0) (at 0)
unfolding bent within density at
least_of_0 = record { number = refl; value = sym bent_0 }

least_of_100 : LeastPromise bent (density 100) (at 32768)
unfolding bent within density at
least_of_100 = record { number = refl; value = sym bent_100 }

least_of_65534 : LeastPromise bent (density 65534) (at 65535)
unfolding bent within density at
least_of_65534 = record { number = refl; value = sym bent_65534 }

least_of_last : LeastPromise short (density 20) (at 65535)
unfolding short within density at
least_of_last = record { number = refl; value = sym short_20 }

least_above_last : LeastPromise short (density 21) (Err AboveLast)
unfolding short within density
least_above_last = record { number = refl; value = refl }

least_in_empty : LeastPromise [] (density 0) (Err TableLength)
unfolding within density
least_in_empty = record { number = refl; value = refl }

least_of_65537 : (t : List ℕ) → length t ≡ 65537 → (v : Density) → LeastPromise t v (Err TableLength)
unfolding within
least_of_65537 t e v = record { number = simp e; value = simp e }

-- a falling table comes before a value above its last entry
least_falling : LeastPromise (20 ∷ 10 ∷ []) (density 11) (Err NotNondecreasing)
unfolding within density
least_falling = record { number = refl; value = refl }

-- One sitting, in which the lookup and the least input obey: the table accepted, and its middle entry nudged to 200.
calls : List Call
unfolding density
calls = nudge 1 (density 200) ∷ []

sitting : Throughout CurveObeys (sitting_on bent) (turns_of (sitting_on bent) calls)
sitting = sitting_obeys (every_list_goes (accept_begins (sitting_on bent) bent_ok.size bent_ok.order) calls)
