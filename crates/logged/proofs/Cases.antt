-- Each case of the promise, from the tests that lead there: what the functions' proofs pass on. Assumes nothing.
use mathlib.Core.Path.{◌≡◌, ◌∙◌, refl, sym, ap, subst}
use mathlib.Core.List.{List}
use mathlib.Core.Bool.{true, false}
use Prim.Native.Nat.{ℕ, ◌<◌}
use native.Mathlib.Omega.{arith}
use borrow.Author.Tests.{lt-ltb, le-ltb, ltb-true, leb-true}
use lib.Dec.{leb, ltb}
use Rattle.std.specs.Prelude.{Result, Ok, Err}
use Rattle.table.specs.Sizes.{sized}
use Rattle.table.specs.Refusals.{granted, refused}
use Rattle.table.specs.declared.Refusal.{Refusal}
use Rattle.table.proofs.Sizes.{within_high}
use Rattle.table.proofs.Answers.{done_granted, done_refused}
use Rattle.curve.specs.Promises.{Sitting, sitting_on, start_verdict, accept_verdict, StartPromise, AcceptPromise}
use Rattle.curve.proofs.Promises.{start_granted, start_refused}
use Rattle.nudge_log.specs.Records.{places}
use Rattle.logged.specs.State.{Logged, logged_on}
use Rattle.logged.specs.Promises.{Call, start, accept, call_verdict, leaves, count_after, LogPromise}

pub refused_so : {call : Call} {s : Logged} {why : Refusal} → call_verdict call s ≡ refused why →
    LogPromise call s (Err why) s
refused_so e = record { number = simp e; after = simp e }

pub granted_so : {call : Call} {s s' : Logged} → call_verdict call s ≡ granted → s' ≡ leaves call s →
    LogPromise call s (Ok tt) s'
granted_so e q = record { number = simp e; after = simp e q }

pub same_parts : {t u l m : List ℕ} {k n : ℕ} → t ≡ u → l ≡ m → k ≡ n → logged_on t l k ≡ logged_on u m n
same_parts {t} {u} {l} {m} {k} {n} a b c =
    ap (λ (x : List ℕ). logged_on x l k) a ∙ ap (λ (x : List ℕ). logged_on u x k) b ∙ ap (logged_on u m) c

-- a log is full, or there is room in it
pub is_full : {k : ℕ} → k ≡ places → ltb k places ≡ false
is_full {k} e = le-ltb k places (omega arith)

pub has_room : {k : ℕ} → leb k places ≡ true → (k ≡ places → ⊥) → ltb k places ≡ true
has_room {k} h n = lt-ltb k places (omega (arith, leb-true k places h))

-- none stands, or one does
pub none_stands : {k : ℕ} → k ≡ 0 → ltb 0 k ≡ false
none_stands {k} e = le-ltb 0 k (omega arith)

pub one_stands : {k : ℕ} → (k ≡ 0 → ⊥) → ltb 0 k ≡ true
one_stands {k} n = lt-ltb 0 k (omega arith)

-- an index of a table is 16 bits wide
pub index_narrow : (n i : ℕ) → sized n ≡ true → ltb i n ≡ true → i < 65536
index_narrow n i h l = omega (arith, within_high 1 65536 n h, ltb-true i n l)

-- Start and accept do to the table what they do without a log, and a granted one empties the log.
module _ {t l : List ℕ} {k : ℕ} where
  pub start_so : {t' : List ℕ} (r : Result (Unit {0}) Refusal) → StartPromise (sitting_on t) r (sitting_on t') →
      LogPromise start (logged_on t l k) r (logged_on t' l (count_after r k))
  start_so (Ok tt) a =
      let g = start_granted a in
      granted_so (simp g.0) (same_parts g.1 refl refl)
  start_so (Err why) a =
      subst (λ (s : Sitting). LogPromise start (logged_on t l k) (Err why) (logged_on s.table l k))
      (sym (start_refused a))
      (refused_so (done_refused (start_verdict (sitting_on t)) why a.number))

  pub accept_so : (r : Result (Unit {0}) Refusal) → AcceptPromise (sitting_on t) r (sitting_on t) →
      LogPromise accept (logged_on t l k) r (logged_on t l (count_after r k))
  accept_so (Ok tt) a = granted_so (done_granted (accept_verdict (sitting_on t)) a.number) refl
  accept_so (Err why) a = refused_so (done_refused (accept_verdict (sitting_on t)) why a.number)
