-- The places past the count are no part of the log: no call's answer depends on what they hold, nor does anything else
-- that a call leaves. Assumes nothing.
use mathlib.Core.Path.{◌≡◌, ◌∙◌, refl, sym, ap, subst}
use mathlib.Core.Logic.{⊎_elim}
use mathlib.Core.List.{List, [], ◌∷◌, ◌++◌}
use Prim.Native.Nat.{ℕ, ◌+◌, ◌-◌, ◌<◌}
use native.Mathlib.Nat.{eq-zero-or-pos}
use native.Mathlib.Numerals.{add-one}
use native.Mathlib.Omega.{arith}
use borrow.Author.Tests.{le-ltb}
use lib.ListN.{length, get_or, set, take}
use lib.Seq.{take-suc-set, take-take, get_or-take}
use Rattle.std.specs.Prelude.{Result}
use Rattle.table.specs.Refusals.{Verdict, granted, refused, number_in, if_granted}
use Rattle.table.specs.declared.Refusal.{Refusal}
use Rattle.table.proofs.Answers.{same_done}
use Rattle.nudge_log.specs.Records.{places, word}
use Rattle.logged.specs.State.{Logged, logged_on, standing}
use Rattle.logged.specs.Promises.{Call, start, accept, nudge, take_back, sound_log, call_verdict, leaves, LogPromise}
use Rattle.logged.proofs.Promises.{nudge_found, back_some}

-- two states with one table, one count and the same nudges standing
pub record Alike (s q : Logged) : Type 0 where
  pub table : s.table ≡ q.table
  pub count : s.count ≡ q.count
  pub stand : standing s ≡ standing q

-- One table t and one count k beside two logs, l and m, that agree up to the count.
module _ (t l m : List ℕ) (k : ℕ) (e : take k l ≡ take k m) where
  last_same : 0 < k → get_or l (k - 1) 0 ≡ get_or m (k - 1) 0
  last_same some =
      sym (get_or-take k l (k - 1) 0 (omega arith))
      ∙ ap (λ (x : List ℕ). get_or x (k - 1) 0) e
      ∙ get_or-take k m (k - 1) 0 (omega arith)

  sound_same : sound_log (logged_on t l k) ≡ sound_log (logged_on t m k)
  sound_same =
      ⊎_elim
      (λ (z : k ≡ 0). simp (le-ltb 0 k (omega arith)))
      (λ (some : 0 < k). rw (last_same some) refl)
      (eq-zero-or-pos k)

  verdict_same : (call : Call) → call_verdict call (logged_on t l k) ≡ call_verdict call (logged_on t m k)
  verdict_same start = refl
  verdict_same accept = refl
  verdict_same (nudge i v) = refl
  verdict_same take_back = rw sound_same refl

  leaves_alike : length l ≡ places → length m ≡ places → (call : Call) → call_verdict call (logged_on t l k) ≡ granted →
      Alike (leaves call (logged_on t l k)) (leaves call (logged_on t m k))
  leaves_alike a b start g = record { table = refl; count = refl; stand = refl }
  leaves_alike a b accept g = record { table = refl; count = refl; stand = refl }
  leaves_alike a b (nudge i v) g =
      let w = word i (get_or t i 0) v.0 in
      let room = (nudge_found (logged_on t l k) i v g).1 in
      let written : (x : List ℕ) → k < length x → take (k + 1) (set x k w) ≡ take k x ++ (w ∷ []) =
      λ x h. ap (λ (n : ℕ). take n (set x k w)) (add-one k) ∙ take-suc-set x k w h in
      record {
        table = refl;
        count = refl;
        stand = written l (omega arith) ∙ ap (λ (x : List ℕ). x ++ (w ∷ [])) e ∙ sym (written m (omega arith));
      }
  leaves_alike a b take_back g =
      let some = back_some (logged_on t l k) g in
      record {
        table = rw (last_same some) refl;
        count = refl;
        stand = sym (take-take (k - 1) k l (omega arith)) ∙ ap (take (k - 1)) e ∙ take-take (k - 1) k m (omega arith);
      }

  -- what a call leaves of each, by its tests, which are the same of both
  left : (call : Call) → Verdict → List ℕ → Logged
  left call w x = if_granted w (leaves call (logged_on t x k)) (logged_on t x k)

  left_alike : length l ≡ places → length m ≡ places → (call : Call) (w : Verdict) →
      call_verdict call (logged_on t l k) ≡ w → Alike (left call w l) (left call w m)
  unfolding left
  left_alike a b call granted g = leaves_alike a b call g
  left_alike a b call (refused why) g = record { table = refl; count = refl; stand = e }

  both_alike : length l ≡ places → length m ≡ places → (call : Call) {r p : Result (Unit {0}) Refusal} {s q : Logged} →
      LogPromise call (logged_on t l k) r s → LogPromise call (logged_on t m k) p q → (r ≡ p) × Alike s q
  unfolding left
  both_alike a b call {r} {p} {s} {q} x y =
      let same = verdict_same call in
      let w = call_verdict call (logged_on t l k) in
      let right : q ≡ left call w m = y.after ∙ ap (λ (w : Verdict). left call w m) (sym same) in (
        same_done r p (x.number ∙ ap number_in same ∙ sym y.number),
        subst (λ (s : Logged). Alike s q) (sym x.after)
            (subst (Alike (left call w l)) (sym right) (left_alike a b call w refl)),
      )

-- Two logs that agree up to the count are answered the same, and what is left is alike. [logged]
pub past_no_part : {call : Call} {s q s' q' : Logged} {r p : Result (Unit {0}) Refusal} → length s.log ≡ places →
    length q.log ≡ places → Alike s q →
    LogPromise call s r s' → LogPromise call q p q' → (r ≡ p) × Alike s' q'
past_no_part {call} {s} {q} {s'} {q'} {r} {p} a b same x y =
    both_alike s.table s.log q.log s.count
    (same.stand ∙ ap (λ (k : ℕ). take k q.log) (sym same.count)) a b call x
    (subst (λ (t : List ℕ). LogPromise call (logged_on t q.log s.count) p q') (sym same.table)
    (subst (λ (k : ℕ). LogPromise call (logged_on q.table q.log k) p q') (sym same.count) y))
