-- A sitting with a log. Throughout it, the table is the starting one with the standing nudges done in order (document
-- 02's rule), and demand 3 holds; taking all nudges back gives the starting table. There are such sittings: every
-- granted start or accept begins one, and from there every list of calls is one. Assumes nothing.
use mathlib.Core.Path.{◌≡◌, ◌∙◌, refl, sym, ap, subst}
use mathlib.Core.Logic.{◌↔◌, ⊎_elim}
use mathlib.Core.Bool.{true}
use mathlib.Core.List.{List, [], ◌∷◌, ◌++◌}
use Prim.Native.Nat.{ℕ, suc, ◌-◌, ◌≤◌, ◌<◌, zero-le}
use native.Mathlib.Numerals.{add-one}
use native.Mathlib.Nat.{eq-zero-or-pos}
use native.Mathlib.Omega.{arith}
use borrow.Author.Tests.{lt-ltb, le-ltb, le-leb}
use lib.ListN.{length, get_or, set, take, length-set}
use lib.Seq.{take-suc, take-suc-set, take-take, length-take-le}
use lib.Dec.{ltb}
use Rattle.std.specs.Prelude.{Result, Ok, Err}
use Rattle.table.specs.Choice.{pick}
use Rattle.table.specs.Sizes.{sized, spanned}
use Rattle.table.specs.Order.{nondecreasing, suits}
use Rattle.table.specs.Refusals.{granted, number_in, if_granted}
use Rattle.table.specs.Answers.{number_of_answer}
use Rattle.table.specs.Turns.{end}
use Rattle.table.specs.declared.Density.{Density}
use Rattle.table.specs.declared.Refusal.TheVariants.{TableLength, NotNondecreasing, IndexBeyond, OutsideNeighbours}
use Rattle.table.specs.declared.Refusal.TheVariants.{LogFull, NothingToTakeBack}
use Rattle.table.specs.declared.Refusal.{Refusal}
use Rattle.table.proofs.Choice.{never}
use Rattle.table.proofs.Sizes.{within_low, within_high, is_within}
use Rattle.table.proofs.Refusals.{rung_other}
use Rattle.table.proofs.Answers.{same_done, done_by}
use Rattle.table.proofs.Order.{test_fact, fact_test, set_keeps_bits}
use Rattle.table.proofs.Fill.{length_tabulated}
use Rattle.curve.specs.Ramp.{ramp, ramp_of}
use Rattle.curve.proofs.RampLaws.{ramp_order, ramp_bits}
use Rattle.curve.proofs.Promises.{start_granted, accept_granted}
use Rattle.nudge.proofs.Promises.{Nudgeable}
use Rattle.least.proofs.Demand.{demand_3}
use Rattle.nudge_log.specs.Records.{places, word, old_of, index_of, nudged, all_nudged, goes_with}
use Rattle.nudge_log.proofs.Records.{index_word, old_word, new_word, old_narrow}
use Rattle.nudge_log.proofs.Replay.{Grantable, Kept, kept_none, kept_order, kept_more, kept_less, kept_goes}
use Rattle.logged.specs.State.{Logged, standing, last_standing, Lent}
use Rattle.logged.specs.Promises.{Call, start, accept, nudge, take_back, sound_log, call_verdict, leaves, LogPromise}
use Rattle.logged.specs.Sitting.{Typed, Step, Turn, Run, begins, WholeSitting, ended, starting_from, starting_table}
use Rattle.logged.specs.Sitting.{stands_after, stands_from, standing_nudges, Obeys, LogDemand, Backs, AllGranted}
use Rattle.logged.specs.Sitting.{AllBack}
use Rattle.logged.proofs.Promises.{log_some, log_granted, log_refused, start_same, accept_same, nudge_found}
use Rattle.logged.proofs.Promises.{back_some, sixteen_exactly}

-- The first k places are those before the last of them, and that one.
module _ (l : List ℕ) (k : ℕ) (some : 0 < k) (room : k ≤ length l) where
  last_off : take k l ≡ take (k - 1) l ++ (get_or l (k - 1) 0 ∷ [])
  last_off =
      let e : k ≡ suc (k - 1) = omega arith in
      ap (λ (n : ℕ). take n l) e ∙ take-suc l (k - 1) 0 (omega arith)

  -- and what is left without it
  all_but_last : take (length (take k l) - 1) (take k l) ≡ take (k - 1) l
  all_but_last = ap (λ (n : ℕ). take (n - 1) (take k l)) (length-take-le k l room) ∙ take-take (k - 1) k l (omega arith)

-- What always holds of s, where o is the starting table, ws are the nudges that stand, and n entries were lent.
record Held (n : ℕ) (o ws : List ℕ) (s : Logged) : Type 0 where
  kept : Kept o s.table ws
  log_holds : standing s ≡ ws
  few : s.count ≤ places
  types : Lent s
  size : sized (length s.table) ≡ true
  same_length : length s.table ≡ n

-- A granted start or accept begins it, from whatever is lent.
ramp_size : (n : ℕ) → spanned n ≡ true → sized (length (ramp_of n)) ≡ true
ramp_size n h =
    is_within 1 65536 (length (ramp_of n)) (omega (arith, length_tabulated (ramp n) n, within_low 2 65536 n h))
    (omega (arith, length_tabulated (ramp n) n, within_high 2 65536 n h))

held_open : (call : Call) (r : Result (Unit {0}) Refusal) (s s' : Logged) → Lent s → begins call r ≡ true
    → Step s call r s' →
    Held (length s.table) s'.table [] s'
held_open call (Err why) s s' t o a = absurd (never o)
held_open start (Ok tt) s s' t o a =
    let n = length s.table in
    let h : spanned n ≡ true = (start_granted (start_same a.1)).0 in
    subst (λ (q : Logged). Held n q.table [] q) (sym (log_granted a.1).1)
    (record {
      kept = kept_none (fact_test (ramp_of n) (ramp_order n h));
      log_holds = refl;
      few = zero-le;
      types = record { bits = ramp_bits n h; room = t.room };
      size = ramp_size n h;
      same_length = length_tabulated (ramp n) n;
    })
held_open accept (Ok tt) s s' t o a =
    let g = accept_granted (accept_same a.1) in
    subst (λ (q : Logged). Held (length s.table) q.table [] q) (sym (log_granted a.1).1)
    (record {
      kept = kept_none g.1;
      log_holds = refl;
      few = zero-le;
      types = record { bits = t.bits; room = t.room };
      size = g.0;
      same_length = refl;
    })
held_open (nudge i v) (Ok tt) s s' t o a = absurd (never o)
held_open take_back (Ok tt) s s' t o a = absurd (never o)

-- A granted nudge keeps it: one more stands.
module _ {n : ℕ} {o ws : List ℕ} {s : Logged} (h : Held n o ws s) where
  module _ (i : ℕ) (v : Density) (narrow : v.0 < 65536) (g : call_verdict (nudge i v) s ≡ granted) where
    found : Nudgeable s.table i v.0
    found = (nudge_found s i v g).0

    abbrev written : ℕ
    written = word i (get_or s.table i 0) v.0

    may : Grantable s.table written
    may =
        let old = h.types.bits i in
        let x = index_word i (get_or s.table i 0) v.0 old narrow in
        record {
          index = rw x found.index;
          was = rw (x, old_word i (get_or s.table i 0) v.0 old narrow) refl;
          fitting = rw (x, new_word i (get_or s.table i 0) v.0 old narrow) found.fitting;
        }

    does : nudged s.table written ≡ set s.table i v.0
    does =
        let old = h.types.bits i in
        let x = index_word i (get_or s.table i 0) v.0 old narrow in
        rw (x, new_word i (get_or s.table i 0) v.0 old narrow) refl

    held_nudge : Held n o (ws ++ (written ∷ [])) (leaves (nudge i v) s)
    held_nudge =
        let room = (nudge_found s i v g).1 in
        let inside : s.count < length s.log = omega (arith, h.types.room) in
        record {
          kept = subst (λ (t : List ℕ). Kept o t (ws ++ (written ∷ []))) does (kept_more h.kept written may);
          log_holds =
              ap (λ (k : ℕ). take k (set s.log s.count written)) (add-one s.count)
              ∙ take-suc-set s.log s.count written inside
              ∙ ap (λ (l : List ℕ). l ++ (written ∷ [])) h.log_holds;
          few = omega arith;
          types = record {
            bits = set_keeps_bits s.table i v.0 h.types.bits narrow;
            room = length-set s.log s.count written ∙ h.types.room;
          };
          size = rw length-set h.size;
          same_length = length-set s.table i v.0 ∙ h.same_length;
        }

  -- A granted take-back keeps it: one fewer stands.
  held_back : call_verdict take_back s ≡ granted → Held n o (take (length ws - 1) ws) (leaves take_back s)
  held_back g =
      let some = back_some s g in
      let room : s.count ≤ length s.log = omega (arith, h.few, h.types.room) in
      let w = last_standing s in
      let rest = take (s.count - 1) s.log in
      let before : ws ≡ rest ++ (w ∷ []) = sym h.log_holds ∙ last_off s.log s.count some room in
      let after : take (length ws - 1) ws ≡ rest =
      ap (λ (l : List ℕ). take (length l - 1) l) (sym h.log_holds) ∙ all_but_last s.log s.count some room in
      record {
        kept = rw after (kept_less rest w (subst (Kept o s.table) before h.kept));
        log_holds = sym after;
        few = omega (arith, h.few);
        types = record {
          bits = set_keeps_bits s.table (index_of w) (old_of w) h.types.bits (old_narrow w);
          room = h.types.room;
        };
        size = rw length-set h.size;
        same_length = length-set s.table (index_of w) (old_of w) ∙ h.same_length;
      }

  -- So every call keeps it, granted or refused.
  held_step : (call : Call) (r : Result (Unit {0}) Refusal) (s' : Logged) → Step s call r s' →
      Held n (pick (begins call r) s'.table o) (stands_after s call r ws) s'
  held_step call (Err why) s' a = subst (Held n o ws) (sym (log_refused a.1)) h
  held_step start (Ok tt) s' a =
      subst (λ (m : ℕ). Held m s'.table [] s') h.same_length (held_open start (Ok tt) s s' h.types refl a)
  held_step accept (Ok tt) s' a =
      subst (λ (m : ℕ). Held m s'.table [] s') h.same_length (held_open accept (Ok tt) s s' h.types refl a)
  held_step (nudge i v) (Ok tt) s' a =
      let g = log_granted a.1 in
      subst (Held n o (ws ++ (word i (get_or s.table i 0) v.0 ∷ []))) (sym g.1) (held_nudge i v a.0 g.0)
  held_step take_back (Ok tt) s' a =
      let g = log_granted a.1 in
      subst (Held n o (take (length ws - 1) ws)) (sym g.1) (held_back g.0)

held_run : (turns : List Turn) {n : ℕ} {o ws : List ℕ} {s : Logged} → Held n o ws s → Run s turns →
    Held n (starting_from o turns) (stands_from s ws turns) (end s turns)
held_run [] h run = h
held_run (t ∷ turns) h run = held_run turns (held_step h t.call t.answer t.after run.0) run.1

held_sitting : {lent : Logged} {opening : Turn} (turns : List Turn) → WholeSitting lent opening turns →
    Held (length lent.table) (starting_table opening turns) (standing_nudges opening turns) (ended opening turns)
held_sitting {lent} {opening} turns w =
    held_run turns
    (held_open opening.call opening.answer lent opening.after w.types w.opened w.run.0) w.run.1

-- What that tells of the next call.
module _ {n : ℕ} {o ws : List ℕ} {s : Logged} (h : Held n o ws s) where
  last_goes : 0 < s.count → goes_with s.table (last_standing s) ≡ true
  last_goes some =
      let room : s.count ≤ length s.log = omega (arith, h.few, h.types.room) in
      kept_goes (take (s.count - 1) s.log) (last_standing s)
      (subst (Kept o s.table) (sym h.log_holds ∙ last_off s.log s.count some room) h.kept)

  sound : sound_log s ≡ true
  sound =
      ⊎_elim
      (λ (e : s.count ≡ 0). simp (le-leb _ _ h.few, le-ltb 0 s.count (omega arith)))
      (λ (some : 0 < s.count). simp (le-leb _ _ h.few, lt-ltb _ _ some, last_goes some))
      (eq-zero-or-pos s.count)

  never_17 : (call : Call) (r : Result (Unit {0}) Refusal) (s' : Logged) → Step s call r s' → number_of_answer r ≡ 17
      → ⊥
  never_17 call r s' a e = go call (sym a.1.number ∙ e)
    where
      go : (call : Call) → number_in (call_verdict call s) ≡ 17 → ⊥
      go start = rung_other (spanned (length s.table)) TableLength granted (λ q. omega arith) (λ q. omega arith)
      go accept =
          rung_other (sized (length s.table)) TableLength _ (λ q. omega arith)
          (rung_other (nondecreasing s.table) NotNondecreasing granted (λ q. omega arith) (λ q. omega arith))
      go (nudge i v) =
          rung_other (sized (length s.table)) TableLength _ (λ q. omega arith)
          (simp (le-leb _ _ h.few)
          (rung_other (ltb i (length s.table)) IndexBeyond _ (λ q. omega arith)
          (rung_other (nondecreasing s.table) NotNondecreasing _ (λ q. omega arith)
          (rung_other (suits s.table i v.0) OutsideNeighbours _ (λ q. omega arith)
          (rung_other (ltb s.count places) LogFull granted (λ q. omega arith) (λ q. omega arith))))))
      go take_back =
          rung_other (sized (length s.table)) TableLength _ (λ q. omega arith)
          (rung_other (nondecreasing s.table) NotNondecreasing _ (λ q. omega arith)
          (rw sound
          (rung_other (ltb 0 s.count) NothingToTakeBack granted (λ q. omega arith) (λ q. omega arith))))

  back_granted : (r : Result (Unit {0}) Refusal) (s' : Logged) → Step s take_back r s' → 0 < s.count → r ≡ Ok tt
  back_granted r s' a some =
      let order = kept_order h.kept in
      same_done r (Ok tt)
      (a.1.number ∙ simp (h.size, order, le-leb _ _ h.few, lt-ltb _ _ some, last_goes some))

  back_refused : (r : Result (Unit {0}) Refusal) (s' : Logged) → Step s take_back r s'
      → (number_of_answer r ≡ 16) ↔ (s.count ≡ 0)
  back_refused r s' a = (
    (λ e. ((sixteen_exactly a.1).0 e).1),
    (λ e. (sixteen_exactly a.1).1 (record { size = h.size; order = kept_order h.kept }, e)),
  )

  held_obeys : {lent : Logged} → n ≡ length lent.table → Obeys lent o ws s
  held_obeys e =
      let order = test_fact s.table (kept_order h.kept) in
      record {
        rule = sym h.kept.comes;
        log_holds = h.log_holds;
        few = h.few;
        types = h.types;
        order = order;
        size = h.size;
        same_length = h.same_length ∙ e;
        lookup = demand_3.lookup s.table h.size order;
        least = demand_3.least s.table h.size order;
        never_17 = never_17;
        back_refused = back_refused;
        back_granted = back_granted;
      }

-- At the end of every sitting document 02's rule and demand 3 hold, and no call is refused with 17. [logged]
pub log_demand : LogDemand
log_demand lent opening turns w = held_obeys (held_sitting turns w) refl

-- The first turns of a sitting are a sitting.
first_run : (turns more : List Turn) (s : Logged) → Run s (turns ++ more) → Run s turns
first_run [] more s run = tt
first_run (t ∷ turns) more s run = (run.0, first_run turns more t.after run.1)

-- The first turns of a sitting are a sitting. [logged]
pub first_turns : {lent : Logged} {opening : Turn} (turns more : List Turn) →
    WholeSitting lent opening (turns ++ more) →
    WholeSitting lent opening turns
first_turns {opening = opening} turns more w = record {
  types = w.types;
  opened = w.opened;
  run = (w.run.0, first_run turns more opening.after w.run.1);
}

-- Where none stands, the table is the starting one. [logged]
pub none_stands_so : {lent : Logged} {o ws : List ℕ} {s : Logged} → Obeys lent o ws s → s.count ≡ 0 → s.table ≡ o
unfolding all_nudged
none_stands_so {o = o} {s = s} b e =
    let none : standing s ≡ [] = ap (λ (k : ℕ). take k s.log) e in
    b.rule ∙ ap (all_nudged o) (sym b.log_holds ∙ none)

-- Take-backs lead there, each granted.
module _ {n : ℕ} {o : List ℕ} where
  backs_lead : (backs : List Turn) {ws : List ℕ} {s : Logged} → Held n o ws s → Run s backs → Backs backs →
      length backs ≡ s.count →
      AllGranted backs × ((end s backs).table ≡ o)
  backs_lead [] {s = s} h run b e = (tt, none_stands_so (held_obeys h {lent = s} (sym h.same_length)) (sym e))
  backs_lead (t ∷ backs) {ws} {s} h run b e =
      let step : Step s take_back t.answer t.after =
      subst (λ (call : Call). Step s call t.answer t.after) b.0 run.0 in
      let yes = back_granted h t.answer t.after step (omega arith) in
      let g = log_granted (subst (λ (r : Result (Unit {0}) Refusal). LogPromise take_back s r t.after) yes step.1) in
      let less : t.after.count ≡ s.count - 1 = ap (λ (q : Logged). q.count) g.1 in
      let held = subst (Held n o (take (length ws - 1) ws)) (sym g.1) (held_back h g.0) in
      let rest = backs_lead backs held run.1 b.1 (omega arith) in
      ((yes, rest.0), rest.1)

-- Take back all that stand, and the starting table is there again. [logged]
pub all_back : AllBack
all_back lent opening turns w backs run b e = backs_lead backs (held_sitting turns w) run b e

-- Every granted start or accept begins a sitting. [logged]
pub begins_one : {lent : Logged} (opening : Turn) → Lent lent → begins opening.call opening.answer ≡ true →
    Step lent opening.call opening.answer opening.after → WholeSitting lent opening []
begins_one opening t o a = record { types = t; opened = o; run = (a, tt) }

-- A start of every lent table of 2 to 65,536 entries begins a sitting, whatever its log holds and counts. [logged]
pub start_begins : {lent : Logged} → Lent lent → spanned (length lent.table) ≡ true →
    WholeSitting lent (record { call = start; answer = (Ok tt); after = leaves start lent }) []
start_begins t h = begins_one _ t refl (tt, record { number = simp h; after = simp h })

-- An accept of every nondecreasing table of 1 to 65,536 entries begins a sitting. [logged]
pub accept_begins : {lent : Logged} → Lent lent → sized (length lent.table) ≡ true →
    nondecreasing lent.table ≡ true →
    WholeSitting lent (record { call = accept; answer = (Ok tt); after = leaves accept lent }) []
accept_begins t h r = begins_one _ t refl (tt, record { number = simp (h, r); after = simp (h, r) })

-- From there every list of calls, given what their types allow, is one.
abbrev pub turns_of : Logged → List Call → List Turn
turns_of s [] = []
turns_of s (call ∷ calls) =
    let after = if_granted (call_verdict call s) (leaves call s) s in
    record { call = call; answer = done_by (call_verdict call s); after = after } ∷ turns_of after calls

abbrev pub AllTyped : List Call → Type 0
AllTyped [] = Unit {0}
AllTyped (call ∷ calls) = Typed call × AllTyped calls

turns_run : (calls : List Call) (s : Logged) → AllTyped calls → Run s (turns_of s calls)
turns_run [] s t = tt
turns_run (call ∷ calls) s t =
    ((t.0, log_some call s), turns_run calls (if_granted (call_verdict call s) (leaves call s) s) t.1)

-- After an opening every list of calls goes on as a sitting. [logged]
pub every_list_goes : {lent : Logged} {opening : Turn} → WholeSitting lent opening [] → (calls : List Call) →
    AllTyped calls →
    WholeSitting lent opening (turns_of opening.after calls)
every_list_goes {opening = opening} w calls t = record {
  types = w.types;
  opened = w.opened;
  run = (w.run.0, turns_run calls opening.after t);
}
