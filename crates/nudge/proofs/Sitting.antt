-- What holds throughout a sitting, and that each call keeps it: demand 3's part on the table. There are sittings: every
-- granted start or accept begins one, and from there every list of calls is one (`begins`, `every_list_goes`). Assumes
-- nothing.
use mathlib.Core.Path.{◌≡◌, ◌∙◌, refl, sym, ap, subst}
use mathlib.Core.Bool.{true}
use mathlib.Core.List.{List, [], ◌∷◌}
use Prim.Native.Nat.{ℕ, ◌<◌}
use native.Mathlib.Omega.{arith}
use lib.ListN.{length, set, length-set}
use Rattle.std.specs.Prelude.{Result, Ok, Err}
use Rattle.table.specs.Sizes.{sized, spanned}
use Rattle.table.specs.Order.{nondecreasing, Passed, SixteenBits}
use Rattle.table.specs.Refusals.{Verdict, if_granted}
use Rattle.table.specs.Turns.{Throughout}
use Rattle.table.specs.declared.Density.{Density}
use Rattle.table.specs.declared.Refusal.{Refusal}
use Rattle.table.proofs.Choice.{never}
use Rattle.table.proofs.Sizes.{within_low, within_high, is_within}
use Rattle.table.proofs.Answers.{done_by}
use Rattle.table.proofs.Order.{test_fact, fact_test, set_test, set_keeps_bits}
use Rattle.table.proofs.Fill.{length_tabulated}
use Rattle.curve.specs.Ramp.{ramp, ramp_of}
use Rattle.curve.specs.Promises.{Sitting, sitting_on, start_verdict, accept_verdict}
use Rattle.curve.proofs.RampLaws.{ramp_order, ramp_bits}
use Rattle.curve.proofs.Promises.{start_some, start_granted, start_refused, accept_some, accept_same, accept_granted}
use Rattle.nudge.specs.Promises.{nudge_verdict, NudgePromise}
use Rattle.nudge.specs.Calls.{Call, start, accept, nudge, Step, Turn, Run, opens, WholeSitting}
use Rattle.nudge.specs.Demand.{InOrder, SittingDemand}
use Rattle.nudge.proofs.Promises.{nudge_some, nudge_granted, nudge_refused, nudge_length}

-- What always holds: the table may be worked on.
abbrev Held : Sitting → Type 0
Held s = Passed s.table

-- that of the straight curve may,
held_ramp : (n : ℕ) → spanned n ≡ true → Held (sitting_on (ramp_of n))
held_ramp n h = record {
  size =
      is_within 1 65536 (length (ramp_of n)) (omega (
        arith,
        length_tabulated (ramp n) n,
        within_low 2 65536 n h,
      )) (omega (arith, length_tabulated (ramp n) n, within_high 2 65536 n h));
  order = fact_test (ramp_of n) (ramp_order n h);
}

-- and so may what a granted start or accept leaves
held_open : (call : Call) (s s' : Sitting) → opens call ≡ true → Step s call (Ok tt) s' → Held s'
held_open start s s' o a =
    let g = start_granted a in
    subst Held (sym (ap sitting_on g.1)) (held_ramp (length s.table) g.0)
held_open accept s s' o a =
    let g = accept_granted a in
    subst Held (sym (accept_same a)) (record { size = g.0; order = g.1 })
held_open (nudge i v) s s' o a = absurd (never o)

held_nudge : {s s' : Sitting} {i : ℕ} {v : Density} → Held s → NudgePromise s i v (Ok tt) s' → Held s'
held_nudge {s} {s'} {i} {v} h a =
    let g = nudge_granted a in
    subst Held (sym (ap sitting_on g.1))
    (record {
      size = subst (λ (n : ℕ). sized n ≡ true) (sym (length-set s.table i v.0)) h.size;
      order = set_test s.table i v.0 (test_fact s.table h.order) g.0.index g.0.fitting;
    })

-- After any call, granted or refused, a nondecreasing table of 1 to 65,536 entries still is one. [nudge::nudge]
step_keeps : (call : Call) (r : Result (Unit {0}) Refusal) (s s' : Sitting) → Held s → Step s call r s' → Held s'
step_keeps start (Ok tt) s s' h a = held_open start s s' refl a
step_keeps start (Err why) s s' h a = subst Held (sym (start_refused a)) h
step_keeps accept r s s' h a = subst Held (sym (accept_same a)) h
step_keeps (nudge i v) (Ok tt) s s' h a = held_nudge h a
step_keeps (nudge i v) (Err why) s s' h a = subst Held (sym (nudge_refused a)) h

-- Every call, granted or refused, keeps the table's length. [nudge::nudge]
step_length : (call : Call) (r : Result (Unit {0}) Refusal) (s s' : Sitting) → Step s call r s'
    → length s'.table ≡ length s.table
step_length start (Ok tt) s s' a =
    ap length (start_granted a).1 ∙ length_tabulated (ramp (length s.table)) (length s.table)
step_length start (Err why) s s' a = ap (λ (q : Sitting). length q.table) (start_refused a)
step_length accept r s s' a = ap (λ (q : Sitting). length q.table) (accept_same a)
step_length (nudge i v) r s s' a = nudge_length r a

-- so both hold after each of any list of calls
module _ (lent : Sitting) where
  held_in_order : {s : Sitting} → Held s → length s.table ≡ length lent.table → InOrder lent s
  held_in_order {s} h e = record { order = test_fact s.table h.order; size = h.size; same_length = e }

  run_keeps : (turns : List Turn) (s : Sitting) → Held s → length s.table ≡ length lent.table → Run s turns
      → Throughout (InOrder lent) s turns
  run_keeps [] s h e run = held_in_order h e
  run_keeps (t ∷ turns) s h e run = (
    held_in_order h e,
    run_keeps turns t.after (step_keeps t.call t.answer s t.after h run.0)
        (step_length t.call t.answer s t.after run.0 ∙ e) run.1,
  )

-- After each call of every sitting the table is nondecreasing, and as long as the one that was lent. [nudge]
pub sitting_demand : SittingDemand
sitting_demand lent opening turns w =
    let opened =
    held_open opening.call lent opening.after w.opened
    (subst (λ (r : Result (Unit {0}) Refusal). Step lent opening.call r opening.after) w.granted w.run.0) in
    run_keeps lent turns opening.after opened
    (step_length opening.call opening.answer lent opening.after w.run.0) w.run.1

-- what follows at each turn follows throughout
pub throughout_map : {P Q : Sitting → Type 0} → ((s : Sitting) → P s → Q s) → (turns : List Turn) (s : Sitting)
    → Throughout P s turns → Throughout Q s turns
throughout_map f [] s a = f s a
throughout_map f (t ∷ turns) s a = (f s a.0, throughout_map f turns t.after a.1)

-- Entries stay 16 bits wide where the samples of the nudges are.
abbrev pub Fits : Call → Type 0
Fits start = Unit {0}
Fits accept = Unit {0}
Fits (nudge i v) = v.0 < 65536

abbrev pub AllFit : List Turn → Type 0
AllFit [] = Unit {0}
AllFit (t ∷ turns) = Fits t.call × AllFit turns

abbrev pub Bits : Sitting → Type 0
Bits s = SixteenBits s.table

step_bits : (call : Call) (r : Result (Unit {0}) Refusal) (s s' : Sitting) → Fits call → Bits s → Step s call r s'
    → Bits s'
step_bits start (Ok tt) s s' f b a =
    let g = start_granted a in
    subst SixteenBits (sym g.1) (ramp_bits (length s.table) g.0)
step_bits start (Err why) s s' f b a = subst Bits (sym (start_refused a)) b
step_bits accept r s s' f b a = subst Bits (sym (accept_same a)) b
step_bits (nudge i v) (Ok tt) s s' f b a =
    subst SixteenBits (sym (nudge_granted a).1) (set_keeps_bits s.table i v.0 b f)
step_bits (nudge i v) (Err why) s s' f b a = subst Bits (sym (nudge_refused a)) b

-- The entries stay 16 bits wide where the samples of the nudges are. [nudge]
pub run_keeps_bits : (turns : List Turn) (s : Sitting) → Bits s → AllFit turns → Run s turns → Throughout Bits s turns
run_keeps_bits [] s b f run = b
run_keeps_bits (t ∷ turns) s b f run = (
  b,
  run_keeps_bits turns t.after (step_bits t.call t.answer s t.after f.0 b run.0) f.1 run.1,
)

-- There are sittings.
module _ (lent : Sitting) where
  -- Every granted start or accept begins a sitting. [nudge]
  pub begins : (opening : Turn) → opens opening.call ≡ true → opening.answer ≡ Ok tt
      → Step lent opening.call opening.answer opening.after → WholeSitting lent opening []
  begins opening o g a = record { opened = o; granted = g; run = (a, tt) }

  -- A start of every lent table of 2 to 65,536 entries begins a sitting. [curve::start]
  pub start_begins : spanned (length lent.table) ≡ true → WholeSitting lent
      (record { call = start; answer = (Ok tt); after = sitting_on (ramp_of (length lent.table)) }) []
  start_begins h = begins _ refl refl (record { number = simp h; table = simp h })

  -- An accept of every nondecreasing table of 1 to 65,536 entries begins a sitting. [curve::accept]
  pub accept_begins : sized (length lent.table) ≡ true → nondecreasing lent.table ≡ true
      → WholeSitting lent (record { call = accept; answer = (Ok tt); after = lent }) []
  accept_begins h o = begins _ refl refl (record { number = simp (h, o); table = refl })

-- From there every list of calls is one: each has an answer by its tests, and leaves a table.
abbrev pub verdict_of : Sitting → Call → Verdict
verdict_of s start = start_verdict s
verdict_of s accept = accept_verdict s
verdict_of s (nudge i v) = nudge_verdict s i v.0

abbrev pub leaves : Sitting → Call → Sitting
leaves s start = sitting_on (if_granted (start_verdict s) (ramp_of (length s.table)) s.table)
leaves s accept = s
leaves s (nudge i v) = sitting_on (if_granted (nudge_verdict s i v.0) (set s.table i v.0) s.table)

abbrev pub turns_of : Sitting → List Call → List Turn
turns_of s [] = []
turns_of s (call ∷ calls) =
    record { call = call; answer = done_by (verdict_of s call); after = leaves s call } ∷ turns_of (leaves s call) calls

step_goes : (s : Sitting) (call : Call) → Step s call (done_by (verdict_of s call)) (leaves s call)
step_goes s start = start_some s
step_goes s accept = accept_some s
step_goes s (nudge i v) = nudge_some s i v

turns_run : (calls : List Call) (s : Sitting) → Run s (turns_of s calls)
turns_run [] s = tt
turns_run (call ∷ calls) s = (step_goes s call, turns_run calls (leaves s call))

-- After an opening every list of calls goes on as a sitting. [nudge]
pub every_list_goes : {lent : Sitting} {opening : Turn} → WholeSitting lent opening [] → (calls : List Call)
    → WholeSitting lent opening (turns_of opening.after calls)
every_list_goes {lent} {opening} w calls = record {
  opened = w.opened;
  granted = w.granted;
  run = (w.run.0, turns_run calls opening.after);
}
