-- The promise of each call can be met (`log_some`) and names one answer and one later state, for refused calls too
-- (`log_one`). Whatever is lent or asked, a table of any length, a count above the places, any words, any index, there
-- is one numbered answer (`log_answer`), and a refused call leaves all as it was (`log_refused`). Also: what the calls
-- do without a log they do with one, and when 15 and 16 are given. Assumes nothing.
use mathlib.Core.Path.{◌≡◌, ◌∙◌, refl, sym, ap}
use mathlib.Core.Logic.{◌↔◌}
use Prim.Native.Nat.{ℕ, ◌≤◌, ◌<◌}
use native.Mathlib.Nat.{le_antisymm}
use native.Mathlib.Omega.{arith}
use borrow.Author.Tests.{lt-ltb, le-leb, ltb-true, ltb-false, leb-true}
use lib.ListN.{length}
use lib.Dec.{leb, ltb}
use Rattle.std.specs.Prelude.{Result, Ok, Err}
use Rattle.table.specs.Sizes.{sized}
use Rattle.table.specs.Order.{Passed, nondecreasing, suits}
use Rattle.table.specs.Refusals.{Verdict, granted, refused, rung, and_then, number_in, if_granted}
use Rattle.table.specs.Answers.{number_of_answer}
use Rattle.table.specs.declared.Density.{Density}
use Rattle.table.specs.declared.Refusal.{Refusal}
use Rattle.table.specs.declared.Refusal.TheVariants.{TableLength, NotNondecreasing, IndexBeyond, OutsideNeighbours}
use Rattle.table.specs.declared.Refusal.TheVariants.{LogFull, NothingToTakeBack, BadLog}
use Rattle.table.proofs.Refusals.{same_verdict, rung_granted, rung_holds, rung_fails, rung_joined}
use Rattle.table.proofs.Answers.{same_done, done_by, done_number, done_is, done_granted, done_refused}
use Rattle.curve.specs.Promises.{sitting_on, StartPromise, AcceptPromise}
use Rattle.nudge.specs.Promises.{nudge_verdict, NudgePromise}
use Rattle.nudge.proofs.Promises.{Nudgeable}
use Rattle.nudge_log.specs.Records.{places}
use Rattle.logged.specs.State.{Logged}
use Rattle.logged.specs.Promises.{Call, start, accept, nudge, take_back, sound_log, call_verdict, leaves, LogPromise}
use Rattle.logged.proofs.Cases.{is_full, none_stands}

-- The promise of each of the four calls can be kept. [logged]
pub log_some : (call : Call) (s : Logged) →
    LogPromise call s (done_by (call_verdict call s)) (if_granted (call_verdict call s) (leaves call s) s)
log_some call s = record { number = done_number (call_verdict call s); after = refl }

module _ {call : Call} {s : Logged} where
  pub log_one : {r q : Result (Unit {0}) Refusal} {s' s'' : Logged} → LogPromise call s r s' → LogPromise call s q s''
      → (r ≡ q) × (s' ≡ s'')
  log_one {r} {q} a b = (same_done r q (a.number ∙ sym b.number), a.after ∙ sym b.after)

  -- Each of the four calls answers what its tests come to. [logged]
  pub log_answer : {r : Result (Unit {0}) Refusal} {s' : Logged} → LogPromise call s r s'
      → r ≡ done_by (call_verdict call s)
  log_answer a = done_is (call_verdict call s) a.number

  -- A granted call has passed its tests, and leaves what is defined. [logged]
  pub log_granted : {s' : Logged} → LogPromise call s (Ok tt) s' →
      (call_verdict call s ≡ granted) × (s' ≡ leaves call s)
  log_granted a = let w = done_granted (call_verdict call s) a.number in (w, a.after ∙ simp w)

  -- A refused call leaves table, log and count as they were. [logged]
  pub log_refused : {why : Refusal} {s' : Logged} → LogPromise call s (Err why) s' → s' ≡ s
  log_refused {why} a = a.after ∙ simp (done_refused (call_verdict call s) why a.number)

-- Start with a log keeps, on the table, the promise of the start without one. [logged::log_start]
pub start_same : {s s' : Logged} {r : Result (Unit {0}) Refusal} → LogPromise start s r s' →
    StartPromise (sitting_on s.table) r (sitting_on s'.table)
start_same {s} a =
    record { number = a.number; table = ap (λ (q : Logged). q.table) a.after ∙ part (call_verdict start s) }
  where
    part : (w : Verdict) → (if_granted w (leaves start s) s).table ≡ if_granted w (leaves start s).table s.table
    part granted = refl
    part (refused why) = refl

-- Accept with a log keeps the promise of the accept without one. [logged::log_accept]
pub accept_same : {s s' : Logged} {r : Result (Unit {0}) Refusal} → LogPromise accept s r s' →
    AcceptPromise (sitting_on s.table) r (sitting_on s'.table)
accept_same {s} a =
    record { number = a.number; table = ap (λ (q : Logged). q.table) a.after ∙ part (call_verdict accept s) }
  where
    part : (w : Verdict) → (if_granted w (leaves accept s) s).table ≡ s.table
    part granted = refl
    part (refused why) = refl

module _ (s : Logged) (i : ℕ) (v : Density) where
  -- With a count of at most 63 its tests are those of the nudge without a log, and whether there is room, 15, comes
  -- last. [logged::log_nudge]
  pub nudge_ladder : s.count ≤ places →
      call_verdict (nudge i v) s ≡
      and_then (nudge_verdict (sitting_on s.table) i v.0) (rung (ltb s.count places) LogFull granted)
  nudge_ladder h =
      let last = rung (ltb s.count places) LogFull granted in
      let fits = rung (suits s.table i v.0) OutsideNeighbours granted in
      let order = rung (nondecreasing s.table) NotNondecreasing fits in
      let index = rung (ltb i (length s.table)) IndexBeyond order in
      simp (le-leb _ _ h)
      (ap (λ (w : Verdict). rung (sized (length s.table)) TableLength w)
      (ap (λ (w : Verdict). rung (ltb i (length s.table)) IndexBeyond w)
      (ap (λ (w : Verdict). rung (nondecreasing s.table) NotNondecreasing w)
      (rung_joined (suits s.table i v.0) OutsideNeighbours granted last)
      ∙ rung_joined (nondecreasing s.table) NotNondecreasing fits last)
      ∙ rung_joined (ltb i (length s.table)) IndexBeyond order last)
      ∙ rung_joined (sized (length s.table)) TableLength index last)

  -- With room it keeps, on the table, the promise of the nudge without a log. [logged::log_nudge]
  pub nudge_same : {r : Result (Unit {0}) Refusal} {s' : Logged} → s.count < places → LogPromise (nudge i v) s r s' →
      NudgePromise (sitting_on s.table) i v r (sitting_on s'.table)
  nudge_same h a =
      let w = nudge_verdict (sitting_on s.table) i v.0 in
      let e : call_verdict (nudge i v) s ≡ w = simp (le-leb s.count places (omega arith), lt-ltb _ _ h) in
      record {
        number = a.number ∙ ap number_in e;
        table =
            ap (λ (q : Logged). q.table) a.after
            ∙ ap (λ (w : Verdict). (if_granted w (leaves (nudge i v) s) s).table) e
            ∙ part w;
      }
    where
      part : (w : Verdict) →
          (if_granted w (leaves (nudge i v) s) s).table ≡ if_granted w (leaves (nudge i v) s).table s.table
      part granted = refl
      part (refused why) = refl

  -- 15 is given exactly where the nudge could be granted without a log, and 63 stand. That is as many as there are
  -- places. [logged::log_nudge]
  pub fifteen_exactly : {r : Result (Unit {0}) Refusal} {s' : Logged} → LogPromise (nudge i v) s r s' →
      (number_of_answer r ≡ 15) ↔ (Nudgeable s.table i v.0 × (s.count ≡ places))
  fifteen_exactly {r} a = (given, full)
    where
      given : number_of_answer r ≡ 15 → Nudgeable s.table i v.0 × (s.count ≡ places)
      given e =
          let w = same_verdict (call_verdict (nudge i v) s) (refused LogFull) (sym a.number ∙ e) in
          let one = rung_holds (sized (length s.table)) TableLength _ LogFull w (λ q. omega arith) in
          let few = rung_holds (leb s.count places) BadLog _ LogFull one.1 (λ q. omega arith) in
          let three = rung_holds (ltb i (length s.table)) IndexBeyond _ LogFull few.1 (λ q. omega arith) in
          let two = rung_holds (nondecreasing s.table) NotNondecreasing _ LogFull three.1 (λ q. omega arith) in
          let four = rung_holds (suits s.table i v.0) OutsideNeighbours _ LogFull two.1 (λ q. omega arith) in
          let room = rung_fails (ltb s.count places) LogFull LogFull four.1 in (
            record {
              size = one.0;
              index = ltb-true i (length s.table) three.0;
              order = two.0;
              fitting = four.0;
            },
            le_antisymm (leb-true s.count places few.0) (ltb-false s.count places room),
          )

      full : Nudgeable s.table i v.0 × (s.count ≡ places) → number_of_answer r ≡ 15
      full f =
          let n = f.0 in
          let few = le-leb s.count places (omega (arith, f.1)) in
          a.number ∙ simp (n.size, few, lt-ltb _ _ n.index, n.order, n.fitting, is_full f.1)

-- A granted nudge could be granted without a log, and fewer than 63 stood. [logged::log_nudge]
pub nudge_found : (s : Logged) (i : ℕ) (v : Density) → call_verdict (nudge i v) s ≡ granted →
    Nudgeable s.table i v.0 × (s.count < places)
nudge_found s i v g =
    let one = rung_granted (sized (length s.table)) TableLength _ g in
    let few = rung_granted (leb s.count places) BadLog _ one.1 in
    let three = rung_granted (ltb i (length s.table)) IndexBeyond _ few.1 in
    let two = rung_granted (nondecreasing s.table) NotNondecreasing _ three.1 in
    let four = rung_granted (suits s.table i v.0) OutsideNeighbours _ two.1 in (
      record { size = one.0; index = ltb-true i (length s.table) three.0; order = two.0; fitting = four.0 },
      ltb-true s.count places (rung_granted (ltb s.count places) LogFull granted four.1).0,
    )

-- A granted take-back had a nudge that stood. [logged::take_back]
pub back_some : (s : Logged) → call_verdict take_back s ≡ granted → 0 < s.count
back_some s g =
    let one = rung_granted (sized (length s.table)) TableLength _ g in
    let two = rung_granted (nondecreasing s.table) NotNondecreasing _ one.1 in
    let sound = rung_granted (sound_log s) BadLog _ two.1 in
    ltb-true 0 s.count (rung_granted (ltb 0 s.count) NothingToTakeBack granted sound.1).0

-- 16 is given exactly where the table may be worked on, and none stands. [logged::take_back]
pub sixteen_exactly : {s s' : Logged} {r : Result (Unit {0}) Refusal} → LogPromise take_back s r s' →
    (number_of_answer r ≡ 16) ↔ (Passed s.table × (s.count ≡ 0))
sixteen_exactly {s} {r = r} a = (given, none)
  where
    given : number_of_answer r ≡ 16 → Passed s.table × (s.count ≡ 0)
    given e =
        let w = same_verdict (call_verdict take_back s) (refused NothingToTakeBack) (sym a.number ∙ e) in
        let one = rung_holds (sized (length s.table)) TableLength _ NothingToTakeBack w (λ q. omega arith) in
        let two =
        rung_holds (nondecreasing s.table) NotNondecreasing _ NothingToTakeBack one.1 (λ q. omega arith) in
        let sound = rung_holds (sound_log s) BadLog _ NothingToTakeBack two.1 (λ q. omega arith) in
        let f = ltb-false 0 s.count (rung_fails (ltb 0 s.count) NothingToTakeBack NothingToTakeBack sound.1) in
        (record { size = one.0; order = two.0 }, omega arith)

    none : Passed s.table × (s.count ≡ 0) → number_of_answer r ≡ 16
    none f =
        a.number ∙ simp (f.0.size, f.0.order, le-leb s.count places (omega (arith, f.1)), none_stands f.1)
