-- Whatever keeps the promises meets document 02's demand on gamma curves. Assumes nothing.
use mathlib.Core.Path.{◌≡◌, ◌∙◌, refl, sym, ap, subst}
use mathlib.Core.Bool.{true}
use mathlib.Core.List.{List}
use Prim.Native.Nat.{ℕ, ◌≤◌, ◌<◌}
use native.Mathlib.Omega.{arith}
use borrow.Author.Tests.{eq-eqb}
use lib.Dec.{lit≤}
use lib.ListN.{length, get_or}
use Rattle.std.specs.Prelude.{Result, Ok}
use Rattle.table.specs.Sizes.{sized, spanned}
use Rattle.table.specs.Order.{nondecreasing, Nondecreasing}
use Rattle.table.specs.declared.Refusal.{Refusal}
use Rattle.table.proofs.Sizes.{within_low, within_high, is_within}
use Rattle.table.proofs.Order.{fact_test}
use Rattle.table.proofs.Fill.{length_tabulated, get_or_tabulated, tabulated_same}
use Rattle.table.proofs.Answers.{looked_by, done_by}
use Rattle.curve.specs.Ramp.{ramp, ramp_of}
use Rattle.curve.specs.Promises.{sitting_on, StartPromise, AcceptPromise}
use Rattle.curve.proofs.RampLaws.{ramp_rises, ramp_fits}
use Rattle.power_curve.specs.Curve.{value_at, entry_at, table_of, exponent_of}
use Rattle.power_curve.specs.Promises.{allowed_exponent, power_verdict, power_table_verdict, PowerTablePromise}
use Rattle.power_curve.specs.Demand.{Near, PowerIn, x_of, sample_of, ValuesObey, TableIn, TablesObey, PowerDemand}
use Rattle.power_curve.proofs.Promises.{power_some, power_granted, power_table_some, power_table_granted}
use Rattle.power_curve.proofs.Tags.{entry_range}
use Rattle.power_curve.proofs.Values.{value_near, value_le, value_rises, value_first, value_last, value_by_one}

-- Values.
module _ (p : ℕ) (allowed : allowed_exponent p ≡ true) where
  some : 0 < p
  some = within_low 1 262144 p allowed

  few : p ≤ 262144
  few = within_high 1 262144 p allowed

  is : (v : PowerIn p) → sample_of v ≡ value_at p (x_of v)
  is v = (power_granted allowed v.kept).1

  pub values_obey : ValuesObey p
  values_obey = record {
    everywhere = λ (x : ℕ) (h : x ≤ 65535). record {
      power = record {
        drive = record { 0 = x };
        answer = looked_by (power_verdict p) (value_at p x);
        bits = h;
        kept = power_some (record { 0 = x }) p;
      };
      there = refl;
    };
    granted = λ v. (power_granted allowed v.kept).0;
    near = λ v. subst (λ (n : ℕ). Near 65536 65535 p (x_of v) n) (sym (is v)) (value_near p (x_of v) v.bits some few);
    first = λ v (e : x_of v ≡ 0). is v ∙ ap (value_at p) e ∙ value_first p some;
    last = λ v (e : x_of v ≡ 65535). is v ∙ ap (value_at p) e ∙ value_last p;
    never_falls = λ v w (h : x_of v ≤ x_of w). rw (is v, is w) (value_rises p (x_of v) (x_of w) h w.bits);
    at_most = λ v. rw (is v) (value_le p (x_of v) v.bits);
  }

-- Tables.
module _ (n p : ℕ) (size : spanned n ≡ true) where
  entries_rise : Nondecreasing (table_of p n)
  entries_rise i j ij l =
      let m : j < n = subst (λ (k : ℕ). j < k) (length_tabulated (entry_at p n) n) l in
      rw (get_or_tabulated (entry_at p n) n i 0 (omega arith), get_or_tabulated (entry_at p n) n j 0 m)
      (value_rises p (ramp n i) (ramp n j) (ramp_rises n size i j ij) (omega (arith, ramp_fits n size j m)))

  -- Accept grants the table. [power_curve::power_table, power_curve::tag_power_table]
  pub table_accepted : AcceptPromise (sitting_on (table_of p n)) (Ok tt) (sitting_on (table_of p n))
  table_accepted =
      let l : length (table_of p n) ≡ n = length_tabulated (entry_at p n) n in
      let low = within_low 2 65536 n size in
      let high = within_high 2 65536 n size in
      let s : sized (length (table_of p n)) ≡ true
      = is_within 1 65536 (length (table_of p n)) (omega arith) (omega arith) in
      let o : nondecreasing (table_of p n) ≡ true = fact_test (table_of p n) entries_rise in
      record { number = simp (s, o); table = refl }

  module _ (out : List ℕ) (allowed : allowed_exponent p ≡ true) (l : length out ≡ n) where
    known : (t : TableIn n p out) → (t.answer ≡ Ok tt) × (t.table ≡ table_of p n)
    known t = power_table_granted size allowed l t.kept

    -- It is granted, and has n entries, each the single value at its drive. [power_curve::power_table,
    -- power_curve::tag_power_table]
    pub tables_obey : TablesObey n p out
    tables_obey = record {
      somewhere = record { answer = done_by (power_table_verdict out n p); table = _; kept = power_table_some out n p };
      granted = λ t. (known t).0;
      size = λ t. ap length (known t).1 ∙ length_tabulated (entry_at p n) n;
      entries = λ t (i : ℕ) (h : i < n) (v : PowerIn p) (e : x_of v ≡ ramp n i).
          ap (λ (u : List ℕ). get_or u i 0) (known t).1
          ∙ get_or_tabulated (entry_at p n) n i 0 h
          ∙ sym ((power_granted allowed v.kept).1 ∙ ap (value_at p) e);
      accepted = λ t.
          subst (λ (u : List ℕ). AcceptPromise (sitting_on u) (Ok tt) (sitting_on u)) (sym (known t).1) table_accepted;
    }

-- An exponent of 1.
one_allowed : allowed_exponent 65536 ≡ true
one_allowed = is_within 1 262144 65536 (lit≤ tt) (lit≤ tt)

straight_table : (n : ℕ) → table_of 65536 n ≡ ramp_of n
straight_table n = tabulated_same (entry_at 65536 n) (ramp n) n (λ i h. value_by_one (ramp n i))

-- Of a gamma tag's entry 256 the curve is start on the same buffer, refused or not. [power_curve::power_table,
-- power_curve::tag_power_table]
pub straight_start : {out t : List ℕ} {r : Result (Unit {0}) Refusal}
    → PowerTablePromise out (length out) (exponent_of 256) r t →
    StartPromise (sitting_on out) r (sitting_on t)
straight_start {out} {t} {r} a =
    let e = eq-eqb (length out) (length out) refl in
    record {
      number = a.number ∙ simp (one_allowed, e);
      table = a.after ∙ simp (one_allowed, e, straight_table (length out));
    }

-- What document 02 asks of gamma curves holds, of whatever keeps the two promises. [power_curve]
pub power_demand : PowerDemand
power_demand = record {
  values = values_obey;
  tables = λ (n p : ℕ) (out : List ℕ) (s : spanned n ≡ true) (h : allowed_exponent p ≡ true) (l : length out ≡ n).
      tables_obey n p s out h l;
  one = λ v. (power_granted one_allowed v.kept).1 ∙ value_by_one (x_of v);
  entry = entry_range;
  straight = straight_start;
}
