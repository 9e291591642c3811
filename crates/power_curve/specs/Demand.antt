-- What document 02, (iv), asks of gamma curves, stated of any code that keeps the promises. Assumes nothing.
use Rattle.std.specs.Prelude.{ℕ, ◌+◌, ◌-◌, ◌*◌, ◌^◌, ◌≤◌, ◌<◌, ◌≡◌, true, List, length, get_or, Result, Ok}
use Rattle.table.specs.Sizes.{within, spanned}
use Rattle.table.specs.Answers.{number_of_answer, value_of_looked}
use Rattle.table.specs.declared.Drive.{Drive}
use Rattle.table.specs.declared.Density.{Density}
use Rattle.table.specs.declared.Refusal.{Refusal}
use Rattle.curve.specs.Ramp.{ramp}
use Rattle.curve.specs.Promises.{sitting_on, StartPromise, AcceptPromise}
use Rattle.power_curve.specs.Curve.{exponent_of}
use Rattle.power_curve.specs.Promises.{allowed_exponent, PowerPromise, PowerTablePromise}

-- n is within one of M·(x/M)^(p/N): (n-1)^N·M^p ≤ x^p·M^N ≤ (n+1)^N·M^p, where n - 1 is 0 for an n of 0
pub record Near (N M p x n : ℕ) : Type 0 where
  pub low : (n - 1) ^ N * M ^ p ≤ x ^ p * M ^ N
  pub high : x ^ p * M ^ N ≤ (n + 1) ^ N * M ^ p

-- a value with the exponent p: a 16-bit x, and any answer that keeps the promise there
pub record PowerIn (p : ℕ) : Type 0 where
  pub drive : Drive
  pub answer : Result Density Refusal
  pub bits : drive.0 ≤ 65535
  pub kept : PowerPromise drive p answer

module _ {p : ℕ} (v : PowerIn p) where
  abbrev pub x_of : ℕ
  x_of = v.drive.0

  abbrev pub sample_of : ℕ
  sample_of = value_of_looked v.answer

-- one at x
pub record PowerAt (p x : ℕ) : Type 0 where
  pub power : PowerIn p
  pub there : x_of power ≡ x

pub record ValuesObey (p : ℕ) : Type 0 where
  -- there is one at every x, and none is refused
  pub everywhere : (x : ℕ) → x ≤ 65535 → PowerAt p x
  pub granted : (v : PowerIn p) → number_of_answer v.answer ≡ 0
  -- it meets the bound
  pub near : (v : PowerIn p) → Near 65536 65535 p (x_of v) (sample_of v)
  -- it is 0 at 0 and 65535 at 65535, never falls as x rises, and is at most 65535
  pub first : (v : PowerIn p) → x_of v ≡ 0 → sample_of v ≡ 0
  pub last : (v : PowerIn p) → x_of v ≡ 65535 → sample_of v ≡ 65535
  pub never_falls : (v w : PowerIn p) → x_of v ≤ x_of w → sample_of v ≤ sample_of w
  pub at_most : (v : PowerIn p) → sample_of v ≤ 65535

-- a table of n entries with the exponent p, asked for with the output `out`: any answer and later table that keep the
-- promise
pub record TableIn (n p : ℕ) (out : List ℕ) : Type 0 where
  pub answer : Result (Unit {0}) Refusal
  pub table : List ℕ
  pub kept : PowerTablePromise out n p answer table

pub record TablesObey (n p : ℕ) (out : List ℕ) : Type 0 where
  -- there is one, and none is refused
  pub somewhere : TableIn n p out
  pub granted : (t : TableIn n p out) → t.answer ≡ Ok tt
  -- it has n entries, each the value at its entry of the start ramp, and accept grants it
  pub size : (t : TableIn n p out) → length t.table ≡ n
  pub entries : (t : TableIn n p out) (i : ℕ) → i < n → (v : PowerIn p) → x_of v ≡ ramp n i →
      get_or t.table i 0 ≡ sample_of v
  pub accepted : (t : TableIn n p out) → AcceptPromise (sitting_on t.table) (Ok tt) (sitting_on t.table)

pub record PowerDemand : Type 0 where
  pub values : (p : ℕ) → allowed_exponent p ≡ true → ValuesObey p
  pub tables : (n p : ℕ) (out : List ℕ) → spanned n ≡ true → allowed_exponent p ≡ true → length out ≡ n →
      TablesObey n p out
  -- at p = 65536 the value is x itself
  pub one : (v : PowerIn 65536) → sample_of v ≡ x_of v
  -- a gamma tag's entry may be 1 to 1,024, and one of 256 is start on the same buffer, refused or not
  pub entry : (k : ℕ) → allowed_exponent (exponent_of k) ≡ within 1 1024 k
  pub straight : {out t : List ℕ} {r : Result (Unit {0}) Refusal}
      → PowerTablePromise out (length out) (exponent_of 256) r t →
      StartPromise (sitting_on out) r (sitting_on t)
