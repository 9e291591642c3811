-- The tag's own checks: the verdict from the tests that led to it, and what a granted tag is. Assumes nothing.
use mathlib.Core.Path.{◌≡◌}
use mathlib.Core.Bool.{true, false}
use mathlib.Core.List.{List}
use Prim.Native.Nat.{ℕ, ◌+◌, ◌*◌, ◌≤◌, ◌<◌}
use native.Mathlib.Omega.{arith}
use borrow.Author.Tests.{leb-true, le-leb, lt-leb, eqb-true, eq-eqb, ne_eqb}
use lib.ListN.{length}
use Rattle.table.specs.Refusals.{granted, refused}
use Rattle.table.specs.declared.Refusal.TheVariants.{TableLength, TagLength, WrongSignature, ReservedNotZero}
use Rattle.table.proofs.Refusals.{rung_granted}
use Rattle.icc.specs.Opening.{signature_of, reserved_of}
use Rattle.curv.specs.Tag.{signature, count_of, total, tag_length}
use Rattle.curv.specs.Promises.{tag_verdict}

-- Which totals a tag may have: the one that is written, and no other; so that its entries lie within it.
module _ (n len : ℕ) where
  pub total_right : len ≡ tag_length n → total n len ≡ true
  unfolding total
  total_right e = eq-eqb _ _ e

  pub total_other : (len ≡ tag_length n → ⊥) → total n len ≡ false
  unfolding total
  total_other e = ne_eqb _ _ e

  -- The test of the total holds only of 12 + 2n bytes. [curv::count_entries]
  pub total_exact : total n len ≡ true → len ≡ tag_length n
  unfolding total
  total_exact e = eqb-true _ _ e

  pub total_room : total n len ≡ true → 12 + 2 * n ≤ len
  total_room e = omega (arith, total_exact e)

-- The checks in their order, each past the ones before it.
module _ (b : List ℕ) where
  pub short : length b < 12 → tag_verdict b ≡ refused TagLength
  unfolding tag_verdict
  short h = simp (lt-leb _ _ h)

  module _ (twelve : 12 ≤ length b) where
    pub unsigned : (signature_of b ≡ signature → ⊥) → tag_verdict b ≡ refused WrongSignature
    unfolding tag_verdict
    unsigned e = simp (le-leb _ _ twelve, ne_eqb _ _ e)

    module _ (signed : signature_of b ≡ signature) where
      pub unreserved : (reserved_of b ≡ 0 → ⊥) → tag_verdict b ≡ refused ReservedNotZero
      unfolding tag_verdict
      unreserved e = simp (le-leb _ _ twelve, eq-eqb _ _ signed, ne_eqb _ _ e)

      module _ (zeros : reserved_of b ≡ 0) where
        pub many : 65536 < count_of b → tag_verdict b ≡ refused TableLength
        unfolding tag_verdict
        many h = simp (le-leb _ _ twelve, eq-eqb _ _ signed, eq-eqb _ _ zeros, lt-leb _ _ h)

        module _ (few : count_of b ≤ 65536) where
          pub unwhole : total (count_of b) (length b) ≡ false → tag_verdict b ≡ refused TagLength
          unfolding tag_verdict
          unwhole e = simp (le-leb _ _ twelve, eq-eqb _ _ signed, eq-eqb _ _ zeros, le-leb _ _ few, e)

          pub right : total (count_of b) (length b) ≡ true → tag_verdict b ≡ granted
          unfolding tag_verdict
          right e = simp (le-leb _ _ twelve, eq-eqb _ _ signed, eq-eqb _ _ zeros, le-leb _ _ few, e)

-- what a tag is that passes them all
pub record Readable (b : List ℕ) : Type 0 where
  pub twelve : 12 ≤ length b
  pub signed : signature_of b ≡ signature
  pub zeros : reserved_of b ≡ 0
  pub few : count_of b ≤ 65536
  pub whole : total (count_of b) (length b) ≡ true

-- A tag that is granted has passed all five tests. [curv::count_entries]
pub readable : (b : List ℕ) → tag_verdict b ≡ granted → Readable b
unfolding tag_verdict
readable b e =
    let p = rung_granted _ _ _ e in
    let q = rung_granted _ _ _ p.1 in
    let r = rung_granted _ _ _ q.1 in
    let s = rung_granted _ _ _ r.1 in
    let t = rung_granted _ _ _ s.1 in
    record {
      twelve = leb-true _ _ p.0;
      signed = eqb-true _ _ q.0;
      zeros = eqb-true _ _ r.0;
      few = leb-true _ _ s.0;
      whole = t.0;
    }

-- A tag that passes all five tests is granted. [curv::count_entries]
pub grants : (b : List ℕ) → Readable b → tag_verdict b ≡ granted
grants b r = right b r.twelve r.signed r.zeros r.few r.whole
