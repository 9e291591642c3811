-- The tag's own checks: the verdict from the tests that led to it, and what a granted tag is. Assumes nothing.
use mathlib.Core.Path.{◌≡◌, ◌∙◌, refl}
use mathlib.Core.List.{List}
use Prim.Native.Nat.{ℕ, ◌≤◌, ◌<◌}
use native.Mathlib.Omega.{arith}
use borrow.Author.Tests.{leb-true, le-leb, lt-leb, eqb-true, eq-eqb, ne_eqb}
use lib.ListN.{length, get_or}
use lib.Dec.{leb, eqb}
use Rattle.table.specs.Refusals.{granted, refused, rung}
use Rattle.table.specs.declared.Refusal.TheVariants.{TagLength, WrongSignature, ReservedNotZero, FunctionType}
use Rattle.table.proofs.Refusals.{rung_granted}
use Rattle.icc.specs.Bytes.{be16}
use Rattle.icc.specs.Opening.{signature_of, reserved_of}
use Rattle.para.specs.Tag.{signature, type_of, reserved_after, count_of, tag_length}
use Rattle.para.specs.Promises.{tag_verdict}

-- The two bytes after the type make 0 exactly if each of them is 0.
module _ (b : List ℕ) where
  pub after_each : reserved_after b ≡ 0 → (get_or b 10 0 ≡ 0) × (get_or b 11 0 ≡ 0)
  unfolding be16
  after_each e = (omega arith, omega arith)

  pub each_after : get_or b 10 0 ≡ 0 → get_or b 11 0 ≡ 0 → reserved_after b ≡ 0
  unfolding be16
  each_after p q = omega arith

-- The checks in their order, each past the ones before it.
module _ (b : List ℕ) where
  pub short : length b < 12 → tag_verdict b ≡ refused TagLength
  unfolding tag_verdict
  short h = simp (lt-leb _ _ h)

  module _ (twelve : 12 ≤ length b) where
    pub unsigned : (signature_of b ≡ signature → ⊥) → tag_verdict b ≡ refused WrongSignature
    unfolding tag_verdict
    unsigned e = simp (le-leb _ _ twelve, ne_eqb _ _ e)

    module _ (signed : signature_of b ≡ signature) where
      pub unreserved : (reserved_of b ≡ 0 → ⊥) → tag_verdict b ≡ refused ReservedNotZero
      unfolding tag_verdict
      unreserved e = simp (le-leb _ _ twelve, eq-eqb _ _ signed, ne_eqb _ _ e)

      pub unreserved_after : reserved_of b ≡ 0 → (reserved_after b ≡ 0 → ⊥) → tag_verdict b ≡ refused ReservedNotZero
      unfolding tag_verdict
      unreserved_after zeros e = simp (le-leb _ _ twelve, eq-eqb _ _ signed, eq-eqb _ _ zeros, ne_eqb _ _ e)

-- a tag whose first twelve bytes are right, whatever its type
pub record Opened (b : List ℕ) : Type 0 where
  pub twelve : 12 ≤ length b
  pub signed : signature_of b ≡ signature
  pub zeros : reserved_of b ≡ 0
  pub after : reserved_after b ≡ 0

module _ (b : List ℕ) (o : Opened b) where
  -- what is left of the checks
  left : tag_verdict b
      ≡ rung (leb (type_of b) 4) FunctionType (rung (eqb (length b) (tag_length (count_of (type_of b)))) TagLength
      granted)
  unfolding tag_verdict
  left = simp (le-leb _ _ o.twelve, eq-eqb _ _ o.signed, eq-eqb _ _ o.zeros, eq-eqb _ _ o.after)

  pub untyped : 4 < type_of b → tag_verdict b ≡ refused FunctionType
  untyped h = left ∙ simp (lt-leb _ _ h)

  -- n being the count that its type has
  module _ (known : type_of b ≤ 4) (n : ℕ) (count : n ≡ count_of (type_of b)) where
    pub unwhole : (length b ≡ tag_length n → ⊥) → tag_verdict b ≡ refused TagLength
    unwhole e = left ∙ rw (← count) (simp (le-leb _ _ known, ne_eqb _ _ e))

    pub right : length b ≡ tag_length n → tag_verdict b ≡ granted
    right e = left ∙ rw (← count) (simp (le-leb _ _ known, eq-eqb _ _ e))

-- what a tag is that passes them all
pub record Readable (b : List ℕ) : Type 0 where
  pub opened : Opened b
  pub known : type_of b ≤ 4
  pub whole : length b ≡ tag_length (count_of (type_of b))

-- A tag that is granted has passed all six tests. [para::read_para]
pub readable : (b : List ℕ) → tag_verdict b ≡ granted → Readable b
unfolding tag_verdict
readable b e =
    let p = rung_granted _ _ _ e in
    let q = rung_granted _ _ _ p.1 in
    let r = rung_granted _ _ _ q.1 in
    let s = rung_granted _ _ _ r.1 in
    let t = rung_granted _ _ _ s.1 in
    let u = rung_granted _ _ _ t.1 in
    record {
      opened = record {
        twelve = leb-true _ _ p.0;
        signed = eqb-true _ _ q.0;
        zeros = eqb-true _ _ r.0;
        after = eqb-true _ _ s.0;
      };
      known = leb-true _ _ t.0;
      whole = eqb-true _ _ u.0;
    }

-- A tag that passes all six tests is granted. [para::read_para]
pub grants : (b : List ℕ) → Readable b → tag_verdict b ≡ granted
grants b r = right b r.opened r.known (count_of (type_of b)) refl r.whole
