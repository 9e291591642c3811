-- The part of a tag as C and Rust see it, made of the library's part. Assumes nothing.
use Prim.Native.Nat.{ℕ}
use mathlib.Core.Path.{◌≡◌, refl, sym, ap, subst, ◌∙◌}
use mathlib.Core.List.{List, []}
use native.Mathlib.Nat.{zero-add}
use native.Mathlib.Omega.{arith}
use denote.Ref.{Bor}
use lib.ListN.{length}
use Rattle.table.specs.Refusals.{Verdict, granted, refused, number_in, if_granted}
use Rattle.table.proofs.Refusals.{number_above}
use Rattle.curv.specs.Promises.{tag_verdict}
use Rattle.curv_part.specs.Promises.{PartPromise, part_of, past}
use Rattle.brassgroat.specs.Carried.{PartCarried}

module _ {tag part : Bor (List ℕ)} {why : ℕ} (kept : PartPromise tag part why) where
  -- a number other than 0 is a refusal's, and then the part is empty and lies at the tag's start
  pub part_refused : (why ≡ 0 → ⊥) → PartCarried tag (record { refusal = why; start = 0; len = 0 })
  part_refused some =
      record {
        part = part;
        kept = kept;
        start = by (tag_verdict tag.now) kept.number kept.place;
        len = empty (tag_verdict tag.now) kept.number kept.bytes;
      }
    where
      by : (v : Verdict) → why ≡ number_in v → part.ref_ptr ≡ if_granted v (past 12 tag.ref_ptr) tag.ref_ptr
          → part.ref_ptr ≡ past 0 tag.ref_ptr
      by granted e place = absurd (some e)
      by (refused w) e place = place ∙ ap (λ (k : ℕ). (tag.ref_ptr.0, k)) (sym (zero-add tag.ref_ptr.1))

      empty : (v : Verdict) → why ≡ number_in v → part.now ≡ if_granted v (part_of tag.now) [] → 0 ≡ length part.now
      empty granted e bytes = absurd (some e)
      empty (refused w) e bytes = sym (ap length bytes)

  -- the number 0 is no refusal's, and then the part lies twelve bytes after the tag's start
  pub part_granted : why ≡ 0 → PartCarried tag (record { refusal = 0; start = 12; len = length part.now })
  part_granted none =
      record {
        part = part;
        kept = subst (PartPromise tag part) none kept;
        start = by (tag_verdict tag.now) kept.number kept.place;
        len = refl;
      }
    where
      by : (v : Verdict) → why ≡ number_in v → part.ref_ptr ≡ if_granted v (past 12 tag.ref_ptr) tag.ref_ptr
          → part.ref_ptr ≡ past 12 tag.ref_ptr
      by granted e place = place
      by (refused w) e place = absurd (omega (arith, number_above w))
