-- Worked examples, by computation: the part of a tag with entries, of one without, and of none. Assumes nothing.
use mathlib.Core.Path.{refl}
use mathlib.Core.List.{[], ◌∷◌}
use Prim.Native.Nat.{ℕ}
use Rattle.icc.specs.Bytes.{be32}
use Rattle.curv.specs.Tag.{total}
use Rattle.curv.specs.Promises.{tag_verdict}
use Rattle.curv.proofs.Worked.{none, two}
use Rattle.curv_part.specs.Promises.{past, PartPromise}

-- The part, wherever the tag lies.
module _ (at : ℕ × ℕ) where
  two_part : PartPromise (record { ref_ptr = at; now = two })
      (record { ref_ptr = past 12 at; now = 18 ∷ 52 ∷ 255 ∷ 254 ∷ [] }) 0
  unfolding tag_verdict total be32
  two_part = record { number = refl; bytes = refl; place = refl }

  none_part : PartPromise (record { ref_ptr = at; now = none })
      (record { ref_ptr = past 12 at; now = [] }) 0
  unfolding tag_verdict total be32
  none_part = record { number = refl; bytes = refl; place = refl }

  refused_part : PartPromise (record { ref_ptr = at; now = [] }) (record { ref_ptr = at; now = [] }) 8
  unfolding tag_verdict
  refused_part = record { number = refl; bytes = refl; place = refl }
