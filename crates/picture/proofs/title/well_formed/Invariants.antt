-- `well_formed` meets its contract. The invariant: from here the rest of the text leads where the whole text leads from
-- the start. Assumes nothing.
use Prim.Native.Nat.{◌≤◌}
use mathlib.Core.Path.{◌≡◌}
use lib.ListN.{length, drop}
use Rattle.picture.specs.declared.title.Next.{Next}
use Rattle.picture.specs.Title.{after_all}
use Rattle.picture.proofs.title.well_formed.Given as goal

abbrev pub invariant-loop-b : goal.invariant-loop-b
invariant-loop-b l = (l.b-index ≤ length l.text) × (after_all l.s (drop l.b-index l.text) ≡ after_all Next.First l.text)
