-- `characters` meets its contract. The invariant: what is counted and what is still to come add up to the text's
-- characters. Assumes nothing.
use Prim.Native.Nat.{◌+◌, ◌≤◌}
use mathlib.Core.Path.{◌≡◌}
use lib.ListN.{length, drop}
use Rattle.picture.specs.Text.{total}
use Rattle.picture.specs.Title.{begins}
use Rattle.picture.proofs.title.characters.Given as goal

abbrev pub invariant-loop-b : goal.invariant-loop-b
invariant-loop-b l = (l.b-index ≤ length l.text) × (l.n ≤ l.b-index)
    × (l.n + total begins (drop l.b-index l.text) ≡ total begins l.text)
