-- `put_escaped` meets its contract. The invariant: what is written and what is still to come add up to the text's
-- length in XML. Assumes nothing.
use Prim.Native.Nat.{◌+◌, ◌≤◌}
use mathlib.Core.Path.{◌≡◌}
use lib.ListN.{length, drop}
use Rattle.picture.specs.Text.{total, escaped_width}
use Rattle.picture.proofs.text.Writer.put_escaped.Given as goal

abbrev pub invariant-loop-b : goal.invariant-loop-b
invariant-loop-b l = (l.b-index ≤ length l.text)
    × (l.self.end + total escaped_width (drop l.b-index l.text) ≡ l.initial.self.end + total escaped_width l.text)
