-- `fill` meets its contract. The invariant: where the rule gives what f gives, the buffer holds f's entries up to i,
-- and from there on what it held. Assumes nothing.
use Prim.Native.Nat.{ℕ, ◌<◌}
use mathlib.Core.Path.{◌≡◌}
use lib.ListN.{length}
use Rattle.table.proofs.Fill.{Filling}
use Rattle.table.proofs.inside.fill.Given as goal

abbrev pub invariant-loop-i : goal.invariant-loop-i
invariant-loop-i g l =
    (f : ℕ → g.row.T.Denot)
    → ((i : ℕ) (x : g.row.T.Denot) → i < length l.initial.out → goal.F-post g l.rule i x → x ≡ f i)
    → Filling f l.initial.out l.i l.out
