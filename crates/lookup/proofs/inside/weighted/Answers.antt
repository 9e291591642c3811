-- `weighted` meets its contract: both entries are within the table by the bound on the steps. Assumes nothing.
use native.Mathlib.Nat.{mod-lt}
use native.Mathlib.Omega.{arith}
use Rattle.lookup.proofs.Steps.{upper_lt}
use Rattle.lookup.proofs.Sum.{sum_read}
use Rattle.lookup.proofs.inside.weighted.Goals as goal

pub entry-requires : goal.entry-requires
entry-requires c =
    let p = c.requires in
    omega (arith, c.next_if-upper.ensures, upper_lt _ _ _ p.pos p.some p.inside)

pub returns : goal.returns
returns c = (
  sum_read _ _ _ c.next_if-upper.ensures c.entry.ensures.0 c.entry-2.ensures.0
      c.mix.ensures.0,
  omega (arith, mod-lt c.args.value c.requires.pos, c.mix.ensures.1),
)
