-- `goes_with` makes the three tests in their order. Assumes nothing.
use mathlib.Core.Path.{◌∙◌, sym}
use Rattle.nudge_log.proofs.Records.{goes_beyond, goes_other, goes_same}
use Rattle.nudge_log.proofs.inside.goes_with.Goals as goal

pub returns-then-table-i : goal.returns-then-table-i
returns-then-table-i c =
    sym (goes_beyond _ _ (rw c.index_of-i.ensures at c.if-table-i.true))

pub returns-then-entry-wide : goal.returns-then-entry-wide
returns-then-entry-wide c =
    let i = c.index_of-i.ensures in
    let n = c.wide.ensures.0 ∙ c.new_of.ensures in
    sym (goes_other _ _ (rw i at c.if-table-i.false) (rw (c.entry.ensures.0, n, i) at c.if-entry-wide.true))

pub returns : goal.returns
returns c =
    let i = c.index_of-i.ensures in
    let n = c.wide.ensures.0 ∙ c.new_of.ensures in
    let s = goes_same _ _ (rw i at c.if-table-i.false) (rw (c.entry.ensures.0, n, i) at c.if-entry-wide.false) in
    c.suits.ensures ∙ rw (i, c.wide-2.ensures.0, c.old_of.ensures) (sym s)
