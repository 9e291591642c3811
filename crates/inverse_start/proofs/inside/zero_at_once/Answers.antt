-- `zero_at_once` meets its contract, test by test. Assumes nothing.
use borrow.Author.Tests.{eq-eqb, ne_eqb, lt-ltb, le-ltb}
use Rattle.inverse_start.specs.Start.{zero_at_once}
use Rattle.inverse_start.proofs.inside.zero_at_once.Goals as goal

pub returns-then-v-ne0 : goal.returns-then-v-ne0
unfolding zero_at_once
returns-then-v-ne0 c =
    simp (ne_eqb _ _ c.if-v-ne0.true)

pub returns-then-z-eq0 : goal.returns-then-z-eq0
unfolding zero_at_once
returns-then-z-eq0 c =
    simp (eq-eqb _ _ c.if-v-ne0.false, eq-eqb _ _ c.if-z-eq0.true)

pub returns-then-z-gt1 : goal.returns-then-z-gt1
unfolding zero_at_once
returns-then-z-gt1 c =
    simp (eq-eqb _ _ c.if-v-ne0.false, ne_eqb _ _ c.if-z-eq0.false, lt-ltb _ _ c.if-z-gt1.true)

pub returns : goal.returns
unfolding zero_at_once
returns c =
    simp (eq-eqb _ _ c.if-v-ne0.false, ne_eqb _ _ c.if-z-eq0.false, le-ltb _ _ c.if-z-gt1.false)
